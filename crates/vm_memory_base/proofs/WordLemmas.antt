-- Pages as bits of words.
use Rattle.std.proofs.Common.{◌≡◌, ℕ, suc, ◌-◌, ◌*◌, ◌/◌, ◌%◌, ◌^◌, ◌<◌, ◌≤◌, ap, arith}
use Rattle.std.proofs.Math.Nat.{div-eq_of_lt}
use Rattle.std.proofs.Math.Pow.{pow_mono}
use Rattle.std.proofs.lemmas.Nat.{and_le_r}
use Rattle.std.specs.Int.Bits.{bit_and}

-- a number below a power of two has no bit at or past it
no_bit : (n pages bit : ℕ) → n < 2 ^ pages → pages ≤ bit → n / 2 ^ bit % 2 ≡ 0
no_bit n pages bit below past =
    ap (λ (q : ℕ). q % 2) (div-eq_of_lt (omega (arith, pow_mono {i = pages} {j = bit} past, below)))

-- a word that is cut to its first pages has no other bit
pub cut_word : (word pages bit : ℕ) → pages < 64 → pages ≤ bit
    → bit_and word (1 * 2 ^ pages % 2 ^ 64 - 1) / 2 ^ bit % 2 ≡ 0
cut_word word pages bit small past =
    let next : 2 ^ suc pages ≤ 2 ^ 64 = pow_mono {i = suc pages} {j = 64} (omega arith) in
    let some : 2 ^ 0 ≤ 2 ^ pages = pow_mono {i = 0} {j = pages} (omega arith) in
    let below : bit_and word (1 * 2 ^ pages % 2 ^ 64 - 1) < 2 ^ pages =
    let le = and_le_r word (1 * 2 ^ pages % 2 ^ 64 - 1) in omega (arith, le, next, some) in
    no_bit (bit_and word (1 * 2 ^ pages % 2 ^ 64 - 1)) pages bit below past
