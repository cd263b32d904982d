-- Clearing the low bits of n + (p - 1) gives the least multiple of the power of two p at or above n.
use Rattle.std.proofs.Common.{◌≡◌, ℕ, zero, suc, ◌+◌, ◌-◌, ◌*◌, ◌/◌, ◌%◌, ◌^◌, ◌<◌, ◌≤◌, arith, bit_and, inl, inr}
use Rattle.std.specs.Int.{w64, bit_not, next_multiple_of}
use Rattle.vm_memory_base.specs.PowerOfTwo.{HasOneBit}
use Rattle.std.proofs.Math.Nat.{mod-eq_of_lt, mod_self, sub-zero, pow-suc}
use Rattle.std.specs.Int.Bits.{and_self}
use Rattle.std.proofs.lemmas.Bool.{cases_lt}
use Rattle.std.proofs.lemmas.Nat.{div-mul-add, div-add-mod', pow_below, mod_below, and_block}
use Rattle.std.proofs.lemmas.Nat.Bits.{and_high_mask}

-- a number that lies r above a multiple of p, rounded up
round_up_from : (q p r : ℕ) → r < p → ((q * p + r) + (p - 1)) / p * p ≡ (q * p + r) + (p - r) % p
round_up_from q p zero h =
    let small : p - 1 < p = omega arith in
    let sum : (q * p + 0) + (p - 1) ≡ q * p + (p - 1) = omega arith in
    let whole : p % p ≡ 0 = mod_self p in
    rw (sum, div-mul-add q p (p - 1) small) (simp sub-zero (rw whole (omega arith)))
round_up_from q p (suc r) h =
    let small : r < p = omega arith in
    let sum : (q * p + suc r) + (p - 1) ≡ (suc q) * p + r = omega arith in
    let rest : (p - suc r) % p ≡ p - suc r = mod-eq_of_lt (omega arith) in
    rw (sum, div-mul-add (suc q) p r small, rest) (omega arith)

pub round_up : (n p : ℕ) → 0 < p → (n + (p - 1)) / p * p ≡ next_multiple_of n p
round_up n p h =
    let parts = div-add-mod' n p in
    let at_parts = round_up_from (n / p) p (n % p) (mod_below n p h) in
    rw parts at at_parts

-- the power of a number that fits 64 bits
small_power : (k : ℕ) → 2 ^ k < 2 ^ 64 → k ≤ 64
small_power k h = elim (cases_lt 64 k) [ inl above ↦ absurd (omega (arith, pow_below 64 k above)) | inr below ↦ below ]

-- the bits that two numbers share, by their halves
odd_shared : (n m q : ℕ) → n ≡ q * 2 ^ 1 + 1 → m ≡ q * 2 ^ 1 + 0 → bit_and n m ≡ q * 2
odd_shared n m q whole before =
    rw (whole, before, and_block 1 q q 1 0 (omega arith) (omega arith), and_self q) (omega arith)

even_shared : (n m q r : ℕ) → n ≡ q * 2 ^ 1 + 0 → m ≡ r * 2 ^ 1 + 1 → bit_and n m ≡ bit_and q r * 2
even_shared n m q r whole before =
    rw (whole, before, and_block 1 q r 0 1 (omega arith) (omega arith)) (omega arith)

-- a number of w bits that shares none with its predecessor is a power of two
power_of : (w n : ℕ) → n < 2 ^ w → HasOneBit n → (k : ℕ) × (n ≡ 2 ^ k)
power_of zero n small one = absurd (omega (arith, one.0))
power_of (suc w) n small one =
    let q = n / 2 in
    let parts : q * 2 + n % 2 ≡ n = div-add-mod' n 2 in
    elim (cases_lt 0 (n % 2)) [
      | inl odd ↦
          let before : n - 1 ≡ q * 2 ^ 1 + 0 = omega arith in
          let whole : n ≡ q * 2 ^ 1 + 1 = omega arith in
          let shared : bit_and n (n - 1) ≡ q * 2 = odd_shared n (n - 1) q whole before in
          (0, omega (arith, one.1, shared))
      | inr even ↦
          let before : n - 1 ≡ (q - 1) * 2 ^ 1 + 1 = omega arith in
          let whole : n ≡ q * 2 ^ 1 + 0 = omega arith in
          let shared : bit_and n (n - 1) ≡ bit_and q (q - 1) * 2 = even_shared n (n - 1) q (q - 1) whole before in
          let half = power_of w q (omega (arith, pow-suc 2 w)) (omega arith, omega (arith, one.1, shared)) in
          (suc (half.0), omega (arith, half.1, pow-suc 2 (half.0)))
    ]

-- what the code computes
pub cleared_sum : (n p : ℕ) → HasOneBit p → p < 2 ^ 64 → n + (p - 1) < 2 ^ 64
    → bit_and (n + (p - 1)) (bit_not w64 (p - 1)) ≡ next_multiple_of n p
cleared_sum n p one small fits =
    let power = power_of 64 p small one in
    let k = power.0 in
    let e : p ≡ 2 ^ k = power.1 in
    let within : k ≤ 64 = small_power k (rw (← e) small) in
    let mask : bit_not w64 (p - 1) ≡ 2 ^ 64 - 2 ^ k = omega arith in
    rw (mask, and_high_mask 64 k within (n + (p - 1)) fits, ← e) (round_up n p one.0)
