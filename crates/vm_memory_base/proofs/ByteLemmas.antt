-- The bytes of numbers that are padded, cut and replaced.
use Rattle.std.proofs.Common.{◌≡◌, ℕ, zero, suc, ◌+◌, ◌-◌, ◌*◌, ◌/◌, ◌^◌, ◌<◌, ◌≤◌, List, [], ◌∷◌, ◌++◌, length, take, slice_set, sym, ◌∙◌, ap, refl, arith, replicate, length-append, reverse}
use Rattle.std.specs.Int.{Width, w8, w16, w32, w64, w128, byte_at, bytes_low_first, to_le_bytes, to_be_bytes, from_le_bytes}
use Rattle.std.proofs.Math.Nat.{zero-div}
use Rattle.std.proofs.Math.Seq.{take-set-lt}
use Rattle.std.proofs.lemmas.List.{length-take-le, length-replicate}
use Rattle.std.proofs.Math.ListN.{length-set}
use Rattle.vm_memory_base.specs.Bytes.{AreBytes}
use Rattle.vm_memory_base.specs.lemmas.ByteCodes.{little, length-low, low-little, little-lt, from_le_bytes-is}

-- zeros above change nothing
little-zeros : (s : List ℕ) (k : ℕ) → little (s ++ replicate k 0) ≡ little s
little-zeros [] zero = refl
little-zeros [] (suc k) = let e = little-zeros [] k in omega (arith, e)
little-zeros (b ∷ bs) k = ap (λ x. b + 256 * x) (little-zeros bs k)

-- the first bytes of many
take-low : (i w k n : ℕ) → w ≤ k → take w (bytes_low_first i k n) ≡ bytes_low_first i w n
take-low i zero k n h = refl
take-low i (suc w) zero n h = absurd (omega arith)
take-low i (suc w) (suc k) n h = ap (λ t. byte_at i n ∷ t) (take-low (suc i) w k n (omega arith))

pub low-zero : (i k : ℕ) → bytes_low_first i k 0 ≡ replicate k 0
low-zero i zero = refl
low-zero zero (suc k) = ap (λ t. 0 ∷ t) (low-zero 1 k)
low-zero (suc i) (suc k) =
    let none : 0 / 256 ^ suc i ≡ 0 = zero-div (256 ^ suc i) in
    rw (none, low-zero (suc (suc i)) k) refl

-- what is read of a list with zeros above it
pub number_of_padded : (s all : List ℕ) → length s ≤ 16 → AreBytes s → all ≡ s ++ replicate (16 - length s) 0
    → (bytes_low_first 0 (length s) (from_le_bytes w128 all) ≡ s) × (from_le_bytes w128 all < 256 ^ length s)
number_of_padded s all short bytes e =
    let whole : length all ≡ 16 =
    omega (
      arith,
      ap length e,
      length-append s (replicate (16 - length s) 0),
      length-replicate {A = ℕ} (16 - length s) 0,
    ) in
    let number : from_le_bytes w128 all ≡ little s =
    from_le_bytes-is w128 all whole ∙ ap little e ∙ little-zeros s (16 - length s) in
    rw number (low-little s bytes, little-lt s bytes)

-- the first of the bytes that `to_le_bytes` gives
pub taken : (k n : ℕ) (all : List ℕ) → k ≤ 16 → all ≡ to_le_bytes w128 n → take k all ≡ bytes_low_first 0 k n
taken k n all small e = ap (take k) e ∙ take-low 0 k 16 n small

pub zeros_are_bytes : (k : ℕ) → AreBytes (replicate k 0)
zeros_are_bytes zero i = omega arith
zeros_are_bytes (suc k) zero = omega arith
zeros_are_bytes (suc k) (suc i) = zeros_are_bytes k i

-- a byte of such a list replaced, and read as a number
pub replaced : (k i b n m : ℕ) (all : List ℕ) → k ≤ 16 → i < k → all ≡ to_le_bytes w128 n
    → bytes_low_first 0 (length (take k (slice_set all i b))) m ≡ take k (slice_set all i b)
    → bytes_low_first 0 k m ≡ slice_set (bytes_low_first 0 k n) i b
replaced k i b n m all small inside e h =
    let whole : length all ≡ 16 = ap length e ∙ length-low 0 16 n in
    let front : take k (slice_set all i b) ≡ slice_set (bytes_low_first 0 k n) i b =
    take-set-lt k all i b inside ∙ ap (λ l. slice_set l i b) (taken k n all small e) in
    let count : length (take k (slice_set all i b)) ≡ k =
    omega (arith, length-take-le k (slice_set all i b), length-set {A = ℕ}) in
    sym (ap (λ j. bytes_low_first 0 j m) count) ∙ h ∙ front

-- the bytes in turned order are those in big endian order
pub reverse-to_le_bytes : (w : Width) (n : ℕ) → reverse (to_le_bytes w n) ≡ to_be_bytes w n
reverse-to_le_bytes w8 n = refl
reverse-to_le_bytes w16 n = refl
reverse-to_le_bytes w32 n = refl
reverse-to_le_bytes w64 n = refl
reverse-to_le_bytes w128 n = refl
