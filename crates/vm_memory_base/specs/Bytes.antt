-- Values as lists of bytes.
use Rattle.std.specs.Prelude.{◌≡◌, ℕ, zero, suc, ◌<◌, List, [], ◌∷◌, length, slice_index, take, drop, All}

-- each item is a byte
abbrev pub AreBytes : List ℕ → Type 0
AreBytes s = (i : ℕ) → slice_index s i < 256

-- The values of a type stand for the lists of `width` bytes, one for one: `bytes` gives a value's list
-- and `value_of` a list's value.
pub record IsByteCode {V : Type 0} (width : ℕ) (IsValue : V → Type 0) (bytes : V → List ℕ)
    (value_of : List ℕ → V) : Type 0 where
  pub length_bytes : (x : V) → IsValue x → length (bytes x) ≡ width
  pub are_bytes : (x : V) → AreBytes (bytes x)
  pub from_bytes : (x : V) → IsValue x → value_of (bytes x) ≡ x
  pub to_bytes : (s : List ℕ) → length s ≡ width → AreBytes s → bytes (value_of s) ≡ s
  pub is_value : (s : List ℕ) → length s ≡ width → AreBytes s → IsValue (value_of s)

-- the values of n pieces of `width` bytes each, one after the other
abbrev pub values_of : {V : Type 0} → (List ℕ → V) → ℕ → ℕ → List ℕ → List V
values_of value_of width zero s = []
values_of value_of width (suc n) s = value_of (take width s) ∷ values_of value_of width n (drop width s)

-- n values for each of which P holds
abbrev pub IsArrayOf : {V : Type 0} → (V → Type 0) → ℕ → List V → Type 0
IsArrayOf P n xs = (length xs ≡ n) × All P xs
