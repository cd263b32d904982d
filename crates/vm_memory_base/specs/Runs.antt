-- Runs of neighbouring addresses at which a function has one value.
use Rattle.std.specs.Prelude.{◌≡◌, ℕ, zero, suc, ◌+◌, ◌-◌, ◌<◌, ◌≤◌, min, max, Bool, true, false, ◌&&◌, if◌then◌else◌, ◌==◌, nat_lt, List, [], ◌∷◌, Option, Some, None}
use Rattle.vm_memory_base.specs.Address.{is_within}

-- neighbouring addresses, and the value that they all have
pub record AddressRun (K : Type 0) : Type 0 where
  pub start : ℕ
  pub len : ℕ
  pub value : K

-- a test that passes exactly if its two values are equal
abbrev pub TestsEquality : {K : Type 0} → (K → K → Bool) → Type 0
TestsEquality {K} same = ((j k : K) → same j k ≡ true → j ≡ k) × ((k : K) → same k k ≡ true)

module _ {K : Type 0} (same : K → K → Bool) where
  -- the runs with one more address before them, which joins the first if that begins right after it and
  -- has the same value
  abbrev pub with_address : ℕ → K → List (AddressRun K) → List (AddressRun K)
  with_address a k [] = record { start = a; len = 1; value = k } ∷ []
  with_address a k (r ∷ rs) =
      if r.start == a + 1 && same k r.value then (record { start = a; len = r.len + 1; value = k } ∷ rs)
      else (record { start = a; len = 1; value = k } ∷ r ∷ rs)

  abbrev pub with_value : ℕ → Option K → List (AddressRun K) → List (AddressRun K)
  with_value a None rs = rs
  with_value a (Some k) rs = with_address a k rs

  -- the maximal runs of equal values among the n addresses from a on, ascending
  unfoldable pub runs : (ℕ → Option K) → ℕ → ℕ → List (AddressRun K)
  runs f a zero = []
  runs f a (suc n) = with_value a (f a) (runs f (a + 1) n)

  -- ascending runs, none of them empty, which differ where they touch
  abbrev pub IsCanonical : List (AddressRun K) → Type 0
  IsCanonical [] = Unit {0}
  IsCanonical (r ∷ []) = 0 < r.len
  IsCanonical (r ∷ s ∷ rs) =
      (0 < r.len) × (r.start + r.len ≤ s.start) × (r.start + r.len ≡ s.start → same r.value s.value ≡ false)
      × IsCanonical (s ∷ rs)

-- the value of the run that an address lies in, if it lies in one
abbrev pub value_at : {K : Type 0} → List (AddressRun K) → ℕ → Option K
value_at [] x = None
value_at (r ∷ rs) x = if is_within r.start r.len x then Some r.value else value_at rs x

-- the run from one address up to another, if there is any between them, before other runs
abbrev pub cut_onto : {K : Type 0} → (from to : ℕ) → K → List (AddressRun K) → List (AddressRun K)
cut_onto from to k rs =
    if nat_lt from to then (record { start = from; len = to - from; value = k } ∷ rs) else rs

-- what lies of each run in the n addresses from a on
abbrev pub cut_to : {K : Type 0} → ℕ → ℕ → List (AddressRun K) → List (AddressRun K)
cut_to a n [] = []
cut_to a n (r ∷ rs) = cut_onto (max a r.start) (min (a + n) (r.start + r.len)) r.value (cut_to a n rs)
