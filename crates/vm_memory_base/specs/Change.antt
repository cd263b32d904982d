-- How a table is kept, changed and looked up. No public clause cites this module.
use Rattle.std.specs.List.{filter}
use Rattle.std.specs.Prelude.{ℕ, zero, suc, ◌+◌, ◌^◌, ◌<◌, ◌≤◌, Bool, ◌&&◌, ◌||◌, if◌then◌else◌, ◌==◌, nat_le, nat_lt, List, [], ◌∷◌, length, Option, Some, None, min, max}
use Rattle.vm_memory_base.specs.Address.{is_within}
use Rattle.vm_memory_base.specs.Permissions.{allow}
use Rattle.vm_memory_base.specs.Runs.{AddressRun, IsCanonical, value_at, cut_onto}
use Rattle.vm_memory_base.specs.Table.{Mapping, same_mapping, Says}
use Rattle.vm_memory_base.specs.declared.iotlb.Permissions.{Permissions}

-- each run ends below a limit
abbrev pub EndBelow : {K : Type 0} → ℕ → List (AddressRun K) → Type 0
EndBelow limit [] = Unit {0}
EndBelow limit (r ∷ rs) = (r.start + r.len < limit) × EndBelow limit rs

-- each run starts at an address or after it
abbrev pub StartFrom : {K : Type 0} → ℕ → List (AddressRun K) → Type 0
StartFrom low [] = Unit {0}
StartFrom low (r ∷ rs) = (low ≤ r.start) × StartFrom low rs

-- a list that a table keeps: canonical, and its ends are addresses
pub record IsKept (rs : List (AddressRun Mapping)) : Type 0 where
  pub canonical : IsCanonical same_mapping rs
  pub ends : EndBelow (2 ^ 64) rs

-- ascending runs, none of them empty
abbrev pub AreAscending : {K : Type 0} → List (AddressRun K) → Type 0
AreAscending [] = Unit {0}
AreAscending (r ∷ rs) = (0 < r.len) × StartFrom (r.start + 1) rs × AreAscending rs

-- the runs that start below an address
abbrev pub runs_below : {K : Type 0} → ℕ → List (AddressRun K) → List (AddressRun K)
runs_below limit rs = filter (λ r. nat_lt r.start limit) rs

-- the runs that start at an address or after it
abbrev pub runs_from : {K : Type 0} → ℕ → List (AddressRun K) → List (AddressRun K)
runs_from low rs = filter (λ r. nat_le low r.start) rs

-- runs, with another in the place of the first that starts where it does
abbrev pub with_reset : AddressRun Mapping → List (AddressRun Mapping) → List (AddressRun Mapping)
with_reset r [] = []
with_reset r (s ∷ rs) = if r.start == s.start then (r ∷ rs) else (s ∷ with_reset r rs)

-- where a run starts, if there is one, or else an address
abbrev pub start_or : Option (AddressRun Mapping) → ℕ → ℕ
start_or None at = at
start_or (Some r) at = r.start

-- a list of the one item, if there is one
abbrev pub if_any : {X : Type 0} → Option X → List X
if_any None = []
if_any (Some x) = x ∷ []

-- a run before others, which joins the first if that begins right after it and is mapped alike
abbrev pub prepended : AddressRun Mapping → List (AddressRun Mapping) → List (AddressRun Mapping)
prepended r [] = r ∷ []
prepended r (s ∷ rs) =
    if s.start == r.start + r.len && same_mapping r.value s.value
    then (record { start = r.start; len = r.len + s.len; value = r.value } ∷ rs) else (r ∷ s ∷ rs)

abbrev pub prepended_if_any : Option (AddressRun Mapping) → List (AddressRun Mapping) → List (AddressRun Mapping)
prepended_if_any None rs = rs
prepended_if_any (Some r) rs = prepended r rs

-- what runs say once one more is put over them
abbrev pub with_run : AddressRun Mapping → List (AddressRun Mapping) → Says
with_run r rs x = if is_within r.start r.len x then Some r.value else value_at rs x

-- what runs say once nothing is said of a range
abbrev pub without_range : ℕ → ℕ → List (AddressRun Mapping) → Says
without_range a n rs x = if is_within a n x then None else value_at rs x

-- whether runs leave no gap from one address up to another, and each grants the access
abbrev pub granted : ℕ → ℕ → Permissions → List (AddressRun Mapping) → Bool
granted at end access [] = nat_le end at
granted at end access (r ∷ rs) =
    nat_le r.start at && (allow r.value.permissions access
    && (nat_le end (r.start + r.len) || granted (r.start + r.len) end access rs))

-- the gaps that runs leave from one address up to another
abbrev pub gaps : ℕ → ℕ → List (AddressRun Mapping) → List (AddressRun (Unit {0}))
gaps at end [] = cut_onto at end tt []
gaps at end (r ∷ rs) = cut_onto at (min r.start end) tt (gaps (max at (r.start + r.len)) end rs)

-- runs without the first N, except those that a test spares
abbrev pub without_first : {K : Type 0} → (AddressRun K → Bool) → ℕ → List (AddressRun K) → List (AddressRun K)
without_first spares zero rs = rs
without_first spares (suc n) [] = []
without_first spares (suc n) (r ∷ rs) =
    if spares r then (r ∷ without_first spares (suc n) rs) else without_first spares n rs

-- a limit, if there is one, is above 0, and there are at most N runs
abbrev pub IsWithinLimit : {K : Type 0} → Option ℕ → List (AddressRun K) → Type 0
IsWithinLimit None rs = Unit {0}
IsWithinLimit (Some limit) rs = (0 < limit) × (length rs ≤ limit)
