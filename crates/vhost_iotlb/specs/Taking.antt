-- Wanted ranges of I/O addresses, of which the first bytes were taken from a table, in order.
use Rattle.std.specs.Prelude.{◌≡◌, ℕ, ◌+◌, ◌^◌, ◌<◌, ◌≤◌, ◌==◌, if◌then◌else◌, MatchBool, List, [], ◌∷◌, All, None}
use Rattle.vm_memory_base.specs.Table.{Says}
use Rattle.vhost_iotlb.specs.Leads.{Forbids}
use Rattle.vhost_iotlb.specs.declared.kept.Kept.{Kept}
use Rattle.vhost_iotlb.specs.declared.taking.Progress.{Progress}
use Rattle.vhost_iotlb.specs.declared.taking.Progress.TheVariants.{Whole, Misses, Bars, TooMany, NoMemory}
use Rattle.vhost_iotlb.specs.declared.taking.Want.{Want}

pub record TakingState : Type 0 where
  pub wants : List Want
  pub kept : List Kept

-- a kept range is a part of a wanted one, from this byte on
abbrev pub IsPartOf : Want → ℕ → Kept → Type 0
IsPartOf w from k = (k.iova ≡ w.iova + from) × (k.access ≡ w.access) × (0 < k.len) × (from + k.len ≤ w.len)

-- what is left of wanted ranges, and from which byte of the first one on, after these
abbrev pub left : List Want → ℕ → List Kept → List Want × ℕ
left ws from [] = (ws, from)
left [] from (k ∷ ks) = ([], 0)
left (w ∷ ws) from (k ∷ ks) = if from + k.len == w.len then left ws 0 ks else left (w ∷ ws) (from + k.len) ks

-- kept ranges are the first bytes of wanted ones, in order
abbrev pub Covers : List Want → ℕ → List Kept → Type 0
Covers ws from [] = Unit {0}
Covers [] from (k ∷ ks) = ⊥
Covers (w ∷ ws) from (k ∷ ks) = IsPartOf w from k
    × MatchBool (from + k.len == w.len) (Covers ws 0 ks) (Covers (w ∷ ws) (from + k.len) ks)

-- each has bytes, and its end is an address
abbrev pub AreReal : List Want → Type 0
AreReal ws = All (λ w. (0 < w.len) × (w.iova + w.len < 2 ^ 64)) ws

-- why it stops here: all is taken, the next byte has no mapping or one that forbids the access, as many ranges are kept
-- as may be, or an allocation failed
abbrev pub StopsAt : Says → ℕ → ℕ → List Want × ℕ → Progress → Type 0
StopsAt f most count ([], from) t = t ≡ Whole
StopsAt f most count (w ∷ ws, from) Whole = ⊥
StopsAt f most count (w ∷ ws, from) (Misses iova access) =
    (iova ≡ w.iova + from) × (access ≡ w.access) × (f iova ≡ None)
StopsAt f most count (w ∷ ws, from) (Bars iova access) =
    (iova ≡ w.iova + from) × (access ≡ w.access) × Forbids f iova access
StopsAt f most count (w ∷ ws, from) TooMany = most ≤ count
StopsAt f most count (w ∷ ws, from) NoMemory = Unit {0}
