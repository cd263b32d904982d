-- What a change of a table meets. No public clause cites this module.
use Rattle.std.specs.Prelude.{◌≡◌, ℕ, ◌+◌, ◌-◌, ◌^◌, ◌<◌, ◌++◌, ◌∷◌, true, false, List, [], Option, IfSome, MatchOption}
use Rattle.vm_memory_base.specs.Change.{if_any, runs_below, runs_from, start_or}
use Rattle.vm_memory_base.specs.Runs.{AddressRun, cut_to}
use Rattle.vm_memory_base.specs.Table.{Mapping}
use Rattle.vm_memory_base.specs.declared.iotlb.site.Edge.{Edge}
use Rattle.vm_memory_base.specs.declared.iotlb.site.Neighbours.{Neighbours}
use Rattle.vm_memory_base.specs.declared.iotlb.site.Site.{Site}

-- the last of the runs that start below a limit, if there is one
abbrev pub IsLastBelow : List (AddressRun Mapping) → ℕ → Option (AddressRun Mapping) → Type 0
IsLastBelow rs limit last =
    MatchOption last (runs_below limit rs ≡ []) (λ r. runs_below limit rs ≡ runs_below r.start rs ++ r ∷ [])

-- the last of the runs that start below an address, and the last that starts there or before it
pub record AreNeighbours (rs : List (AddressRun Mapping)) (at : ℕ) (near : Neighbours) : Type 0 where
  pub before : IsLastBelow rs at near.before
  pub last : IsLastBelow rs (at + 1) near.last

-- the run in front of an address starts where the last one below it does, and may be all of that
pub record IsFront (rs : List (AddressRun Mapping)) (at : ℕ) (front : Edge) : Type 0 where
  pub there : IfSome front.run (λ l. (d : AddressRun Mapping) × (d.start ≡ l.start)
      × (runs_below at rs ≡ runs_below l.start rs ++ d ∷ []))
  pub whole : front.stored ≡ true → IfSome front.run (λ l. runs_below at rs ≡ runs_below l.start rs ++ l ∷ [])

-- the run after an address starts there, and a run is stored there or not
pub record IsEdgeFrom (rs : List (AddressRun Mapping)) (at : ℕ) (edge : Edge) : Type 0 where
  pub starts : IfSome edge.run (λ r. r.start ≡ at)
  pub stored : edge.stored ≡ true → IfSome edge.run (λ r. runs_from at rs ≡ r ∷ runs_from (at + 1) rs)
  pub absent : edge.stored ≡ false → runs_from at rs ≡ runs_from (at + 1) rs

-- what is said to be clear has no run that starts in it after its first address
abbrev pub IsClear : List (AddressRun Mapping) → Site → Type 0
IsClear rs site = site.clear ≡ true → runs_from (site.start + 1) rs ≡ runs_from site.end rs

-- a place in runs, where a change may be made
pub record IsSite (rs : List (AddressRun Mapping)) (site : Site) : Type 0 where
  pub order : site.start < site.end
  pub front : IsFront rs site.start site.front
  pub back : IsEdgeFrom rs site.end site.back
  pub clear : IsClear rs site

-- what runs say below an address is in front of it, and what they say from one on is after it
abbrev pub CutsInFront : List (AddressRun Mapping) → ℕ → Edge → Type 0
CutsInFront rs at front = runs_below (start_or front.run at) rs ++ if_any front.run ≡ cut_to 0 at rs

abbrev pub CutsFrom : List (AddressRun Mapping) → ℕ → Edge → Type 0
CutsFrom rs at edge = if_any edge.run ++ runs_from (at + 1) rs ≡ cut_to at (2 ^ 64 - at) rs

-- the runs after a site got what its edges say, with a run between them or none
abbrev pub IsReplaced : List (AddressRun Mapping) → Site → Option (AddressRun Mapping) → List (AddressRun Mapping)
    → Type 0
IsReplaced rs site run new = new ≡ runs_below (start_or site.front.run site.start) rs
    ++ (if_any site.front.run ++ (if_any run ++ (if_any site.back.run ++ runs_from (site.end + 1) rs)))
