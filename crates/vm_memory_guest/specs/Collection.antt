-- Collections of shared regions.
use Rattle.std.specs.Prelude.{◌≡◌, ℕ, List, [], ◌∷◌, map, All, Vec}
use Rattle.std.proofs.lemmas.List.Elements.{All-nil, All-cons}
use Rattle.vm_memory_guest.specs.Region.{Region, IsRegion, IsLayout}
use Rattle.std.specs.declared.alloc.Global.{Global}
use Rattle.std.specs.declared.sync.Arc.{Arc}

-- the regions that are shared
abbrev pub regions_of : {R : Type 0} → Vec (Arc R Global) Global → List R
regions_of {R} regions = map (λ (r : Arc R Global). r.value) regions.items

-- the regions are a layout, and the numbers are their starts, in order
pub record IsIndexed (regions : List Region) (numbers : List ℕ) : Type 0 where
  pub layout : IsLayout regions
  pub starts : numbers ≡ map (λ r. r.start) regions

-- if each value of a type is a region, each of a list is
pub each_is_region : {R : Type 0} (region : R → Region) → ((r : R) → IsRegion (region r))
    → (rs : List R) → All IsRegion (map region rs)
each_is_region region fits [] = All-nil IsRegion
each_is_region region fits (r ∷ rs) =
    All-cons IsRegion (region r) (map region rs) (fits r) (each_is_region region fits rs)
