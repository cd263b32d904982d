-- What is left of a look-up that succeeded. No public clause cites this module.
use Rattle.std.specs.Prelude.{◌≡◌, ℕ, ◌+◌, ◌-◌, ◌<◌, ◌≤◌, true, List, [], ◌∷◌, map}
use Rattle.vm_memory_base.specs.Change.{granted}
use Rattle.vm_memory_base.specs.Runs.{AddressRun, IsCanonical, cut_to}
use Rattle.vm_memory_base.specs.Table.{Mapping, same_mapping, Range, piece_of}
use Rattle.vm_memory_base.specs.declared.iotlb.Permissions.TheVariants.{No}

-- the first run, if there is one, ends after an address
abbrev pub HeadEndsAfter : ℕ → List (AddressRun Mapping) → Type 0
HeadEndsAfter at [] = Unit {0}
HeadEndsAfter at (r ∷ rs) = at < r.start + r.len

-- runs that leave no gap from one address up to another, the first of which has the first address
pub record IsWalk (at end : ℕ) (rs : List (AddressRun Mapping)) : Type 0 where
  pub canonical : IsCanonical same_mapping rs
  pub ordered : at ≤ end
  pub mapped : at < end → granted at end No rs ≡ true
  pub head : at < end → HeadEndsAfter at rs

-- the pieces that are left
abbrev pub pieces_left : ℕ → ℕ → List (AddressRun Mapping) → List Range
pieces_left at end rs = map piece_of (cut_to at (end - at) rs)
