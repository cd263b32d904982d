-- What a look-up gives, as ranges, and what comes of an access that goes through a table.
use Rattle.std.specs.Prelude.{◌≡◌, ◌⊎◌, ◌<◌, ℕ, true, false, List, [], ◌∷◌, length, map, Option, Some, None}
use Rattle.vm_memory_base.specs.Table.{Range, Says, is_allowed, pieces, reason}
use Rattle.vm_memory_base.specs.declared.iotlb.IommuError.{IommuError}
use Rattle.vm_memory_base.specs.declared.iotlb.IommuError.TheVariants.{CannotResolve}
use Rattle.vm_memory_base.specs.declared.iotlb.IommuError.TheVariants as iommu
use Rattle.vm_memory_base.specs.declared.iotlb.IovaRange.{IovaRange}
use Rattle.vm_memory_base.specs.declared.iotlb.Permissions.{Permissions}
use Rattle.vm_memory_base.specs.declared.iotlb.lookup.MappedRange.{MappedRange}

-- a range of I/O addresses, as the model has it
abbrev pub range_in : IovaRange → Range
range_in r = record { base = r.base.0; len = r.length }

-- a range of physical addresses, as a look-up gives it
abbrev pub mapped_range : Range → MappedRange
mapped_range r = record { base = record { 0 = r.base }; length = r.len }

abbrev pub mapped_ranges : List Range → List MappedRange
mapped_ranges rs = map mapped_range rs

-- pieces as a list keeps them: one alone, or all
abbrev pub one_or : Option MappedRange → List MappedRange → List MappedRange
one_or (Some piece) pieces = piece ∷ []
one_or None pieces = pieces

-- an access that is allowed leads to the pieces of a look-up
abbrev pub Translates : Says → ℕ → ℕ → Permissions → List MappedRange → Type 0
Translates f a n access found = (is_allowed f a n access ≡ true) × (found ≡ mapped_ranges (pieces f a n))

-- one that is not allowed is refused with the whole range, and why. The allocation of the pieces may fail for one that
-- is allowed, if it has more than one
abbrev pub RefusesTranslation : Says → ℕ → ℕ → Permissions → IommuError → Type 0
RefusesTranslation f a n access e =
    ((is_allowed f a n access ≡ true) × (1 < length (pieces f a n)) × (e ≡ iommu.Memory))
    ⊎ ((is_allowed f a n access ≡ false)
    × (e ≡ CannotResolve (record { base = record { 0 = a }; length = n }) (reason f a n)))
