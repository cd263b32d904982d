-- Memory behind an IOMMU, and the error if a translation is refused.
use Rattle.std.specs.Prelude.{◌≡◌, ℕ, Bool, List, [], ◌∷◌, ◌++◌, flat_map, Some}
use Rattle.std.proofs.Common.{ap₂}
use Rattle.vm_memory_base.specs.declared.iotlb.IommuError.{IommuError}
use Rattle.vm_memory_base.specs.declared.iotlb.IommuError.TheVariants.{CannotResolve, Fragmented, IommuMisconfigured}
use Rattle.vm_memory_base.specs.declared.iotlb.IommuError.TheVariants as iommu
use Rattle.vm_memory_guest.specs.Host.{Name, Space, Tlb}
use Rattle.vm_memory_guest.specs.Memory.{Memory}
use Rattle.vm_memory_guest.specs.Region.{Region, region_names}
use Rattle.vm_memory_guest.specs.declared.region.error.GuestMemoryError.{GuestMemoryError}
use Rattle.vm_memory_guest.specs.declared.region.error.GuestMemoryError.TheVariants as errors

-- the error of guest memory for an error of a translation: a failed allocation is an error of its own
abbrev pub of_translation : IommuError → GuestMemoryError
of_translation (CannotResolve range reason) = errors.IommuError (CannotResolve range reason)
of_translation (Fragmented range length) = errors.IommuError (Fragmented range length)
of_translation (IommuMisconfigured reason) = errors.IommuError (IommuMisconfigured reason)
of_translation iommu.Memory = errors.Memory

-- memory behind an IOMMU: the backend, the IOMMU, whether it is on, and the space that writes through it mark
pub record Behind (M I : Type 0) : Type 0 where
  pub backend : M
  pub iommu : I
  pub on : Bool
  pub space : ℕ

-- what it means as guest memory, with the table of its IOMMU
abbrev pub behind : List Region → ℕ → ℕ → Bool → Memory
behind regions table space on = record {
  regions = regions;
  iommu = Some (record { behind = record { table = table; space = space }; on = on });
}

-- it names what its backend and its IOMMU name, and its space
pub names-parts : (regions : List Region) {table : ℕ} {backend iommu : List Name} (space : ℕ)
    → backend ≡ flat_map region_names regions → iommu ≡ Tlb table ∷ []
    → backend ++ (iommu ++ Space space ∷ []) ≡ flat_map region_names regions ++ Tlb table ∷ Space space ∷ []
names-parts regions space b i = ap₂ (λ (xs ys : List Name). xs ++ (ys ++ Space space ∷ [])) b i
