-- The memories of a machine, as guest memory.
use Rattle.std.specs.Prelude.{ℕ, List, map, All, None}
use Rattle.vm_memory_guest.specs.Collection.{each_is_region}
use Rattle.vm_memory_guest.specs.Memory.{Memory}
use Rattle.vm_memory_guest.specs.Region.{Region, IsRegion}
use Rattle.vm_memory_device.specs.Iommu.{behind}
use Rattle.vm_memory_device.specs.declared.machine_memory.MachineMemory.{MachineMemory}
use Rattle.vm_memory_device.specs.declared.machine_memory.MachineMemory.TheVariants.{Plain, Translated}

-- a memory of these regions, without an IOMMU
abbrev pub plain : List Region → Memory
plain regions = record { regions = regions; iommu = None }

-- the guest memory that a memory of a machine is
abbrev pub memory_meant : {R I : Type 0} → (R → Region) → (I → ℕ) → MachineMemory R I → Memory
memory_meant region number (Plain rs) = plain (map region rs)
memory_meant region number (Translated m) = behind (map region m.backend) (number m.iommu) m.space m.on

-- its regions fit if each of their type does
pub each_fits : {R I : Type 0} (region : R → Region) → ((r : R) → IsRegion (region r)) → (number : I → ℕ)
    → (m : MachineMemory R I) → All IsRegion (memory_meant region number m).regions
each_fits region fits number (Plain rs) = each_is_region region fits rs
each_fits region fits number (Translated m) = each_is_region region fits m.backend
