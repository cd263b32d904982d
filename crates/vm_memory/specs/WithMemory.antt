-- A step on a memory of a machine and its host.
use Rattle.std.specs.Prelude.{◌≡◌, ℕ, slice_get, Option, Some, None, Result, Ok, Err}
use Rattle.vm_memory_guest.specs.Host.{Host}
use Rattle.vm_memory_guest.specs.Memory.{Memory}
use Rattle.vm_memory_guest.specs.Region.{Region}
use Rattle.vm_memory_device.specs.Memories.{memory_meant}
use Rattle.vm_memory_device.specs.declared.machine_memory.MachineMemory.{MachineMemory}
use Rattle.vm_memory.specs.Parts.{Parts}
use Rattle.vm_memory.specs.declared.machine.refusal.Refusal.{Refusal}
use Rattle.vm_memory.specs.declared.machine.refusal.Refusal.TheVariants as refusal

module _ {R I B S : Type 0} (region : R → Region) (number : I → ℕ) (does : S → Memory → Host B → S → Host B → Type 0)
  where
    -- the step was taken on this memory, and of the machine only the host changed. Or there is no such memory
    abbrev pub StepsOnIf : Option (MachineMemory R I) → Parts R I B → S → Result (Unit {0}) Refusal → S → Parts R I B
        → Type 0
    StepsOnIf None old step answer step' new = (answer ≡ Err refusal.NoSuch) × (step' ≡ step) × (new ≡ old)
    StepsOnIf (Some m) old step answer step' new = (answer ≡ Ok tt)
        × does step (memory_meant region number m) old.host step' new.host × (new ≡ record old { host = new.host })

    abbrev pub StepsOn : Parts R I B → ℕ → S → Result (Unit {0}) Refusal → S → Parts R I B → Type 0
    StepsOn old memory step answer step' new = StepsOnIf (slice_get old.memories memory) old step answer step' new
