-- The memories of a machine: their switches, and their tables.
use Rattle.std.specs.Prelude.{ℕ, Bool, Option, Some, None, option_map, Result, Ok, Err}
use Rattle.vm_memory_guest.specs.Memory.{Memory, behind_of}
use Rattle.vm_memory.specs.declared.machine.command.Reply.{Reply}
use Rattle.vm_memory.specs.declared.machine.command.Reply.TheVariants.{Done, NoSuch}
use Rattle.vm_memory.specs.declared.machine.refusal.Refusal.{Refusal}
use Rattle.vm_memory.specs.declared.machine.refusal.Refusal.TheVariants as refusal
use Rattle.vm_memory_device.specs.declared.machine_memory.MachineMemory.{MachineMemory}
use Rattle.vm_memory_device.specs.declared.machine_memory.MachineMemory.TheVariants.{Plain, Translated}

-- its IOMMU is turned on or off, if it has one
abbrev pub turned_memory : {R I : Type 0} → MachineMemory R I → Bool → Reply × MachineMemory R I
turned_memory (Plain rs) on = (NoSuch, Plain rs)
turned_memory (Translated m) on = (Done, Translated (record m { on = on }))

-- the table that translates the addresses of a memory, if its IOMMU is on
abbrev pub table_of : Memory → Option ℕ
table_of m = option_map (λ t. t.table) (behind_of m.iommu)

abbrev pub table_told : Option Memory → Result (Option ℕ) Refusal
table_told None = Err refusal.NoSuch
table_told (Some m) = Ok (table_of m)
