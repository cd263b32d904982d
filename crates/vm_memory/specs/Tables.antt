-- Commands on I/O tables.
use Rattle.std.specs.Prelude.{ℕ, Bool, if◌then◌else◌, List, Option, Some, None, Result, Ok, Err, slice_get}
use Rattle.vm_memory_base.specs.Lookup.{mapped_ranges}
use Rattle.vm_memory_base.specs.Table.{Table, TableEvent, Says, changed, overruns, is_allowed, pieces, misses, failures}
use Rattle.vm_memory_base.specs.declared.iotlb.lookup.IotlbFails.{IotlbFails}
use Rattle.vm_memory_base.specs.declared.iotlb.lookup.MappedRange.{MappedRange}
use Rattle.vm_memory_base.specs.declared.iotlb.Permissions.{Permissions}
use Rattle.vm_memory_guest.specs.Host.{Host, with_table_at}
use Rattle.vm_memory.specs.declared.machine.command.Reply.{Reply}
use Rattle.vm_memory.specs.declared.machine.command.Reply.TheVariants.{Done, Pieces, Fails, NoSuch, BadRange}

-- a change of a table that is there, if it does not go past the last address
abbrev pub changed_table : {B : Type 0} → Host B → ℕ → Option Table → Bool → TableEvent → Reply × Host B
changed_table host number None over call = (NoSuch, host)
changed_table host number (Some t) over call =
    if over then (BadRange, host) else (Done, with_table_at host number (changed call t))

-- a change of len addresses from iova on
abbrev pub changes : {B : Type 0} → Host B → ℕ → ℕ → ℕ → TableEvent → Reply × Host B
changes host number iova len call =
    changed_table host number (slice_get host.tables number) (overruns iova len) call

-- the reply to a look-up: the pieces, or what is missed and what fails
abbrev pub looked_up : Result (List MappedRange) IotlbFails → Reply
looked_up (Ok pieces) = Pieces pieces
looked_up (Err fails) = Fails fails

-- a look-up replies the pieces if it is allowed, and else what it misses and what fails
abbrev pub looks_up : Says → ℕ → ℕ → Permissions → Reply
looks_up f iova len access = if is_allowed f iova len access then Pieces (mapped_ranges (pieces f iova len))
    else Fails (record { misses = misses f iova len; access_fails = failures f iova len access })
