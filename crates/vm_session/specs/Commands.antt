-- What messages make of a table, as commands of a machine.
use Rattle.std.specs.Prelude.{ℕ, List, map}
use Rattle.vm_memory_base.specs.Table as table
use Rattle.vm_memory_base.specs.Table.{TableEvent}
use Rattle.vm_memory.specs.declared.machine.command.Command.{Command}
use Rattle.vm_memory.specs.declared.machine.command.Command.TheVariants as command
use Rattle.vm_memory.specs.declared.machine.command.Reply.{Reply}
use Rattle.vm_memory.specs.declared.machine.command.Reply.TheVariants as reply

-- the command that makes a call of the table of this number; evictions are not calls, they follow from calls
abbrev pub command_of : ℕ → TableEvent → Command
command_of number (table.Set iova to len perm) =
    command.Set number (record { 0 = iova }) (record { 0 = to }) len perm
command_of number (table.Invalidate iova len) = command.Invalidate number (record { 0 = iova }) len
command_of number table.InvalidateAll = command.InvalidateAll number
command_of number (table.Evict iova len) = command.InvalidateAll number

abbrev pub commands_of : ℕ → List TableEvent → List Command
commands_of number calls = map (command_of number) calls

-- each of them is replied to as done
abbrev pub done_by : TableEvent → Reply
done_by call = reply.Done

abbrev pub all_done : List TableEvent → List Reply
all_done calls = map done_by calls
