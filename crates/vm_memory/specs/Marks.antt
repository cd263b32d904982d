-- Marks of pages whose bytes something else wrote.
use Rattle.std.specs.Prelude.{ℕ, if◌then◌else◌}
use Rattle.vm_memory_base.specs.Pages.{PageSet}
use Rattle.vm_memory_base.specs.declared.iotlb.Permissions.TheVariants as permissions
use Rattle.vm_memory_guest.specs.Copy.{dirtied_cells}
use Rattle.vm_memory_guest.specs.Dirt.{path_cells}
use Rattle.vm_memory_guest.specs.Host.{Host, cells_from}
use Rattle.vm_memory_guest.specs.Memory.{Memory}
use Rattle.vm_memory_device.specs.Reach.{reached_by}
use Rattle.vm_memory.specs.Copy.{has_block, ends_inside}
use Rattle.vm_memory.specs.Reply.{access_result, reply_of}
use Rattle.vm_memory.specs.declared.machine.command.BlockRange.{BlockRange}
use Rattle.vm_memory.specs.declared.machine.command.Reply.{Reply}
use Rattle.vm_memory.specs.declared.machine.command.Reply.TheVariants.{Count, Done, NoSuch, BadRange}

-- marks of a range leave the dirt of its bytes, in the bitmap of their block: it has to be there, and the range to end
-- in it
abbrev pub marks_range : Host PageSet → BlockRange → Reply × Host PageSet
marks_range host range = if has_block host range
    then (if ends_inside host range
    then (Done, dirtied_cells (cells_from range.block range.offset range.len) host) else (BadRange, host))
    else (NoSuch, host)

-- marks of what a write of n bytes at a would reach reply how many bytes these are, and leave their dirt, in the
-- bitmaps of their own blocks
abbrev pub marks_reached : Memory → Host PageSet → ℕ → ℕ → Reply × Host PageSet
marks_reached m host a n =
    let reached = reached_by m host.tables a n permissions.Write in
    (reply_of Count (access_result reached), dirtied_cells (path_cells reached.path) host)
