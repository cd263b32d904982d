-- Copies between ranges of blocks.
use Rattle.std.specs.Prelude.{◌+◌, min, Bool, ◌&&◌, nat_le, if◌then◌else◌, length}
use Rattle.vm_memory_base.specs.Pages.{PageSet}
use Rattle.vm_memory_guest.specs.Copy.{after_copy}
use Rattle.vm_memory_guest.specs.Host.{Host, block_at, cells_from, has_bytes, shape_of}
use Rattle.vm_memory.specs.declared.machine.command.BlockRange.{BlockRange}
use Rattle.vm_memory.specs.declared.machine.command.Reply.{Reply}
use Rattle.vm_memory.specs.declared.machine.command.Reply.TheVariants.{Done, NoSuch, BadRange}

-- whether there is the block of a range, and was not given back
abbrev pub has_block : {B : Type 0} → Host B → BlockRange → Bool
has_block host w = has_bytes (shape_of host) w.block

-- whether a range ends in its block
abbrev pub ends_inside : {B : Type 0} → Host B → BlockRange → Bool
ends_inside host w = nat_le (w.offset + w.len) (length (block_at host.blocks w.block))

-- the lesser number of bytes, as they were, go to the front of the other range, with their dirt
abbrev pub copied : Host PageSet → BlockRange → BlockRange → Host PageSet
copied host from to =
    let n = min from.len to.len in
    after_copy (cells_from from.block from.offset n) (cells_from to.block to.offset n) host

-- a copy of a range to another: both have to be there, and to end in their blocks
abbrev pub copies : Host PageSet → BlockRange → BlockRange → Reply × Host PageSet
copies host from to = if has_block host from && has_block host to
    then (if ends_inside host from && ends_inside host to then (Done, copied host from to) else (BadRange, host))
    else (NoSuch, host)
