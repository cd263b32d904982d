use Rattle.vm_memory_guest.specs.Error.{of_window}
use Rattle.vm_memory_guest.proofs.LentLaws.{received_changes}
use Rattle.vm_memory_guest.proofs.laws.transfers.transfers_in_mark_what_they_change.Goals as goal

pub returns : goal.returns
returns c fault until_full ws total next host =
    received_changes c.mark_keeps_shape.ensures.shape c.marked_bytes_are_dirty.ensures.before
    c.marked_bytes_are_dirty.ensures.marked of_window fault until_full ws total next host
