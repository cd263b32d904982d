use Rattle.vm_memory_guest.specs.Access.{windows}
use Rattle.vm_memory_guest.specs.Error.{of_window}
use Rattle.vm_memory_guest.proofs.LentLaws.{received_refused, some-windows}
use Rattle.vm_memory_guest.proofs.laws.transfers.refused_transfers_in_change_nothing.Goals as goal

pub returns : goal.returns
returns c test fault until_full xs next host e passes is =
    received_refused test of_window fault until_full (windows xs) 0 next host e (some-windows xs) passes is
