use Rattle.vm_memory_guest.specs.Error.{of_window}
use Rattle.vm_memory_guest.specs.Transfer.{Takes, UntilWhole}
use Rattle.vm_memory_guest.proofs.FilledLaws.{fails_as_moves, sends_told}
use Rattle.vm_memory_guest.proofs.laws.transfers.transfers_out_fail_as_writes_do.Goals as goal

pub returns : goal.returns
returns g c test fault ws old new blocks e zero each failed =
    let w = g.S.WriteVolatile in
    fails_as_moves test of_window fault (Takes w.sink w.taken w.may_want w.writes blocks UntilWhole)
    (sends_told test w.sink w.taken w.may_want w.writes blocks zero (λ s t bytes a h. each s t bytes a h)) ws 0 old new
    e failed
