use Rattle.vm_memory_guest.specs.Transfer.{Takes, UntilWhole}
use Rattle.vm_memory_guest.proofs.OrderLemmas.{Moved}
use Rattle.vm_memory_guest.proofs.guest_memory.transfer.send_windows.Given as goal

abbrev pub invariant-loop-item : goal.invariant-loop-item
invariant-loop-item g l =
    Moved (Takes g.S.WriteVolatile.sink g.S.WriteVolatile.taken g.S.WriteVolatile.may_want g.S.WriteVolatile.writes
    l.host.blocks UntilWhole) l.fn.walk l.item-iterator l.initial.sink l.sink l.total
