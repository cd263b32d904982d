use Rattle.vm_memory_base.specs.Transfer.{TakesOnce}
use Rattle.vm_memory_base.specs.lemmas.Turns.{AgainLeft}
use Rattle.vm_memory_base.proofs.io.turns.offer_again.Given as goal

abbrev pub invariant-loop-left : goal.invariant-loop-left
invariant-loop-left g l =
    let w = g.S.WriteVolatile in
    AgainLeft (TakesOnce w.sink w.taken w.may_want w.writes l.buf) l.initial.sink l.left l.sink

abbrev pub decreases-loop-left : goal.decreases-loop-left
decreases-loop-left g l = l.left
