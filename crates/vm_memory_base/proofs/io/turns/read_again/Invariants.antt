use Rattle.vm_memory_base.specs.Transfer.{Reads}
use Rattle.vm_memory_base.specs.lemmas.Turns.{AgainLeft}
use Rattle.vm_memory_base.proofs.io.turns.read_again.Given as goal

abbrev pub invariant-loop-left : goal.invariant-loop-left
invariant-loop-left g l =
    AgainLeft (Reads g.S.ReadVolatile.source g.S.ReadVolatile.reads)
    (l.initial.source, l.initial.buf, l.initial.interrupted) l.left
    (l.source, l.buf, l.interrupted)

abbrev pub decreases-loop-left : goal.decreases-loop-left
decreases-loop-left g l = l.left
