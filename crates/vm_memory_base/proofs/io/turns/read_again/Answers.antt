use Rattle.std.proofs.Common.{◌∙◌, inl, inr, sym}
use Rattle.vm_memory_base.specs.Transfer.{Reads}
use Rattle.vm_memory_base.specs.lemmas.Turns.{again_more, again_done}
use Rattle.vm_memory_base.proofs.io.turns.read_again.Goals as goal

pub loop-left-init : goal.loop-left-init
loop-left-init g c = λ answer new so. so

pub loop-left-preserved : goal.loop-left-preserved
loop-left-preserved g c =
    again_more (Reads g.S.ReadVolatile.source g.S.ReadVolatile.reads) c.loop-left.left c.loop-left.invariant
    c.loop-left-test.true
    c.read_once-answer.ensures.reads (sym c.is_interrupted.ensures ∙ c.if-not-is_interrupted.false)

pub returns-then-not-is_interrupted-clause-reads : goal.returns-then-not-is_interrupted-clause-reads
returns-then-not-is_interrupted-clause-reads g c =
    again_done (Reads g.S.ReadVolatile.source g.S.ReadVolatile.reads) c.loop-left.left c.loop-left.invariant
    c.read_once-answer.ensures.reads
    (inl (sym c.is_interrupted.ensures ∙ c.if-not-is_interrupted.true))

pub returns-clause-reads : goal.returns-clause-reads
returns-clause-reads g c =
    again_done (Reads g.S.ReadVolatile.source g.S.ReadVolatile.reads) c.loop-left.left c.loop-left.invariant
    c.read_once.ensures.reads
    (inr c.loop-left-test.false)
