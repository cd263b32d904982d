use Rattle.std.proofs.Common.{◌∙◌, sym, inl, inr}
use Rattle.vm_memory_base.specs.Transfer.{TakesOnce}
use Rattle.vm_memory_base.specs.lemmas.Turns.{again_more, again_done}
use Rattle.vm_memory_base.proofs.io.turns.offer_again.Goals as goal

pub loop-left-init : goal.loop-left-init
loop-left-init g c = λ answer new so. so

pub loop-left-preserved : goal.loop-left-preserved
loop-left-preserved g c =
    let w = g.S.WriteVolatile in
    let made = c.write_volatile-answer.ensures in
    again_more (TakesOnce w.sink w.taken w.may_want w.writes c.args.buf.now) c.loop-left.left c.loop-left.invariant
    c.loop-left-test.true (made.tells, made.keeps, made.wants, made.writes)
    (sym c.is_interrupted.ensures ∙ c.if-not-is_interrupted.false)

pub returns-then-not-is_interrupted-clause-writes : goal.returns-then-not-is_interrupted-clause-writes
returns-then-not-is_interrupted-clause-writes g c =
    let w = g.S.WriteVolatile in
    let made = c.write_volatile-answer.ensures in
    again_done (TakesOnce w.sink w.taken w.may_want w.writes c.args.buf.now) c.loop-left.left c.loop-left.invariant
    (made.tells, made.keeps, made.wants, made.writes)
    (inl (sym c.is_interrupted.ensures ∙ c.if-not-is_interrupted.true))

pub returns-clause-writes : goal.returns-clause-writes
returns-clause-writes g c =
    let w = g.S.WriteVolatile in
    let made = c.write_volatile.ensures in
    again_done (TakesOnce w.sink w.taken w.may_want w.writes c.args.buf.now) c.loop-left.left c.loop-left.invariant
    (made.tells, made.keeps, made.wants, made.writes) (inr c.loop-left-test.false)
