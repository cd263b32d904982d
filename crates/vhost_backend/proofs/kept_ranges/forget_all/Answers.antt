use Rattle.std.proofs.Common.{Err, refl}
use Rattle.vhost_backend.proofs.KeptLemmas.{forgets_from}
use Rattle.vhost_backend.proofs.kept_ranges.forget_all.Goals as goal

pub returns-in-Err-clause-forgets : goal.returns-in-Err-clause-forgets
returns-in-Err-clause-forgets g c = c.loop-i.invariant.rest (Err c.in-Err.error) c.forget.new.host
    (forgets_from (g.D.RingMemory.steps c.args.mem.now) c.args.kept.now c.loop-i.i _ c.loop-i-test.true c.loop-i.host
    c.forget.new.host c.forget.new.host c.forget.result (Err c.in-Err.error) c.forget.ensures.step
    (rw c.in-Err.is (refl, refl)))

pub loop-i-preserved : goal.loop-i-preserved
loop-i-preserved g c = record {
  rest = λ r end known. c.loop-i.invariant.rest r end
      (forgets_from (g.D.RingMemory.steps c.args.mem.now) c.args.kept.now c.loop-i.i _ c.loop-i-test.true c.loop-i.host
      c.forget.new.host end c.forget.result r c.forget.ensures.step (rw c.in_default.is known));
  held = c.forget.ensures.held;
}
