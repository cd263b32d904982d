use Rattle.std.proofs.Common.{Err, refl}
use Rattle.vhost_backend.proofs.KeptLemmas.{keeps_from}
use Rattle.vhost_backend.proofs.kept_ranges.keep_all.Goals as goal

pub returns-in-Err-clause-keeps : goal.returns-in-Err-clause-keeps
returns-in-Err-clause-keeps g c = c.loop-i.invariant.rest (Err c.in-Err.error) c.keep.new.host
    (keeps_from (g.D.RingMemory.steps c.args.mem.now) c.args.kept.now c.loop-i.i _ c.loop-i-test.true c.loop-i.host
    c.keep.new.host c.keep.new.host c.keep.result (Err c.in-Err.error) c.keep.ensures.step
    (rw c.in-Err.is (refl, refl)))

pub loop-i-preserved : goal.loop-i-preserved
loop-i-preserved g c = record {
  rest = λ r end known. c.loop-i.invariant.rest r end
      (keeps_from (g.D.RingMemory.steps c.args.mem.now) c.args.kept.now c.loop-i.i _ c.loop-i-test.true c.loop-i.host
      c.keep.new.host end c.keep.result r c.keep.ensures.step (rw c.in_default.is known));
  held = c.keep.ensures.held;
}
