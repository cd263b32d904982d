use Rattle.std.proofs.Common.{◌∙◌, inl, inr, sym, refl}
use Rattle.vm_memory_base.specs.lemmas.Turns.{again_more, again_done}
use Rattle.vm_memory_guest.specs.Transfer.{LendsWindow}
use Rattle.vm_memory_guest.proofs.host.HostMemory.read_from.Goals as goal

pub loop-left-init : goal.loop-left-init
loop-left-init g c = record { shape = refl; tries = λ answer new so. so }

pub loop-left-preserved : goal.loop-left-preserved
loop-left-preserved g c =
    let l = c.loop-left in
    let lend = c.lend-answer in
    record {
      shape = lend.ensures.shape ∙ l.invariant.shape;
      tries = again_more
          (LendsWindow g.S.ReadVolatile.source g.S.ReadVolatile.reads g.B.Bitmap.marks c.args.window.now)
          l.left l.invariant.tries c.loop-left-test.true lend.ensures.lends
          (sym c.is_interrupted.ensures ∙ c.if-not-is_interrupted.false);
    }

pub returns-then-not-is_interrupted-clause-lends : goal.returns-then-not-is_interrupted-clause-lends
returns-then-not-is_interrupted-clause-lends g c =
    again_done (LendsWindow g.S.ReadVolatile.source g.S.ReadVolatile.reads g.B.Bitmap.marks c.args.window.now)
    c.loop-left.left c.loop-left.invariant.tries c.lend-answer.ensures.lends
    (inl (sym c.is_interrupted.ensures ∙ c.if-not-is_interrupted.true))

pub returns-clause-lends : goal.returns-clause-lends
returns-clause-lends g c =
    again_done (LendsWindow g.S.ReadVolatile.source g.S.ReadVolatile.reads g.B.Bitmap.marks c.args.window.now)
    c.loop-left.left c.loop-left.invariant.tries c.lend.ensures.lends (inr c.loop-left-test.false)
