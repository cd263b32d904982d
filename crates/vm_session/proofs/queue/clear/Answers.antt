use Rattle.std.proofs.Common.{None}
use Rattle.vm_session.proofs.QueueLemmas.{cleared_more}
use Rattle.vm_session.proofs.queue.clear.Goals as goal

pub loop-slot-preserved : goal.loop-slot-preserved
loop-slot-preserved c =
    cleared_more None c.loop-slot.slot-index c.args.flight.now c.loop-slot.flight c.loop-slot-test.true
    c.loop-slot.invariant
