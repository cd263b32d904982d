use Rattle.std.proofs.Common.{◌≡◌, ◌++◌, drop, replicate, None}
use Rattle.vm_session.proofs.queue.clear.Given as goal

abbrev pub invariant-loop-slot : goal.invariant-loop-slot
invariant-loop-slot l = l.flight ≡ replicate l.slot-index None ++ drop l.slot-index l.fn.flight
