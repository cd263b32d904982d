use Rattle.std.proofs.Common.{◌≡◌, replicate, None}
use Rattle.vm_session.proofs.queue.none_in_flight.Given as goal

abbrev pub invariant-loop-made : goal.invariant-loop-made
invariant-loop-made l = l.flight.items ≡ replicate l._made None
