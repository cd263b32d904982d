use Rattle.std.proofs.Common.{◌≡◌, replicate, None}
use Rattle.vhost_backend.proofs.block_queue.none_asked.Given as goal

abbrev pub invariant-loop-made : goal.invariant-loop-made
invariant-loop-made l = l.asked.items ≡ replicate l._made None
