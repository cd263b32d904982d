use Rattle.std.proofs.Common.{◌≡◌}
use Rattle.vhost_backend.specs.TableUse.{lost_to}
use Rattle.vhost_backend.proofs.block_queues.BlockQueues.lose.Given as goal

abbrev pub invariant-loop-ring : goal.invariant-loop-ring
invariant-loop-ring l = l.self ≡ lost_to l.ring l.fn.self
