use Rattle.std.proofs.Common.{◌≡◌}
use Rattle.vhost_backend.specs.TableUse.{kicked_to}
use Rattle.vhost_backend.proofs.block_queues.BlockQueues.kick_waiting.Given as goal

abbrev pub invariant-loop-ring : goal.invariant-loop-ring
invariant-loop-ring l = l.kicks ≡ kicked_to l.ring l.self l.fn.kicks
