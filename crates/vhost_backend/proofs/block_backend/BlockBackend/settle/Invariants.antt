use Rattle.std.proofs.Common.{◌≡◌}
use Rattle.vhost_backend.specs.BlockTable.{settled_to}
use Rattle.vhost_backend.proofs.block_backend.BlockBackend.settle.Given as goal

abbrev pub invariant-loop-ring : goal.invariant-loop-ring
invariant-loop-ring l = l.self ≡ settled_to l.ring l.fn.self
