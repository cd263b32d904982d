use Rattle.std.proofs.Common.{◌≡◌}
use Rattle.vhost_backend.specs.Backend.{refreshed}
use Rattle.vhost_backend.proofs.backend.Backend.finish.Given as goal

abbrev pub invariant-loop-ring : goal.invariant-loop-ring
invariant-loop-ring l = l.self ≡ refreshed l.ring l.initial.self
