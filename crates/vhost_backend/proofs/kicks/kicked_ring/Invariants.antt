use Rattle.vhost_backend.specs.Kicks.{NoneBefore}
use Rattle.vhost_backend.proofs.kicks.kicked_ring.Given as goal

abbrev pub invariant-loop-ring : goal.invariant-loop-ring
invariant-loop-ring l = NoneBefore l.ring l.kicked
