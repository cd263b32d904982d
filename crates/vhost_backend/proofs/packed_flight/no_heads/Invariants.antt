use Rattle.std.proofs.Common.{◌≡◌, replicate}
use Rattle.vhost_backend.proofs.packed_flight.no_heads.Given as goal

abbrev pub invariant-loop-made : goal.invariant-loop-made
invariant-loop-made l = l.heads.items ≡ replicate l._made 0
