use Rattle.std.proofs.Common.{◌≡◌, replicate}
use Rattle.vhost_backend.specs.Ring.{new_ring}
use Rattle.vhost_backend.proofs.rings.Rings.new.Given as goal

abbrev pub invariant-loop : goal.invariant-loop
invariant-loop l = l.rings.items ≡ replicate l.counter (new_ring l.ids)
