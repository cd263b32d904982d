use Rattle.std.proofs.Common.{◌≡◌, ◌∷◌, drop}
use Rattle.std.specs.Prelude.{map}
use Rattle.vhost_inflight.specs.PackedCrash.{id_of}
use Rattle.vhost_backend.specs.PackedFlight.{copy_by}
use Rattle.vhost_backend.proofs.packed_flight.id_of.Given as goal

-- the id of what is left, after one with the id so far, is that of all
abbrev pub invariant-loop-i : goal.invariant-loop-i
invariant-loop-i l = id_of (record { id = l.id; flags = 0; len = 0; addr = 0 } ∷ map copy_by (drop l.i l.descriptors))
    ≡ id_of (map copy_by l.descriptors)
