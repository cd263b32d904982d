use Rattle.std.proofs.Common.{◌≡◌, ◌++◌, map, take}
use Rattle.vhost_backend.specs.PackedFlight.{descriptor_by}
use Rattle.vhost_backend.proofs.packed_flight.put_all.Given as goal

-- those so far were added
abbrev pub invariant-loop-copy : goal.invariant-loop-copy
invariant-loop-copy l = l.list.items ≡ l.fn.list.items ++ map descriptor_by (take l.copy-index l.copies)
