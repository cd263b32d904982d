use Rattle.std.proofs.Common.{◌≡◌, ◌-◌}
use Rattle.vhost_inflight.specs.PackedStart.{free_list}
use Rattle.vhost_inflight.proofs.PackedStartLemmas.{in_front_all}
use Rattle.vhost_inflight.proofs.packed_start.free_list.Given as goal

abbrev pub invariant-loop-i : goal.invariant-loop-i
invariant-loop-i l = free_list l.entries l.descriptors l.head
    ≡ in_front_all l.free.items (free_list l.entries (l.descriptors - l.i) l.next)
