use Rattle.std.proofs.Common.{◌≡◌, ◌-◌, ◌++◌}
use Rattle.vhost_inflight.specs.PackedStart.{link_stores}
use Rattle.vhost_inflight.proofs.packed_start.push_links.Given as goal

abbrev pub invariant-loop-index : goal.invariant-loop-index
invariant-loop-index l = l.initial.stores.items ++ link_stores 0 l.descriptors
    ≡ l.stores.items ++ link_stores l.index (l.descriptors - l.index)
