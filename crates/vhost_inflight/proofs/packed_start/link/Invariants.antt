use Rattle.std.proofs.Common.{◌≡◌, ◌-◌}
use Rattle.vhost_inflight.specs.PackedStart.{linked}
use Rattle.vhost_inflight.proofs.packed_start.link.Given as goal

abbrev pub invariant-loop-index : goal.invariant-loop-index
invariant-loop-index l =
    linked l.initial.entries 0 l.descriptors ≡ linked l.entries l.index (l.descriptors - l.index)
