use Rattle.std.proofs.Common.{◌≡◌, drop}
use Rattle.vhost_inflight.specs.PackedStart.{seen_too}
use Rattle.vhost_inflight.proofs.packed_start.mark.Given as goal

abbrev pub invariant-loop-index : goal.invariant-loop-index
invariant-loop-index l = seen_too l.initial.seen l.indices ≡ seen_too l.seen (drop l.index-index l.indices)
