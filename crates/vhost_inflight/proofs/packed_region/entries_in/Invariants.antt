use Rattle.std.proofs.Common.{◌≡◌}
use Rattle.vhost_inflight.specs.PackedBytes.{entries_in}
use Rattle.vhost_inflight.proofs.packed_region.entries_in.Given as goal

abbrev pub invariant-loop-index : goal.invariant-loop-index
invariant-loop-index l = l.entries.items ≡ entries_in l.index l.bytes
