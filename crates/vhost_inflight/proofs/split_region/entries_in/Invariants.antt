use Rattle.std.proofs.Common.{◌≡◌}
use Rattle.vhost_inflight.specs.SplitBytes.{entries_in}
use Rattle.vhost_inflight.proofs.split_region.entries_in.Given as goal

abbrev pub invariant-loop-head : goal.invariant-loop-head
invariant-loop-head l = l.entries.items ≡ entries_in l.head l.bytes
