use Rattle.std.proofs.Common.{◌≡◌, drop}
use Rattle.vhost_inflight.specs.SplitStart.{cleared}
use Rattle.vhost_inflight.proofs.split_start.clear.Given as goal

abbrev pub invariant-loop-head : goal.invariant-loop-head
invariant-loop-head l = cleared l.initial.entries l.heads ≡ cleared l.entries (drop l.head-index l.heads)
