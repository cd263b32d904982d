use Rattle.std.proofs.Common.{◌≡◌, drop}
use Rattle.vhost_inflight.specs.PackedStart.{cleared}
use Rattle.vhost_inflight.proofs.packed_start.clear.Given as goal

abbrev pub invariant-loop-index : goal.invariant-loop-index
invariant-loop-index l = cleared l.initial.entries l.free ≡ cleared l.entries (drop l.index-index l.free)
