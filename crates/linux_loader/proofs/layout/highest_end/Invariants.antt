use Rattle.std.proofs.Common.{◌≡◌, drop, max}
use Rattle.linux_loader.specs.Plan.{highest_end}
use Rattle.linux_loader.proofs.layout.highest_end.Given as goal

abbrev pub invariant-loop-segment : goal.invariant-loop-segment
invariant-loop-segment l = max l.end (highest_end (drop l.segment-index l.segments)) ≡ highest_end l.segments
