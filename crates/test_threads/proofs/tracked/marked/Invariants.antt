use Rattle.test_regions.specs.Markers.{IsMarkerOf}
use Rattle.test_threads.proofs.tracked.marked.Given as goal

abbrev pub invariant-loop-number : goal.invariant-loop-number
invariant-loop-number l = IsMarkerOf l.marker l.bitmap
