use Rattle.test_regions.specs.Markers.{IsHarvesterOf}
use Rattle.test_threads.proofs.tracked.harvested.Given as goal

abbrev pub invariant-loop : goal.invariant-loop
invariant-loop l = IsHarvesterOf l.harvester l.bitmap
