use Rattle.std.proofs.Common.{◌≡◌, ◌+◌, ◌++◌, length}
use Rattle.vm_memory_base.specs.Change.{runs_below, runs_from}
use Rattle.vm_memory_base.proofs.iotlb.run_map.RunMap.remove_between.Given as goal

-- the runs on either side stay
abbrev pub invariant-loop-run : goal.invariant-loop-run
invariant-loop-run l = runs_below l.first l.self ++ runs_from (l.last + 1) l.self
    ≡ runs_below l.first l.initial.self ++ runs_from (l.last + 1) l.initial.self

abbrev pub decreases-loop-run : goal.decreases-loop-run
decreases-loop-run l = length l.self
