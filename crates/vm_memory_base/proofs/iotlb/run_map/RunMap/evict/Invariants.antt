use Rattle.std.proofs.Common.{◌≡◌, ◌-◌, length}
use Rattle.vm_memory_base.specs.Change.{IsKept, without_first}
use Rattle.vm_memory_base.specs.Table.{has_any}
use Rattle.vm_memory_base.proofs.iotlb.run_map.RunMap.evict.Given as goal

-- what is left to go leaves what is to be left
abbrev pub invariant-loop-spared : goal.invariant-loop-spared
invariant-loop-spared l = IsKept l.self
    × (without_first (has_any l.spared) (length l.self - l.limit) l.self
    ≡ without_first (has_any l.spared) (length l.initial.self - l.limit) l.initial.self)

abbrev pub decreases-loop-spared : goal.decreases-loop-spared
decreases-loop-spared l = length l.self
