use Rattle.std.proofs.Common.{◌≡◌}
use Rattle.vm_memory_base.specs.Change.{granted}
use Rattle.vm_memory_base.proofs.iotlb.lookup.are_granted.Given as goal

-- the runs that are left decide
abbrev pub invariant-loop-run : goal.invariant-loop-run
invariant-loop-run l =
    (goal.iterator-loop-run).can_next l.run-iterator × (goal.iterator-loop-run).is_finite l.run-iterator
    × (granted l.at l.end l.access l.run-iterator ≡ granted l.start l.end l.access l.fn.runs)
