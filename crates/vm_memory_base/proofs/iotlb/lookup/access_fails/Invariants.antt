use Rattle.std.proofs.Common.{◌≡◌, ◌-◌, ◌++◌, map}
use Rattle.std.specs.List.{filter}
use Rattle.vm_memory_base.specs.Lookup.{range_in}
use Rattle.vm_memory_base.specs.Runs.{cut_to}
use Rattle.vm_memory_base.specs.Table.{range_of, forbids}
use Rattle.vm_memory_base.proofs.iotlb.lookup.access_fails.Given as goal

-- what was found, and then what forbids the access among the other runs
abbrev pub invariant-loop-run : goal.invariant-loop-run
invariant-loop-run l = map range_in l.found.items
    ++ map range_of (filter (λ r. forbids l.access r.value) (cut_to l.start (l.end - l.start) l.run-iterator))
    ≡ map range_of (filter (λ r. forbids l.access r.value) (cut_to l.start (l.end - l.start) l.fn.runs))
