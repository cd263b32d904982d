use Rattle.std.proofs.Common.{◌≡◌, ◌++◌, map}
use Rattle.vm_memory_base.specs.Change.{gaps}
use Rattle.vm_memory_base.specs.Lookup.{range_in}
use Rattle.vm_memory_base.specs.Table.{range_of}
use Rattle.vm_memory_base.proofs.iotlb.lookup.misses.Given as goal

-- what was found, and then the gaps that the other runs leave
abbrev pub invariant-loop-run : goal.invariant-loop-run
invariant-loop-run l = map range_in l.found.items ++ map range_of (gaps l.at l.end l.run-iterator)
    ≡ map range_of (gaps l.start l.end l.fn.runs)
