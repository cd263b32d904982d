use Rattle.std.proofs.Common.{◌≡◌, ◌++◌}
use Rattle.std.specs.Vec.Iter.{into_iter_items}
use Rattle.vm_memory_guest.specs.Collection.{regions_of}
use Rattle.vm_memory_guest.proofs.collection.shared_each.Given as goal

-- the regions so far are shared, and those to come are the rest
abbrev pub invariant-loop-region : goal.invariant-loop-region
invariant-loop-region g l = regions_of l.shared ++ into_iter_items l.region-iterator ≡ l.fn.regions.items
