use Rattle.std.proofs.Common.{map}
use Rattle.vm_memory_guest.specs.Collection.{regions_of}
use Rattle.vm_memory_guest.specs.Mmap.{mmap_region}
use Rattle.vm_memory_guest.proofs.RangeLemmas.{IsMade}
use Rattle.vm_memory_guest.proofs.mmap.ranges_in.Given as goal

-- the blocks and the regions of the ranges so far
abbrev pub invariant-loop-range : goal.invariant-loop-range
invariant-loop-range g l =
    IsMade g.B.Bitmap.made l.ranges l.initial.host l.range-index l.host (map mmap_region (regions_of l.regions))
