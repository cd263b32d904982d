use Rattle.std.proofs.Common.{◌≡◌, ℕ, suc, ◌<◌, get_or, Ok}
use Rattle.vm_memory_guest.specs.Region.{Region, neighbours_of}
use Rattle.vm_memory_guest.proofs.RegionLaws.{regions}
use Rattle.vm_memory_guest.proofs.collection.GuestRegionCollection.from_arc_regions.Given as goal

-- the neighbours so far pass
abbrev pub invariant-loop-next : goal.invariant-loop-next
invariant-loop-next g l =
    let rs = regions g.R.GuestMemoryRegion.region l.regions.items in
    (k : ℕ) (d : Region) → suc k < l.next → neighbours_of (get_or rs k d) (get_or rs (suc k) d) ≡ Ok tt
