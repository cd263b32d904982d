use Rattle.std.proofs.Common.{map}
use Rattle.vm_memory_guest.proofs.HoldsLemmas.{AreHeldFrom}
use Rattle.vm_memory_guest.proofs.collection.GuestRegionCollection.each_held.Given as goal

abbrev pub invariant-loop-region : goal.invariant-loop-region
invariant-loop-region g l = AreHeldFrom l.shape (map g.R.GuestMemoryRegion.region l.self) l.region-index
