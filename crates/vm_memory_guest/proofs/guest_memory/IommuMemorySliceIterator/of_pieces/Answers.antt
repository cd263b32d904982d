use Rattle.std.proofs.Common.{map}
use Rattle.vm_memory_guest.proofs.PieceWalk.{left-first, left-no_piece}
use Rattle.vm_memory_guest.proofs.guest_memory.IommuMemorySliceIterator.of_pieces.Goals as goal

pub returns-in-Some : goal.returns-in-Some
returns-in-Some g c =
    left-first c.in-Some.walk _ c.new-later.result c.next_walk.new.self c.new-later.ensures c.in-Some.ensures.walk
    c.in-Some.ensures.left.0

pub returns : goal.returns
returns g c =
    left-no_piece (map g.M.R.GuestMemoryRegion.region (g.M.GuestMemoryBackend.regions c.args.backend.now))
    c.args.iova.0 c.get_slices.result _ c.new-later.result c.get_slices.ensures c.new-later.ensures
    c.in_default.ensures.walk
