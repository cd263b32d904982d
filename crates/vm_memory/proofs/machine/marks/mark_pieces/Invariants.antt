use Rattle.std.proofs.Common.{◌≡◌, drop, map}
use Rattle.vm_memory_guest.specs.Dirt.{with_pages}
use Rattle.vm_memory_guest.specs.Host.{shape_of}
use Rattle.vm_memory_guest.specs.Pieces.{walk_of_pieces}
use Rattle.vm_memory.proofs.MarkLemmas.{Went}
use Rattle.vm_memory.proofs.machine.marks.mark_pieces.Given as goal

abbrev pub invariant-loop-piece : goal.invariant-loop-piece
invariant-loop-piece g l =
    let regions = map g.R.GuestMemoryRegion.region l.layout in
    let pages = g.B.ExactBitmap.pages in
    Went (walk_of_pieces regions l.pieces) (walk_of_pieces regions (drop l.piece-index l.pieces))
    (with_pages pages l.initial.host) (with_pages pages l.host) l.total
    × (shape_of l.host ≡ shape_of l.initial.host)
