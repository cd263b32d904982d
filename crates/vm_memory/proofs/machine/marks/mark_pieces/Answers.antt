use Rattle.std.proofs.Common.{◌≡◌, ◌+◌, ◌∙◌, List, drop, get_or, map, refl, subst, sym, ap, All}
use Rattle.std.specs.List.{AllByRecursion, flat_map}
use Rattle.vm_memory_base.specs.declared.iotlb.lookup.MappedRange.{MappedRange}
use Rattle.vm_memory_guest.specs.Access.{AccessFault}
use Rattle.vm_memory_guest.specs.Answer.{Reach}
use Rattle.vm_memory_guest.specs.Collection.{each_is_region}
use Rattle.vm_memory_guest.specs.Copy.{dirtied_cells}
use Rattle.vm_memory_guest.specs.Dirt.{with_pages}
use Rattle.vm_memory_guest.specs.Host.{Holds, Shape, shape_of}
use Rattle.vm_memory_guest.specs.Pieces.{followed_by, walk_of_pieces}
use Rattle.vm_memory_guest.specs.Region.{Region, IsRegion, region_names}
use Rattle.vm_memory_guest.specs.Window.{MarksAll, cells, window_names}
use Rattle.vm_memory.proofs.MarkLemmas.{dirtied_cells-walk, pieces_next, walk-held, went_on, went_stops, went-dirt}
use Rattle.vm_memory.proofs.machine.marks.mark_pieces.Given.{Over}
use Rattle.vm_memory.proofs.machine.marks.mark_pieces.Goals as goal
use Rattle.vm_memory.proofs.machine.marks.mark_pieces.Goals.{After-get_slices-walk, After-mark_windows-count}

-- the regions of a layout
abbrev regions_of : (g : Over) (layout : List g.row.R.Denot) → List Region
regions_of g layout = map g.R.GuestMemoryRegion.region layout

each : (g : Over) (layout : List g.row.R.Denot) → All IsRegion (regions_of g layout)
each g layout = each_is_region g.R.GuestMemoryRegion.region g.met.R.GuestMemoryRegion.fits layout

abbrev no_piece : MappedRange
no_piece = record { base = record { 0 = 0 }; length = 0 }

-- the walk over the next piece, and those over the others
next : (g : Over) (c : After-get_slices-walk g) → let regions = regions_of g c.args.layout.now in
    walk_of_pieces regions (drop c.loop-piece.piece-index c.args.pieces.now)
    ≡ followed_by c.get_slices-walk.result
    (walk_of_pieces regions (drop (c.loop-piece.piece-index + 1) c.args.pieces.now))
next g c =
    let regions = regions_of g c.args.layout.now in
    let i = c.loop-piece.piece-index in
    let pieces = c.args.pieces.now in
    pieces_next regions pieces i no_piece c.loop-piece-test.true
    ∙ ap (λ (w : Reach AccessFault). followed_by w (walk_of_pieces regions (drop (i + 1) pieces)))
    (sym c.get_slices-walk.ensures)

-- its windows have their dirt
dirt : (g : Over) (c : After-mark_windows-count g) → let pages = g.B.ExactBitmap.pages in
    with_pages pages c.mark_windows-count.new.host
    ≡ dirtied_cells (cells c.get_slices-walk.result.windows) (with_pages pages c.loop-piece.host)
dirt g c =
    let pages = g.B.ExactBitmap.pages in
    let marks = g.B.Bitmap.marks in
    let layout = c.args.layout.now in
    let p = get_or c.args.pieces.now c.loop-piece.piece-index no_piece in
    let old = c.loop-piece.host in
    let new = c.mark_windows-count.new.host in
    let by_bytes = c.mark_is_by_bytes.ensures in
    subst (λ (w : Reach AccessFault). MarksAll marks w.windows old new
    → with_pages pages new ≡ dirtied_cells (cells w.windows) (with_pages pages old)) (sym c.get_slices-walk.ensures)
    (dirtied_cells-walk marks pages g.met.B.ExactBitmap.marks_pages by_bytes.empty by_bytes.each (regions_of g layout)
    p.base.0 p.length old new (each g layout)) c.mark_windows-count.ensures.marks

pub mark_windows-count-requires-clause-held : goal.mark_windows-count-requires-clause-held
mark_windows-count-requires-clause-held g c =
    let layout = c.args.layout.now in
    let regions = regions_of g layout in
    let shape = shape_of c.loop-piece.host in
    let p = get_or c.args.pieces.now c.loop-piece.piece-index no_piece in
    let held = subst (λ (s : Shape). Holds s (flat_map region_names regions)) (sym c.loop-piece.invariant.1)
    c.requires.held in
    subst (λ (w : Reach AccessFault). AllByRecursion (λ v. Holds shape (window_names v)) w.windows)
    (sym c.get_slices-walk.ensures) (walk-held shape regions p.base.0 p.length (each g layout) held)

pub returns-in-Some-clause-dirt : goal.returns-in-Some-clause-dirt
returns-in-Some-clause-dirt g c =
    let at = goal.at.returns-in-Some-clause-dirt g c in
    let marked = c.mark_windows-count.ensures in
    went-dirt (went_stops c.loop-piece.invariant.0 c.get_slices-walk.result _ (next g at.After-get_slices-walk)
    c.mark_windows-count.result.0 marked.count (with_pages g.B.ExactBitmap.pages c.mark_windows-count.new.host)
    (dirt g at.After-mark_windows-count) c.in-Some.error (sym marked.fault ∙ c.in-Some.is)) refl

pub loop-piece-preserved : goal.loop-piece-preserved
loop-piece-preserved g c =
    let at = goal.at.loop-piece-preserved g c in
    let marked = c.mark_windows-count.ensures in (
      went_on c.loop-piece.invariant.0 c.get_slices-walk.result _ (next g at.After-get_slices-walk)
          c.mark_windows-count.result.0 marked.count (with_pages g.B.ExactBitmap.pages c.mark_windows-count.new.host)
          (dirt g at.After-mark_windows-count) (sym marked.fault ∙ c.in_default.is),
      marked.shape ∙ c.loop-piece.invariant.1,
    )
