use Rattle.std.proofs.Common.{arith, map}
use Rattle.vm_memory_guest.specs.Collection.{each_is_region}
use Rattle.vm_memory_guest.specs.Dirt.{with_pages}
use Rattle.vm_memory.proofs.MarkLemmas.{layout-fits, layout_marks}
use Rattle.vm_memory.proofs.machine.marks.mark_layout.Goals as goal

pub mark_pieces-requires-clause-fits : goal.mark_pieces-requires-clause-fits
mark_pieces-requires-clause-fits g c =
    let region = g.R.GuestMemoryRegion.region in
    let rs = c.args.layout.now in
    layout-fits (map region rs) (each_is_region region g.met.R.GuestMemoryRegion.fits rs)
    (with_pages g.B.ExactBitmap.pages c.args.host.now) (record { base = c.args.addr; length = c.args.count })
    (omega arith)

pub returns-clause-marked : goal.returns-clause-marked
returns-clause-marked g c =
    let region = g.R.GuestMemoryRegion.region in
    let pages = g.B.ExactBitmap.pages in
    let rs = c.args.layout.now in
    layout_marks (map region rs) (each_is_region region g.met.R.GuestMemoryRegion.fits rs)
    (with_pages pages c.args.host.now) (record { base = c.args.addr; length = c.args.count })
    (with_pages pages c.mark_pieces.new.host) c.mark_pieces.result c.mark_pieces.ensures.answer
    c.mark_pieces.ensures.dirt
