use Rattle.std.proofs.Common.{◌≡◌, ◌<◌, ◌∙◌, ap, arith, flat_map, List, inl, length, [], ◌∷◌, map, slice_get, subst, sym, true, Some}
use Rattle.vm_memory_guest.specs.Collection.{each_is_region}
use Rattle.vm_memory_guest.specs.Dirt.{with_pages}
use Rattle.vm_memory_guest.specs.Host.{Holds, Space, Tlb, shape_of}
use Rattle.vm_memory_guest.specs.Region.{region_names}
use Rattle.vm_memory_guest.proofs.HoldsLemmas.{Holds-left, Holds-right}
use Rattle.vm_memory.proofs.MarkLemmas.{on-fits, on_fails, on_marks}
use Rattle.vm_memory.proofs.machine.marks.mark_translated.Given.{Over}
use Rattle.vm_memory.proofs.machine.marks.mark_translated.Goals as goal
use Rattle.vm_memory.proofs.machine.marks.mark_translated.Goals.{After-get_backend-layout, After-table-table}

-- the host holds the bytes of the layout
held : (g : Over) (c : After-get_backend-layout g) → Holds (shape_of c.args.host.now)
    (flat_map region_names (map g.R.GuestMemoryRegion.region c.get_backend-layout.result.now))
held g c =
    let shape = shape_of c.args.host.now in
    let region = g.R.GuestMemoryRegion.region in
    subst (λ (rs : List g.row.R.Denot). Holds shape (flat_map region_names (map region rs)))
    (sym c.get_backend-layout.ensures) (Holds-left shape _ _ c.requires)

-- the table that is asked is the one that the IOMMU names, and it is on
there : (g : Over) (c : After-table-table g)
    → slice_get c.args.host.now.tables (g.I.Iommu.number c.args.memory.now.iommu) ≡ Some c.table-table.result.now
there g c =
    let number = c.table.ensures ∙ ap g.I.Iommu.number (c.deref.ensures ∙ c.iommu-iommu.ensures) in
    ap (slice_get c.args.host.now.tables) (sym number) ∙ c.table-table.ensures

is_on : (g : Over) (c : After-table-table g) → c.args.memory.now.on ≡ true
is_on g c = sym c.get_iommu_enabled.ensures ∙ c.if-not-get_iommu_enabled.false

pub mark_layout-requires : goal.mark_layout-requires
mark_layout-requires g c = held g (goal.at.mark_layout-requires g c).After-get_backend-layout

pub table-table-requires : goal.table-table-requires
table-table-requires g c =
    let shape = shape_of c.args.host.now in
    let m = c.args.memory.now in
    let regions = map g.R.GuestMemoryRegion.region m.backend in
    let table = g.I.Iommu.number m.iommu in
    let held = Holds-right shape (flat_map region_names regions) (Tlb table ∷ Space m.space ∷ []) c.requires in
    let number = c.table.ensures ∙ ap g.I.Iommu.number (c.deref.ensures ∙ c.iommu-iommu.ensures) in
    (subst (λ n. n < length c.args.host.now.tables) (sym number) held.0, tt)

pub mark_pieces-requires-clause-held : goal.mark_pieces-requires-clause-held
mark_pieces-requires-clause-held g c = held g (goal.at.mark_pieces-requires-clause-held g c).After-get_backend-layout

pub mark_pieces-requires-clause-fits : goal.mark_pieces-requires-clause-fits
mark_pieces-requires-clause-fits g c =
    let region = g.R.GuestMemoryRegion.region in
    let m = c.args.memory.now in
    let at = (goal.at.mark_pieces-requires-clause-fits g c).After-table-table in
    rw (c.get_backend-layout.ensures, c.as_slice.ensures)
    (on-fits region m.backend (g.I.Iommu.number m.iommu) m.space m.on
    (each_is_region region g.met.R.GuestMemoryRegion.fits m.backend)
    (with_pages g.B.ExactBitmap.pages c.args.host.now) c.args.addr.0 c.args.count (is_on g at)
    c.table-table.result.now (there g at) c.in-Ok.pieces c.in-Ok.ensures (omega arith))

pub returns-in-Ok-clause-marked : goal.returns-in-Ok-clause-marked
returns-in-Ok-clause-marked g c =
    let region = g.R.GuestMemoryRegion.region in
    let pages = g.B.ExactBitmap.pages in
    let m = c.args.memory.now in
    let at = (goal.at.returns-in-Ok-clause-marked g c).After-table-table in
    let answer = rw (c.get_backend-layout.ensures, c.as_slice.ensures) at c.mark_pieces.ensures.answer in
    let dirt = rw (c.get_backend-layout.ensures, c.as_slice.ensures) at c.mark_pieces.ensures.dirt in
    inl (on_marks region m.backend (g.I.Iommu.number m.iommu) m.space m.on
    (each_is_region region g.met.R.GuestMemoryRegion.fits m.backend)
    (with_pages pages c.args.host.now) c.args.addr.0 c.args.count (is_on g at)
    c.table-table.result.now (there g at) c.in-Ok.pieces c.in-Ok.ensures
    (with_pages pages c.mark_pieces.new.host) c.mark_pieces.result answer dirt)

pub returns-in-Err-clause-marked : goal.returns-in-Err-clause-marked
returns-in-Err-clause-marked g c =
    let region = g.R.GuestMemoryRegion.region in
    let m = c.args.memory.now in
    let at = (goal.at.returns-in-Err-clause-marked g c).After-table-table in
    rw c.refused.ensures
    (on_fails region m.backend (g.I.Iommu.number m.iommu) m.space m.on
    (each_is_region region g.met.R.GuestMemoryRegion.fits m.backend)
    (with_pages g.B.ExactBitmap.pages c.args.host.now) c.args.addr.0 c.args.count (is_on g at)
    c.table-table.result.now (there g at) c.in-Err.error c.in-Err.ensures)
