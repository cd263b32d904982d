use Rattle.std.proofs.Common.{◌<◌, ◌∷◌, [], ◌∙◌, ap, map, sym, subst, length, slice_get, Some, ◌≡◌}
use Rattle.vm_memory_guest.specs.Host.{Holds, shape_of}
use Rattle.vm_memory_guest.specs.Pieces.{marking, walk_of_pieces}
use Rattle.vm_memory_device.proofs.IommuLemmas.{backend-held, iommu-held, gives-on, fails-on}
use Rattle.vm_memory_device.proofs.iommu.IommuMemoryGuestMemory.get_slices.Given.{Over}
use Rattle.vm_memory_device.proofs.iommu.IommuMemoryGuestMemory.get_slices.Goals as goal
use Rattle.vm_memory_device.proofs.iommu.IommuMemoryGuestMemory.get_slices.Goals.{After-table-table}

-- the table that is asked is the one that the IOMMU names
there : (g : Over) (c : After-table-table g)
    → slice_get c.args.host.now.tables (g.I.Iommu.number c.self.inside.iommu.value) ≡ Some c.table-table.result.now
there g c =
    ap (slice_get c.args.host.now.tables) (sym (c.table.ensures ∙ ap g.I.Iommu.number c.deref.ensures))
    ∙ c.table-table.ensures

pub get_slices-requires : goal.get_slices-requires
get_slices-requires g c =
    let shape = shape_of c.args.host.now in
    let m = c.args.self.now in
    subst (λ m. Holds shape (g.M.Named.names m.backend)) (sym c.self.view_is)
    (backend-held shape (g.M.Named.names m.backend)
    (g.I.Named.names m.iommu) m.space c.requires)

pub table-table-requires : goal.table-table-requires
table-table-requires g c =
    let shape = shape_of c.args.host.now in
    let m = c.args.self.now in
    let held = iommu-held shape (g.M.Named.names m.backend)
    (g.I.Named.names m.iommu) m.space c.requires in
    let table = subst (Holds shape) (g.met.I.Iommu.names_table m.iommu) held in
    let number = c.table.ensures
    ∙ (ap g.I.Iommu.number c.deref.ensures ∙ ap (λ m. g.I.Iommu.number m.iommu) c.self.view_is) in
    (subst (λ n. n < length c.args.host.now.tables) (sym number) table.0, tt)

pub returns-in-Some-clause-answer : goal.returns-in-Some-clause-answer
returns-in-Some-clause-answer g c =
    let it = c.self.inside in
    let regions = map g.M.R.GuestMemoryRegion.region (g.M.GuestMemoryBackend.regions it.backend) in
    let at = there g (goal.at.returns-in-Some-clause-answer g c).After-table-table in
    rw (← c.self.view_is) (gives-on g.M.R.GuestMemoryRegion.region (g.M.GuestMemoryBackend.regions it.backend)
    (g.I.Iommu.number it.iommu.value) it.space.0 it.use_iommu c.if-not-self.false c.args.host.now.tables
    c.table-table.result.now at c.args.addr.0 c.args.count c.args.access (c.in-Some.piece ∷ []) c.in-Some.ensures
    c.of_pieces.result
    (c.of_pieces.ensures
    ∙ ap (λ ps. marking it.space.0 c.args.addr.0 (walk_of_pieces regions ps)) c.one-pieces.ensures))

pub returns-in-Ok-clause-answer : goal.returns-in-Ok-clause-answer
returns-in-Ok-clause-answer g c =
    let it = c.self.inside in
    let at = there g (goal.at.returns-in-Ok-clause-answer g c).After-table-table in
    rw (← c.self.view_is) (gives-on g.M.R.GuestMemoryRegion.region (g.M.GuestMemoryBackend.regions it.backend)
    (g.I.Iommu.number it.iommu.value) it.space.0 it.use_iommu c.if-not-self.false c.args.host.now.tables
    c.table-table.result.now at c.args.addr.0 c.args.count c.args.access c.in-Ok.pieces c.in-Ok.ensures
    c.of_pieces-in-Ok.result c.of_pieces-in-Ok.ensures)

pub returns-in-Err-clause-answer : goal.returns-in-Err-clause-answer
returns-in-Err-clause-answer g c =
    let it = c.self.inside in
    let at = there g (goal.at.returns-in-Err-clause-answer g c).After-table-table in
    rw (← c.self.view_is) (fails-on g.M.R.GuestMemoryRegion.region (g.M.GuestMemoryBackend.regions it.backend)
    (g.I.Iommu.number it.iommu.value) it.space.0 it.use_iommu c.if-not-self.false c.args.host.now.tables
    c.table-table.result.now at c.args.addr.0 c.args.count c.args.access c.in-Err.error c.in-Err.ensures
    c.error_of_translation.result c.error_of_translation.ensures)
