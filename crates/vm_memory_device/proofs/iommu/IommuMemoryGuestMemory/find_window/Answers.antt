use Rattle.std.proofs.Common.{◌≡◌, ◌<◌, ◌∷◌, [], ◌∙◌, ap, map, sym, subst, length, slice_get, Some}
use Rattle.vm_memory_guest.specs.Host.{Holds, shape_of}
use Rattle.vm_memory_guest.specs.Pieces.{marking, walk_of_pieces}
use Rattle.vm_memory_guest.specs.Walk.{GivesAccess, alone}
use Rattle.vm_memory_guest.proofs.OneWindow.{of_found}
use Rattle.vm_memory_device.specs.Iommu.{behind}
use Rattle.vm_memory_device.proofs.IommuLemmas.{backend-held, iommu-held, gives-on}
use Rattle.vm_memory_device.proofs.iommu.IommuMemoryGuestMemory.find_window.Goals as goal

pub find_window-requires : goal.find_window-requires
find_window-requires g c =
    let shape = shape_of c.args.host.now in
    let m = c.args.self.now in
    subst (λ m. Holds shape (g.M.Named.names m.backend)) (sym c.self.view_is)
    (backend-held shape (g.M.Named.names m.backend)
    (g.I.Named.names m.iommu) m.space c.requires)

pub table-table-requires : goal.table-table-requires
table-table-requires g c =
    let shape = shape_of c.args.host.now in
    let m = c.args.self.now in
    let held = iommu-held shape (g.M.Named.names m.backend)
    (g.I.Named.names m.iommu) m.space c.requires in
    let table = subst (Holds shape) (g.met.I.Iommu.names_table m.iommu) held in
    let number = c.table.ensures
    ∙ (ap g.I.Iommu.number c.deref.ensures ∙ ap (λ m. g.I.Iommu.number m.iommu) c.self.view_is) in
    (subst (λ n. n < length c.args.host.now.tables) (sym number) table.0, tt)

pub returns-then-self : goal.returns-then-self
returns-then-self g c =
    let it = c.self.inside in
    let region = g.M.R.GuestMemoryRegion.region in
    let rs = g.M.GuestMemoryBackend.regions it.backend in
    let number = g.I.Iommu.number it.iommu.value in
    let tables = c.args.host.now.tables in
    let a = c.args.addr.0 in
    let n = c.args.count in
    let at : slice_get tables number ≡ Some c.table-table.result.now =
    ap (slice_get tables) (sym (c.table.ensures ∙ ap g.I.Iommu.number c.deref.ensures)) ∙ c.table-table.ensures in
    rw (← c.self.view_is) (of_found c.window_of_piece.result.0
    (λ w. alone w ≡ marking it.space.0 a (walk_of_pieces (map region rs) (c.in-Some.piece ∷ [])))
    (λ w. GivesAccess (behind (map region rs) number it.space.0 it.use_iommu) tables a n c.args.access (alone w))
    c.window_of_piece.ensures
    (λ w is. gives-on region rs number it.space.0 it.use_iommu c.if-self.true tables c.table-table.result.now at a n
    c.args.access (c.in-Some.piece ∷ []) c.in-Some.ensures (alone w) is))
