use Rattle.std.proofs.Common.{Err, map, ap, subst, sym, ◌∙◌}
use Rattle.vm_memory_guest.specs.Host.{Holds, shape_of}
use Rattle.vm_memory_guest.specs.Region.{Region, region_names}
use Rattle.vm_memory_guest.specs.declared.region.error.GuestRegionCollectionError.{GuestRegionCollectionError}
use Rattle.vm_memory_guest.proofs.HoldsLemmas.{Holds-each}
use Rattle.vm_memory.specs.Machine.{Step}
use Rattle.vm_memory.specs.Parts.{state_of}
use Rattle.vm_memory.specs.declared.machine.command.Command.TheVariants as command
use Rattle.vm_memory.specs.Reply.{reply_of_refusal}
use Rattle.vm_memory.specs.declared.machine.refusal.Refusal.{Refusal}
use Rattle.vm_memory.proofs.LayoutLemmas.{All-removed_values, remove-step, remove-refused}
use Rattle.vm_memory.proofs.machine.Machine.remove.Goals as goal

pub add_layout-requires : goal.add_layout-requires
add_layout-requires g c =
    let m = c.args.self.now in
    let region = g.R.GuestMemoryRegion.region in
    let shape = shape_of m.host in
    let P : Region → Type 0 = λ r. Holds shape (region_names r) in
    let rs = c.in-Some.old.now in
    let rest = All-removed_values region P rs c.in-Ok.layout c.in-Ok.field-0-1.value c.args.base.0 c.args.size
    c.in-Ok.ensures.ok ((Holds-each shape (map region rs)).0 c.in-Some.ensures.held) in
    (Holds-each shape (map region c.in-Ok.layout)).1 rest

pub returns-in-Ok : goal.returns-in-Ok
returns-in-Ok g c =
    remove-step g.R.GuestMemoryRegion.region g.I.Iommu.number g.B.ExactBitmap.pages c.args.self.now c.args.layout
    c.args.base c.args.size c.in-Some.old.now (sym c.in-Some.ensures.found) c.in-Ok.layout c.in-Ok.field-0-1.value
    c.add_layout.result c.add_layout.new.self c.in-Ok.ensures.ok c.add_layout.ensures

pub returns : goal.returns
returns g c =
    let region = g.R.GuestMemoryRegion.region in
    let m = c.args.self.now in
    let before = state_of region g.I.Iommu.number g.B.ExactBitmap.pages m in
    let e = c.in-Err.error in
    let refused = remove-refused region g.I.Iommu.number g.B.ExactBitmap.pages m c.args.layout c.args.base c.args.size
    c.in-Some.old.now (sym c.in-Some.ensures.found) e
    (λ is. c.remove_region.ensures.none.0 (c.in-Err.is ∙ ap (λ (x : GuestRegionCollectionError). Err x) is))
    (λ none. let is = c.in-Err.ensures.none.1 none in cc)
    c.in-Err.ensures.errors in
    subst
    (λ (r : Refusal). Step before (command.Remove c.args.layout c.args.base c.args.size) (reply_of_refusal r) before)
    (sym c.from.ensures) refused
