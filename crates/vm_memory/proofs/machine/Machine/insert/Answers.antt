use Rattle.std.proofs.Common.{◌≡◌, List, map, subst, sym}
use Rattle.vm_memory_guest.specs.Host.{Holds, shape_of}
use Rattle.vm_memory_guest.specs.Layout.{inserted, IsFault}
use Rattle.vm_memory_guest.specs.Region.{Region, region_names, layout_error}
use Rattle.vm_memory_guest.proofs.HoldsLemmas.{Holds-each}
use Rattle.vm_memory.specs.Machine.{Step}
use Rattle.vm_memory.specs.Parts.{HoldsRegions, state_of}
use Rattle.vm_memory.specs.declared.machine.command.Command.TheVariants as command
use Rattle.vm_memory.specs.Reply.{reply_of_refusal}
use Rattle.vm_memory.specs.declared.machine.refusal.Refusal.{Refusal}
use Rattle.vm_memory.proofs.LayoutLemmas.{All-inserted_values, insert-step, insert-refused}
use Rattle.vm_memory.proofs.machine.Machine.insert.Goals as goal

pub add_layout-requires : goal.add_layout-requires
add_layout-requires g c =
    let m = c.args.self.now in
    let region = g.R.GuestMemoryRegion.region in
    let shape = shape_of m.host in
    let P : Region → Type 0 = λ r. Holds shape (region_names r) in
    let rs = c.in-Some-Some.layout.now in
    let share = c.in-Some-Some.region.now in
    let more = All-inserted_values region P rs share.value
    ((Holds-each shape (map region rs)).0 c.in-Some-Some.ensures.held) c.in-Some-Some.ensures'.held in
    let is : c.in-Ok-insert_region.layout ≡ inserted region rs share.value =
    rw c.in-Ok.ensures.cases at c.in-Ok-insert_region.ensures.1 in
    subst (λ (ys : List g.row.R.Denot). HoldsRegions region m.host ys) (sym is)
    ((Holds-each shape (map region (inserted region rs share.value))).1 more)

pub returns-in-Ok-insert_region : goal.returns-in-Ok-insert_region
returns-in-Ok-insert_region g c =
    let region = g.R.GuestMemoryRegion.region in
    let rs = c.in-Some-Some.layout.now in
    let same = c.in-Ok.ensures.cases in
    let told = rw same at c.in-Ok-insert_region.ensures in
    insert-step region g.I.Iommu.number g.B.ExactBitmap.pages c.args.self.now c.args.layout c.args.region rs
    c.in-Some-Some.region.now.value (sym c.in-Some-Some.ensures.found) (sym c.in-Some-Some.ensures'.found)
    c.in-Ok-insert_region.layout c.add_layout.result c.add_layout.new.self
    told.1 told.0 c.add_layout.ensures

pub returns-in-Err : goal.returns-in-Err
returns-in-Err g c =
    let region = g.R.GuestMemoryRegion.region in
    let m = c.args.self.now in
    let rs = c.in-Some-Some.layout.now in
    let before = state_of region g.I.Iommu.number g.B.ExactBitmap.pages m in
    let fault = subst (λ (r : g.row.R.Denot). IsFault (layout_error (map region (inserted region rs r))) c.in-Err.error)
    c.in-Ok.ensures.cases c.in-Err.ensures in
    subst (λ (r : Refusal). Step before (command.Insert c.args.layout c.args.region) (reply_of_refusal r) before)
    (sym c.from.ensures)
    (insert-refused region g.I.Iommu.number g.B.ExactBitmap.pages m c.args.layout c.args.region rs
    c.in-Some-Some.region.now.value (sym c.in-Some-Some.ensures.found) (sym c.in-Some-Some.ensures'.found)
    c.in-Err.error fault)
