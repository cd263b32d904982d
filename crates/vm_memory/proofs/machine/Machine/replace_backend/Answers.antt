use Rattle.std.proofs.Common.{◌≡◌, ◌∷◌, [], List, map, flat_map, Some, refl, inr, ap, ◌∙◌, subst, sym}
use Rattle.vm_memory_guest.specs.Host.{Space, Tlb, shape_of}
use Rattle.vm_memory_guest.specs.Region.{region_names}
use Rattle.vm_memory_guest.proofs.HoldsLemmas.{Holds-append, Holds-right}
use Rattle.vm_memory_device.specs.Iommu.{Behind}
use Rattle.vm_memory.specs.Parts.{HoldsMemory}
use Rattle.vm_memory_device.specs.declared.machine_memory.MachineMemory.{MachineMemory}
use Rattle.vm_memory_device.specs.declared.machine_memory.MachineMemory.TheVariants.{Translated}
use Rattle.vm_memory.proofs.MemoryLemmas.{Added, replaced-step, replaced-wants}
use Rattle.vm_memory.proofs.machine.Machine.replace_backend.Goals as goal

pub add_memory-requires : goal.add_memory-requires
add_memory-requires g c =
    let region = g.R.GuestMemoryRegion.region in
    let number = g.I.Iommu.number in
    let m = c.args.self.now in
    let rs = c.in-Some-Some.layout.now in
    let x = c.in-Some.memory.now in
    let is : c.in-Ok-with_replaced_backend.memory ≡ (record x { backend = rs }) =
    rw c.in-Ok.ensures.cases at c.in-Ok-with_replaced_backend.ensures in
    let shape = shape_of m.host in
    let old = subst (HoldsMemory region number m.host) c.in-Some.ensures c.in-Some-Some.ensures.held in
    let others = Tlb (number x.iommu) ∷ Space x.space ∷ [] in
    let kept = Holds-right shape (flat_map region_names (map region x.backend)) others old in
    let names = Holds-append shape (flat_map region_names (map region rs)) others c.in-Some-Some.ensures'.held kept in
    subst (λ (y : Behind (List g.row.R.Denot) g.row.I.Denot). HoldsMemory region number m.host (Translated y))
    (sym is) names

pub returns-in-Ok-with_replaced_backend : goal.returns-in-Ok-with_replaced_backend
returns-in-Ok-with_replaced_backend g c =
    let region = g.R.GuestMemoryRegion.region in
    let number = g.I.Iommu.number in
    let pages = g.B.ExactBitmap.pages in
    let m = c.args.self.now in
    let is : c.in-Ok-with_replaced_backend.memory
    ≡ (record c.in-Some.memory.now { backend = c.in-Some-Some.layout.now }) =
    rw c.in-Ok.ensures.cases at c.in-Ok-with_replaced_backend.ensures in
    replaced-step region number pages m c.args.layout c.in-Some-Some.layout.now (sym c.in-Some-Some.ensures'.found)
    c.args.memory c.in-Some.memory.now
    (sym c.in-Some-Some.ensures.found
    ∙ ap (λ (y : MachineMemory g.row.R.Denot g.row.I.Denot). Some y) c.in-Some.ensures)
    c.add_memory.result c.add_memory.new.self
    (subst (λ (y : Behind (List g.row.R.Denot) g.row.I.Denot). Added region number pages m (Translated y)
    c.add_memory.result c.add_memory.new.self) is c.add_memory.ensures)

pub returns-in-Err : goal.returns-in-Err
returns-in-Err g c = inr (
  refl,
  replaced-wants g.R.GuestMemoryRegion.region g.I.Iommu.number g.B.ExactBitmap.pages c.args.self.now c.args.layout
      c.in-Some-Some.layout.now (sym c.in-Some-Some.ensures'.found) c.args.memory c.in-Some.memory.now
      (sym c.in-Some-Some.ensures.found
      ∙ ap (λ (y : MachineMemory g.row.R.Denot g.row.I.Denot). Some y) c.in-Some.ensures),
  refl,
)
