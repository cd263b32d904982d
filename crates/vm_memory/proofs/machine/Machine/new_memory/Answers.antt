use Rattle.std.proofs.Common.{◌≡◌, List, refl, inr, subst, sym}
use Rattle.vm_memory_guest.specs.Host.{shape_of}
use Rattle.vm_memory_guest.proofs.HoldsLemmas.{Holds-append}
use Rattle.vm_memory_device.specs.Iommu.{Behind}
use Rattle.vm_memory.specs.Commands.{MayWant}
use Rattle.vm_memory.specs.Parts.{HoldsMemory, state_of}
use Rattle.vm_memory.specs.declared.machine.command.Command.TheVariants as command
use Rattle.vm_memory_device.specs.declared.machine_memory.MachineMemory.TheVariants.{Translated}
use Rattle.vm_memory.proofs.MemoryLemmas.{Added, made-step, made-wants}
use Rattle.vm_memory.proofs.machine.Machine.new_memory.Given.{Over}
use Rattle.vm_memory.proofs.machine.Machine.new_memory.Goals as goal
use Rattle.vm_memory.proofs.machine.Machine.new_memory.Goals.{After-clone, After-new-memory}

wants : (g : Over) (c : After-clone g)
    → MayWant (state_of g.R.GuestMemoryRegion.region g.I.Iommu.number g.B.ExactBitmap.pages c.args.self.now)
    (command.NewMemory c.args.layout c.args.translator c.args.space c.args.on)
wants g c =
    made-wants g.R.GuestMemoryRegion.region g.I.Iommu.number g.B.ExactBitmap.pages c.args.self.now c.args.layout
    c.in-Some-Some.layout.now (sym c.in-Some-Some.ensures.found) c.args.translator c.args.space c.args.on
    c.in-Some-Some.translator.now.value (sym c.in-Some-Some.ensures'.found)
    (c.has_space.ensures.0 c.if-not-has_space.false)

is_made : (g : Over) (c : After-new-memory g) → c.new-memory.result ≡ record {
  backend = c.in-Some-Some.layout.now;
  iommu = c.in-Some-Some.translator.now.value;
  on = c.args.on;
  space = c.args.space;
}
is_made g c = rw (c.in-Ok.ensures.cases, c.in-Ok-clone.ensures.cases) at c.new-memory.ensures

pub returns-in_default-clone : goal.returns-in_default-clone
returns-in_default-clone g c = inr (refl, wants g (goal.at.returns-in_default-clone g c).After-clone, refl)

pub returns-in_default-clone-2 : goal.returns-in_default-clone-2
returns-in_default-clone-2 g c = inr (refl, wants g (goal.at.returns-in_default-clone-2 g c).After-clone, refl)

pub add_memory-requires : goal.add_memory-requires
add_memory-requires g c =
    let m = c.args.self.now in
    let below = c.has_space.ensures.0 c.if-not-has_space.false in
    let names = Holds-append (shape_of m.host) _ _ c.in-Some-Some.ensures.held
    (c.in-Some-Some.ensures'.held, (below, tt)) in
    subst (λ (x : Behind (List g.row.R.Denot) g.row.I.Denot).
    HoldsMemory g.R.GuestMemoryRegion.region g.I.Iommu.number m.host (Translated x))
    (sym (is_made g (goal.at.add_memory-requires g c).After-new-memory)) names

pub returns : goal.returns
returns g c =
    let region = g.R.GuestMemoryRegion.region in
    let number = g.I.Iommu.number in
    let pages = g.B.ExactBitmap.pages in
    let m = c.args.self.now in
    let share = c.in-Some-Some.translator.now in
    made-step region number pages m c.args.layout c.in-Some-Some.layout.now
    (sym c.in-Some-Some.ensures.found) c.args.translator c.args.space
    c.args.on share.value (sym c.in-Some-Some.ensures'.found) (c.has_space.ensures.0 c.if-not-has_space.false)
    c.add_memory.result c.add_memory.new.self
    (subst (λ (x : Behind (List g.row.R.Denot) g.row.I.Denot). Added region number pages m (Translated x)
    c.add_memory.result c.add_memory.new.self) (is_made g (goal.at.returns g c).After-new-memory) c.add_memory.ensures)
