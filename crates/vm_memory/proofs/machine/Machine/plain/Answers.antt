use Rattle.std.proofs.Common.{List, subst, sym}
use Rattle.vm_memory_device.specs.declared.machine_memory.MachineMemory.TheVariants.{Plain}
use Rattle.vm_memory.proofs.MemoryLemmas.{Added, plain-step}
use Rattle.vm_memory.proofs.machine.Machine.plain.Goals as goal

pub returns : goal.returns
returns g c =
    let region = g.R.GuestMemoryRegion.region in
    let number = g.I.Iommu.number in
    let pages = g.B.ExactBitmap.pages in
    let m = c.args.self.now in
    plain-step region number pages m c.args.layout c.in-Some.layout.now (sym c.in-Some.ensures.found)
    c.add_memory.result c.add_memory.new.self
    (subst (λ (ys : List g.row.R.Denot). Added region number pages m
    (Plain ys) c.add_memory.result c.add_memory.new.self)
    c.in-Ok.ensures.cases c.add_memory.ensures)
