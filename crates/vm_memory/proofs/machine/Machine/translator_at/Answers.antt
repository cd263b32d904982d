use Rattle.std.proofs.Common.{IfSome, subst}
use Rattle.vm_memory_guest.specs.Host.{IsHeld, Tlb, shape_of}
use Rattle.vm_memory.specs.Parts.{Parts}
use Rattle.vm_memory.proofs.ListLemmas.{All-item}
use Rattle.vm_memory.proofs.machine.Machine.translator_at.Goals as goal

pub returns-clause-held : goal.returns-clause-held
returns-clause-held g c =
    let number = g.I.Iommu.number in
    subst (λ (p : Parts g.row.R.Denot g.row.I.Denot g.row.B.Denot).
    IfSome c.get.result (λ i. IsHeld (shape_of p.host) (Tlb (number i.now.value)))) c.self.view_is
    (All-item (λ (i : g.row.I.Denot). IsHeld (shape_of c.self.inside.host)
    (Tlb (number i))) c.self.inside.translators.items
    c.deref.result.now c.args.number c.get.result c.deref.ensures.value c.get.ensures.lookup c.self.invariant.tables)
