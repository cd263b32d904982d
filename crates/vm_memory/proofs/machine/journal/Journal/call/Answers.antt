use Rattle.std.proofs.Common.{◌∙◌, sym}
use Rattle.vm_memory.specs.Parts.{state_of}
use Rattle.vm_memory.proofs.JournalLemmas.{served_reply, served_entry}
use Rattle.vm_memory.proofs.machine.journal.Journal.call.Goals as goal

pub returns-in-Ok-Some-clause-served : goal.returns-in-Ok-Some-clause-served
returns-in-Ok-Some-clause-served g c =
    let state = state_of g.R.GuestMemoryRegion.region g.I.Iommu.number g.B.ExactBitmap.pages in
    served_reply state c.args.self.now c.serve.new.self c.in-Ok.number c.args.command c.in-Ok-Some.reply
    c.in-Ok.ensures.served (sym c.in-Ok-Some.field-0-is ∙ c.in-Ok-Some.ensures.copied)

pub returns-in-Ok-Some-clause-entry : goal.returns-in-Ok-Some-clause-entry
returns-in-Ok-Some-clause-entry g c =
    let state = state_of g.R.GuestMemoryRegion.region g.I.Iommu.number g.B.ExactBitmap.pages in
    served_entry state c.args.self.now c.serve.new.self c.in-Ok.number c.args.command c.in-Ok-Some.reply
    c.in-Ok.ensures.served (rw c.in-Ok-Some.field-0-is at c.in-Ok-Some.ensures.entry)
