use Rattle.std.proofs.Common.{◌∙◌, sym, ap}
use Rattle.std.specs.Prelude.{slice_get}
use Rattle.vm_memory.specs.Journal.{Served}
use Rattle.vm_memory.specs.Parts.{state_of}
use Rattle.vm_memory.proofs.JournalLemmas.{entry_of_run}
use Rattle.vm_memory.proofs.machine.journal.Journal.copied_reply.Goals as goal

pub returns-in_ok-copy_of-in-Some-clause-entry : goal.returns-in_ok-copy_of-in-Some-clause-entry
returns-in_ok-copy_of-in-Some-clause-entry g c =
    let state = state_of g.R.GuestMemoryRegion.region g.I.Iommu.number g.B.ExactBitmap.pages in
    let j = c.self.inside in
    let led = c.self.invariant in
    rw (c.in_ok-copy_of-in-Some.ensures, ← c.self.view_is)
    (entry_of_run led.0 (state j.machine) j.commands.items j.replies.items c.args.number c.in-Some.reply.now led.1
    (ap (λ (s : Served g.row.R.Denot g.row.I.Denot g.row.B.Denot). slice_get s.replies c.args.number) c.self.view_is
    ∙ sym c.in-Some.ensures))
