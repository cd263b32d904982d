use Rattle.std.proofs.Common.{arith}
use Rattle.vm_memory.specs.Parts.{state_of}
use Rattle.vm_memory.proofs.JournalLemmas.{run_replies_each}
use Rattle.vm_memory.proofs.machine.journal.Journal.len.Goals as goal

pub returns-clause-replies : goal.returns-clause-replies
returns-clause-replies g c =
    let state = state_of g.R.GuestMemoryRegion.region g.I.Iommu.number g.B.ExactBitmap.pages in
    let j = c.self.inside in
    let led = c.self.invariant in
    let each = run_replies_each led.0 (state j.machine) j.commands.items j.replies.items led.1 in
    rw (← c.self.view_is) (omega (arith, c.len.ensures, j.commands.ok.0, each))
