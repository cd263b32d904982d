use Rattle.std.proofs.Common.{refl}
use Rattle.vm_memory.specs.Parts.{state_of}
use Rattle.vm_memory.proofs.machine.journal.Journal.new.Goals as goal

pub invariant_of-result : goal.invariant_of-result
invariant_of-result g c =
    let state = state_of g.R.GuestMemoryRegion.region g.I.Iommu.number g.B.ExactBitmap.pages in
    rw (c.new-commands.ensures.items, c.new-replies.ensures.items) (state c.args.machine, refl)
