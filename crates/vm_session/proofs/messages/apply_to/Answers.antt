use Rattle.std.proofs.Common.{ap, ◌∙◌}
use Rattle.vm_memory.specs.Reply.{reply_of_refusal}
use Rattle.vm_memory.specs.declared.machine.refusal.Refusal.{Refusal}
use Rattle.vm_session.specs.Answers.{answer_of}
use Rattle.vm_session.proofs.MessageLemmas.{message_done, message_refused}
use Rattle.vm_session.proofs.messages.apply_to.Goals as goal

pub returns-in-Ok : goal.returns-in-Ok
returns-in-Ok g c =
    message_done g.R.GuestMemoryRegion.region g.I.Iommu.number g.B.ExactBitmap.pages c.args.machine.now
    c.with_memory.new.self _ c.with_memory.new.step c.args.memory c.in-Ok.field-0 c.in-Ok.ensures

pub returns : goal.returns
returns g c =
    message_refused g.R.GuestMemoryRegion.region g.I.Iommu.number g.B.ExactBitmap.pages c.args.machine.now
    c.with_memory.new.self _ c.with_memory.new.step c.args.memory c.in-Err.refusal c.in-Err.ensures c.refused.result
    (λ e. c.refused.ensures ∙ ap (λ (r : Refusal). answer_of (reply_of_refusal r)) e)
