use Rattle.std.proofs.Common.{◌∙◌, ap, length, take}
use Rattle.vm_memory.specs.Parts.{state_of}
use Rattle.vm_memory.specs.declared.machine.command.Command.TheVariants as command
use Rattle.vm_memory.specs.declared.machine.command.Reply.TheVariants as reply
use Rattle.vm_memory.proofs.CallsLemmas.{refused_read_is_step}
use Rattle.vm_memory.proofs.machine.Machine.bytes_read.Goals as goal

pub returns-in-Err : goal.returns-in-Err
returns-in-Err g c =
    let now = state_of g.R.GuestMemoryRegion.region g.I.Iommu.number g.B.ExactBitmap.pages c.args.self.now in
    refused_read_is_step now c.args.memory c.args.addr.0 c.args.count
    (λ k. command.Read c.args.memory c.args.addr k) (λ k. reply.Bytes (take k c.read.new.buf)) c.as_mut_slice.result.now c.read.new.buf c.in-Err.refusal c.refused.result (λ may. may)
    (ap length c.as_mut_slice.ensures.value ∙ c.in-Ok.ensures.bytes) c.in-Err.ensures.answer c.refused.ensures
