use Rattle.std.proofs.Common.{refl, rules}
use Rattle.vm_session.specs.Queues.{WritesChain}
use Rattle.vm_session.specs.declared.call.Answer.{Answer}
use Rattle.vm_session.specs.declared.call.Kind.TheVariants as kind
use Rattle.vm_session.proofs.WorkLemmas.{WriteDoes, left_in_one, work_done}
use Rattle.vm_session.proofs.requests.write_chain.Goals as goal

pub returns-in-Ok : goal.returns-in-Ok
returns-in-Ok g c out =
    let marks = g.B.Bitmap.marks in
    let step = c.with_memory.new.step in
    let host = c.args.machine.now.host in
    work_done g.R.GuestMemoryRegion.region g.I.Iommu.number marks g.B.ExactBitmap.pages
    g.met.B.ExactBitmap.marks_pages (WriteDoes marks) kind.WriteChain c.args.call.now c.args.input.now c.args.machine.now
    c.with_memory.new.self _ step c.args.queue.now c.args.queue.now out out _ c.in-Ok.field-0 c.in-Ok.ensures (λ m d. (
      left_in_one step.answer.now d.0
          (λ (a : Answer). WritesChain marks m c.args.queue.now c.args.call.now.third c.args.call.now.address
          c.args.input.now host a c.with_memory.new.self.host) (search rules) d.1,
      refl,
      refl,
    ))
