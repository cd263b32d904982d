use Rattle.std.proofs.Common.{refl, rules}
use Rattle.vm_session.specs.MemorySteps.{Still}
use Rattle.vm_session.specs.Queues.{CompletesIf}
use Rattle.vm_session.specs.SessionState.{DeviceQueue}
use Rattle.vm_session.specs.declared.call.Answer.{Answer}
use Rattle.vm_session.specs.declared.call.Kind.TheVariants as kind
use Rattle.vm_session.proofs.WorkLemmas.{CompleteDoes, left_in_two, work_done}
use Rattle.vm_session.proofs.requests.complete_chain.Goals as goal

pub returns-in-Ok : goal.returns-in-Ok
returns-in-Ok g c out =
    let marks = g.B.Bitmap.marks in
    let step = c.with_memory.new.step in
    let host = c.args.machine.now.host in
    work_done g.R.GuestMemoryRegion.region g.I.Iommu.number marks g.B.ExactBitmap.pages
    g.met.B.ExactBitmap.marks_pages (CompleteDoes marks) kind.CompleteChain c.args.call.now c.args.input.now c.args.machine.now
    c.with_memory.new.self _ step c.args.queue.now _ out out _ c.in-Ok.field-0 c.in-Ok.ensures (λ m d. (
      left_in_two step.queue.now d.0 step.answer.now d.1
          (λ (q : DeviceQueue) (a : Answer).
          CompletesIf marks m (Still marks m) c.args.call.now c.args.input.now c.args.queue.now host a q c.with_memory.new.self.host) (search rules)
          (search rules) d.2,
      refl,
    ))
