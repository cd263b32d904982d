use Rattle.std.proofs.Common.{rules}
use Rattle.vm_session.specs.MemorySteps.{Still}
use Rattle.vm_session.specs.Queues.{Works}
use Rattle.vm_session.specs.declared.call.Answer.{Answer}
use Rattle.vm_session.proofs.WorkLemmas.{QueueDoes, left_in_one, work_done}
use Rattle.vm_session.proofs.work.work_on.Goals as goal

pub returns-in-Ok : goal.returns-in-Ok
returns-in-Ok g c input out =
    let marks = g.B.Bitmap.marks in
    let step = c.with_memory.new.step in
    let host = c.args.machine.now.host in
    work_done g.R.GuestMemoryRegion.region g.I.Iommu.number marks g.B.ExactBitmap.pages
    g.met.B.ExactBitmap.marks_pages (QueueDoes marks) c.args.kind c.args.call.now input c.args.machine.now
    c.with_memory.new.self _ step c.args.queue.now c.args.queue.now out out _ c.in-Ok.field-0 c.in-Ok.ensures (λ m d.
    left_in_one step.answer.now d.0
    (λ (a : Answer). Works marks m (Still marks m) c.args.kind c.args.call.now input c.args.queue.now host out a c.args.queue.now
    c.with_memory.new.self.host out) (search rules) (d.1 input out))
