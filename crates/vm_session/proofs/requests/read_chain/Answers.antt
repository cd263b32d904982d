use Rattle.std.proofs.Common.{refl, rules, List, ℕ}
use Rattle.vm_session.specs.Queues.{ReadsInto}
use Rattle.vm_session.specs.declared.call.Answer.{Answer}
use Rattle.vm_session.specs.declared.call.Kind.TheVariants as kind
use Rattle.vm_session.proofs.WorkLemmas.{ReadDoes, left_in_two, work_done}
use Rattle.vm_session.proofs.requests.read_chain.Goals as goal

pub returns-in-Ok : goal.returns-in-Ok
returns-in-Ok g c input =
    let marks = g.B.Bitmap.marks in
    let step = c.with_memory.new.step in
    let host = c.args.machine.now.host in
    work_done g.R.GuestMemoryRegion.region g.I.Iommu.number marks g.B.ExactBitmap.pages
    g.met.B.ExactBitmap.marks_pages (ReadDoes marks) kind.ReadChain c.args.call.now input c.args.machine.now
    c.with_memory.new.self _ step c.args.queue.now c.args.queue.now c.args.output.now _ _ c.in-Ok.field-0 c.in-Ok.ensures (λ m d. (
      left_in_two step.output.now d.0 step.answer.now d.1
          (λ (out : List ℕ) (a : Answer).
          ReadsInto m c.args.call.now c.args.queue.now host c.args.output.now a out) (search rules) (search rules)
          d.2,
      refl,
      d.3,
    ))
