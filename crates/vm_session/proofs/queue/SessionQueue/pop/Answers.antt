use Rattle.std.proofs.Common.{ap₂, Err}
use Rattle.virtio_queue.specs.declared.any.AnyQueue.{AnyQueue}
use Rattle.vm_session.specs.SessionState.{DeviceQueue}
use Rattle.vm_session.specs.declared.call.Answer.{Answer}
use Rattle.vm_session.proofs.queue.SessionQueue.pop.Goals as goal

pub returns-in-Err-clause-pops : goal.returns-in-Err-clause-pops
returns-in-Err-clause-pops g c =
    let fields = c.self.inside in
    let with_queue : AnyQueue → DeviceQueue =
    λ q. record { queue = q; most = fields.most; flight = fields.flight.items; slots = fields.slots.items } in
    rw (← c.self.view_is) (
      Err c.in-Err.error,
      c.in-Err.ensures.step,
      ap₂ (λ (a : Answer) (q : AnyQueue). (a, with_queue q)) c.queue_refused.ensures c.in-Err.ensures.moved,
    )
