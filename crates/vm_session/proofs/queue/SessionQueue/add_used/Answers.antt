use Rattle.std.proofs.Common.{◌∙◌, None, Ok, Err, ap, slice_set, sym}
use Rattle.virtio_queue.specs.declared.any.AnyQueue.{AnyQueue}
use Rattle.vm_session.specs.SessionState.{DeviceQueue}
use Rattle.vm_session.proofs.QueueLemmas.{not_used, returned}
use Rattle.vm_session.proofs.queue.SessionQueue.add_used.Goals as goal

pub returns-in-Ok-clause-returned : goal.returns-in-Ok-clause-returned
returns-in-Ok-clause-returned g c =
    let fields = c.self.inside in
    let without : AnyQueue → DeviceQueue = λ q. record {
      queue = q;
      most = fields.most;
      flight = slice_set fields.flight.items c.args.head None;
      slots = fields.slots.items;
    } in
    let there = rw (← c.self.view_is) at (sym c.has.ensures ∙ c.if-not-has.false) in
    let buffer = rw (← c.self.view_is) at c.buffer-buffer.ensures in
    rw (← c.self.view_is) (
    returned (g.D.DeviceMemory.steps c.args.mem.now) _ c.args.head c.args.len c.args.host.now
    c.of_code.result c.take.new.self c.add_used.new.host (Ok c.in-Ok.field-0) there (rw buffer at c.in-Ok.ensures.step)
    c.of_code.ensures (c.take.ensures ∙ ap without (rw buffer at c.in-Ok.ensures.moved)))

pub returns-in-Err-clause-returned : goal.returns-in-Err-clause-returned
returns-in-Err-clause-returned g c =
    let fields = c.self.inside in
    let with_queue : AnyQueue → DeviceQueue =
    λ q. record { queue = q; most = fields.most; flight = fields.flight.items; slots = fields.slots.items } in
    let there = rw (← c.self.view_is) at (sym c.has.ensures ∙ c.if-not-has.false) in
    let buffer = rw (← c.self.view_is) at c.buffer-buffer.ensures in
    rw (← c.self.view_is) (
    returned (g.D.DeviceMemory.steps c.args.mem.now) _ c.args.head c.args.len c.args.host.now
    c.queue_refused.result _ c.add_used.new.host (Err c.in-Err.error) there (rw buffer at c.in-Err.ensures.step)
    c.queue_refused.ensures (ap with_queue (c.in-Err.ensures.moved ∙ not_used fields.queue c.buffer-buffer.result c.in-Err.error)))
