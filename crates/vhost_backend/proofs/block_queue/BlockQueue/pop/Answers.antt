use Rattle.std.proofs.Common.{◌≡◌, ◌∙◌, Some, None, Ok, refl, ap}
use Rattle.virtio_queue.specs.Any.{at_next, past}
use Rattle.virtio_queue.specs.declared.any.AnyQueue.{AnyQueue}
use Rattle.vhost_backend.proofs.QueueLemmas.{popped_begins}
use Rattle.vhost_backend.specs.BlockQueue.{BlockQueueState}
use Rattle.vhost_backend.proofs.block_queue.BlockQueue.pop.Goals as goal

pub returns-in-Ok-Some-clause-pops : goal.returns-in-Ok-Some-clause-pops
returns-in-Ok-Some-clause-pops g c =
    let fields = c.self.inside in
    let q : BlockQueueState =
    record { queue = fields.queue; is_unread = fields.is_unread; asked = fields.asked.items; reach = fields.reach; flight = fields.flight } in
    let p = c.in-Ok-Some.popped in
    let moved : c.pop.new.queue ≡ past fields.queue p.0 = rw c.in-Ok-Some.field-0-is at c.in-Ok-Some.ensures.moved in
    let back : at_next c.pop.new.queue c.next_avail-next.result ≡ fields.queue =
    ap (λ u. at_next u c.next_avail-next.result) moved ∙ c.next_avail-next.ensures.back p.0 in
    rw (← c.self.view_is) (
      Ok (Some p),
      c.pop.new.host,
      rw c.in-Ok-Some.field-0-is at c.in-Ok-Some.ensures.step,
      popped_begins (g.D.RingMemory.steps c.args.mem.now) c.args.terms q (at_next c.pop.new.queue c.next_avail-next.result)
          c.pop.new.queue p.0 p.1 c.pop.new.host c.begin.result c.begin.new.self c.begin.new.host back moved
          c.begin.ensures.begins,
    )

pub returns-in-Ok-None-clause-pops : goal.returns-in-Ok-None-clause-pops
returns-in-Ok-None-clause-pops g c =
    let fields = c.self.inside in
    let with_queue : AnyQueue → BlockQueueState = λ u.
    record { queue = u; is_unread = fields.is_unread; asked = fields.asked.items; reach = fields.reach; flight = fields.flight } in
    let moved : c.pop.new.queue ≡ fields.queue = rw c.in-Ok-None.field-0-is at c.in-Ok-None.ensures.moved in
    rw (← c.self.view_is) (
      Ok None,
      c.pop.new.host,
      rw c.in-Ok-None.field-0-is at c.in-Ok-None.ensures.step,
      (refl, ap with_queue moved, refl),
    )
