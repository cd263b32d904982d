use Rattle.std.proofs.Common.{◌≡◌, ◌∙◌, ap, refl, Ok, Err, subst}
use Rattle.vhost_backend.specs.BlockQueue.{BlockQueueState}
use Rattle.vhost_backend.specs.Reach.{ReachState}
use Rattle.vhost_backend.specs.Behind.{ReachesRing, fetching}
use Rattle.vhost_backend.proofs.block_queue.BlockQueue.reach_ring.Goals as goal

pub returns-in-Ok-clause-reaches : goal.returns-in-Ok-clause-reaches
returns-in-Ok-clause-reaches g c =
    let fields = c.self.inside in
    let with : ReachState → BlockQueueState = λ r.
    record { queue = fields.queue; is_unread = fields.is_unread; asked = fields.asked.items; reach = r; flight = fields.flight } in
    let log : c.log.result ≡ fields.reach.log = c.log.ensures ∙ ap (λ r. r.log) c.in-Ok.ensures.after in
    subst (λ (q : BlockQueueState). ReachesRing (g.D.RingMemory.steps c.args.mem.now) q c.args.host.now
    c.begin_fetch.result c.begin_fetch.new.self c.forget.new.host) c.self.view_is (
      Ok tt,
      c.in-Ok.ensures.forgets,
      (
        c.of_ring-fetch.result,
        rw log at c.of_ring-fetch.ensures.begun,
        c.begin_fetch.ensures ∙ ap (λ r. fetching (with r) c.of_ring-fetch.result) c.in-Ok.ensures.after,
      ),
    )

pub returns-in-Err-clause-reaches : goal.returns-in-Err-clause-reaches
returns-in-Err-clause-reaches g c =
    let fields = c.self.inside in
    let with : ReachState → BlockQueueState = λ r.
    record { queue = fields.queue; is_unread = fields.is_unread; asked = fields.asked.items; reach = r; flight = fields.flight } in
    rw (← c.self.view_is) (
      Err c.in-Err.field-0,
      c.in-Err.ensures.forgets,
      (refl, ap with c.in-Err.ensures.after),
    )
