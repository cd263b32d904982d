use Rattle.std.proofs.Common.{◌≡◌, ◌∙◌, ap, refl, Ok, Err, length, subst, arith}
use Rattle.vhost_backend.specs.BlockQueue.{BlockQueueState}
use Rattle.vhost_backend.specs.Reach.{ReachState}
use Rattle.vhost_backend.specs.Behind.{FetchesChain, fetching, is_refused}
use Rattle.vhost_backend.proofs.block_queue.BlockQueue.fetch_chain.Goals as goal

pub returns-in-Ok-clause-fetches : goal.returns-in-Ok-clause-fetches
returns-in-Ok-clause-fetches g c =
    let fields = c.self.inside in
    let with : ReachState → BlockQueueState = λ r.
    record { queue = fields.queue; is_unread = fields.is_unread; asked = fields.asked.items; reach = r; flight = fields.flight } in
    let count : c.len.result ≡ length fields.asked.items = omega (arith, c.len.ensures, fields.asked.ok.0) in
    let bad : c.is_refused-bad.result ≡ is_refused c.args.terms (length fields.asked.items) c.args.found.chain =
    rw (count, c.segments.ensures) at c.is_refused-bad.ensures in
    subst (λ (q : BlockQueueState). FetchesChain (g.D.RingMemory.steps c.args.mem.now) c.args.terms q c.args.found
    c.args.host.now c.begin_fetch.result c.begin_fetch.new.self c.forget_rows.new.host) c.self.view_is (
      Ok tt,
      c.in-Ok.ensures.forgets,
      (
        c.chain_fetch-fetch.result,
        rw bad at c.chain_fetch-fetch.ensures,
        c.begin_fetch.ensures ∙ ap (λ r. fetching (with r) c.chain_fetch-fetch.result) c.in-Ok.ensures.after,
      ),
    )

pub returns-in-Err-clause-fetches : goal.returns-in-Err-clause-fetches
returns-in-Err-clause-fetches g c =
    let fields = c.self.inside in
    let with : ReachState → BlockQueueState = λ r.
    record { queue = fields.queue; is_unread = fields.is_unread; asked = fields.asked.items; reach = r; flight = fields.flight } in
    rw (← c.self.view_is) (
      Err c.in-Err.field-0,
      c.in-Err.ensures.forgets,
      (refl, ap with c.in-Err.ensures.after),
    )
