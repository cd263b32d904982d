use Rattle.std.proofs.Common.{◌≡◌, ◌∙◌, None, ap, sym, subst}
use Rattle.vm_memory_base.specs.Table.{says}
use Rattle.vhost_backend.specs.Behind.{HappensBehind}
use Rattle.vhost_backend.specs.BlockQueue.{BlockQueueState}
use Rattle.vhost_backend.specs.Reach.{ReachState}
use Rattle.vhost_backend.proofs.StageLemmas.{nothing_fetched}
use Rattle.vhost_backend.proofs.block_queue.BlockQueue.next_behind.Goals as goal

pub returns-in-None-clause-next : goal.returns-in-None-clause-next
returns-in-None-clause-next g c =
    let fields = c.self.inside in
    let with : ReachState → BlockQueueState = λ r.
    record { queue = fields.queue; is_unread = fields.is_unread; asked = fields.asked.items; reach = r; flight = fields.flight } in
    let none : fields.reach.fetch ≡ None = sym c.take_fetch.ensures.taken ∙ c.in-None.is in
    subst (λ (q : BlockQueueState). HappensBehind (g.D.RingMemory.steps c.args.mem.now) (says c.args.way.table.now)
    c.args.way.can_ask c.args.terms q c.args.host.now c.fetch_next.result c.fetch_next.new.self c.fetch_next.new.host)
    c.self.view_is (nothing_fetched (g.D.RingMemory.steps c.args.mem.now) (says c.args.way.table.now)
    c.args.way.can_ask c.args.terms (with fields.reach) c.fetch_next.new.self (with c.take_fetch.new.self)
    c.args.host.now c.fetch_next.result c.fetch_next.new.host none (ap with c.take_fetch.ensures.none)
    c.fetch_next.ensures.next)
