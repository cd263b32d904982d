use Rattle.std.proofs.Common.{ap}
use Rattle.vhost_backend.specs.BlockQueue.{BlockQueueState}
use Rattle.vhost_backend.specs.Reach.{ReachState}
use Rattle.vhost_backend.proofs.block_queue.BlockQueue.keep_areas.Goals as goal

pub returns-clause-keeps : goal.returns-clause-keeps
returns-clause-keeps g c =
    let fields = c.self.inside in
    let with : ReachState → BlockQueueState = λ r.
    record { queue = fields.queue; is_unread = fields.is_unread; asked = fields.asked.items; reach = r; flight = fields.flight } in
    rw (← c.self.view_is) (
      c.keep_areas.result,
      c.keep_areas.ensures.keeps,
      c.gone_on.ensures,
      ap with c.keep_areas.ensures.after,
    )
