use Rattle.std.proofs.Common.{◌≡◌, ap, refl, Ok, Err}
use Rattle.vhost_backend.specs.BlockQueue.{BlockQueueState}
use Rattle.vhost_backend.specs.Reach.{ReachState}
use Rattle.vhost_backend.specs.Reach.{rows_added}
use Rattle.vhost_backend.proofs.block_queue.BlockQueue.keep_rows.Goals as goal

pub returns-in-Ok-clause-keeps : goal.returns-in-Ok-clause-keeps
returns-in-Ok-clause-keeps g c =
    let fields = c.self.inside in
    let with : ReachState → BlockQueueState = λ r.
    record { queue = fields.queue; is_unread = fields.is_unread; asked = fields.asked.items; reach = r; flight = fields.flight } in
    let added : c.add_rows.new.self ≡ rows_added fields.reach c.args.kept.items (Ok tt) =
    rw c.as_slice.ensures.value at c.in-Ok.ensures in
    rw (← c.self.view_is) (
      Ok tt,
      ap with added,
      (c.keep_all.result, rw c.as_slice-in-Ok.ensures.value at c.keep_all.ensures.keeps, c.gone_on.ensures),
    )

pub returns-clause-keeps : goal.returns-clause-keeps
returns-clause-keeps g c =
    let fields = c.self.inside in
    let with : ReachState → BlockQueueState = λ r.
    record { queue = fields.queue; is_unread = fields.is_unread; asked = fields.asked.items; reach = r; flight = fields.flight } in
    rw (← c.self.view_is) (Err c.in-Err.field-0, ap with c.in-Err.ensures, (refl, refl))
