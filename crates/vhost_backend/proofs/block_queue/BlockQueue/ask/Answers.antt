use Rattle.vhost_backend.proofs.block_queue.BlockQueue.ask.Goals as goal

pub returns-clause-asks : goal.returns-clause-asks
returns-clause-asks g c = rw (← c.self.view_is) (
  c.enable_notification-more.new.host,
  c.enable_notification-more.ensures.step,
  rw c.log.ensures at c.mark_asking.ensures.marks,
)
