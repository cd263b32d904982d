use Rattle.vhost_backend.proofs.block_queue.BlockQueue.change.Goals as goal

pub returns-clause-changes : goal.returns-clause-changes
returns-clause-changes g c = rw (← c.self.view_is) c.change.ensures.changes
