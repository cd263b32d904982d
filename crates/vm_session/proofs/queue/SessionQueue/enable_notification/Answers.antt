use Rattle.vm_session.proofs.queue.SessionQueue.enable_notification.Goals as goal

pub returns-clause-asks : goal.returns-clause-asks
returns-clause-asks g c =
    rw (← c.self.view_is) (c.enable_notification.result, c.enable_notification.ensures.step, c.asked.ensures)
