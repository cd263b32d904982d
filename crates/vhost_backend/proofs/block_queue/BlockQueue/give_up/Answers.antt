use Rattle.vhost_backend.proofs.block_queue.BlockQueue.give_up.Goals as goal

pub returns-in-Status-clause-gives : goal.returns-in-Status-clause-gives
returns-in-Status-clause-gives g c = rw (← c.into_parts-goal.ensures.goal) (rw c.in-Status.is
    (rw (c.origin_of-from.ensures, c.new.ensures.items) at c.take_fetched.ensures.takes))
