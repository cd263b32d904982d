use Rattle.vhost_backend.proofs.block_queue.BlockQueue.use_fetch.Goals as goal

pub returns-in-Ring-clause-uses : goal.returns-in-Ring-clause-uses
returns-in-Ring-clause-uses g c = let e = c.into_parts-goal.ensures in
    rw (← e.goal) (rw c.in-Ring.is (rw e.kept at c.keep_areas.ensures.keeps))

pub returns-in-Rows-clause-uses : goal.returns-in-Rows-clause-uses
returns-in-Rows-clause-uses g c = let e = c.into_parts-goal.ensures in
    rw (← e.goal) (rw c.in-Rows.is (rw e.kept at c.keep_rows.ensures.keeps))

pub returns-in-Chain-clause-uses : goal.returns-in-Chain-clause-uses
returns-in-Chain-clause-uses g c = let e = c.into_parts-goal.ensures in
    rw (← e.goal) (rw c.in-Chain.is (rw (c.origin_of.ensures, e.kept) at c.take_fetched.ensures.takes))

pub returns-in-Status-clause-uses : goal.returns-in-Status-clause-uses
returns-in-Status-clause-uses g c = let e = c.into_parts-goal.ensures in
    rw (← e.goal) (rw c.in-Status.is
    (rw (c.origin_of-from.ensures, c.has_gap.ensures, e.kept) at c.take_fetched-in-Status.ensures.takes))
