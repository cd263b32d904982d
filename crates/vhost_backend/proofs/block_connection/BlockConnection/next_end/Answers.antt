use Rattle.std.proofs.Common.{drop}
use Rattle.vhost_backend.proofs.MoveLemmas.{end_or}
use Rattle.vhost_backend.proofs.block_connection.BlockConnection.next_end.Goals as goal

pub returns-then-take_end-clause-event : goal.returns-then-take_end-clause-event
returns-then-take_end-clause-event c = end_or c.args.self.now c.take_end.new.self (drop c.args.taken.now c.args.ends.now)
    (drop c.take_end.new.taken c.args.ends.now) c.args.turns.now c.requires.lost c.if-take_end.ensures.ends
