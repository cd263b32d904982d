use Rattle.std.proofs.Common.{drop, refl}
use Rattle.vhost_backend.specs.Run.{loses}
use Rattle.vhost_backend.proofs.MoveLemmas.{lost_or}
use Rattle.vhost_backend.proofs.block_connection.BlockConnection.next_event.Goals as goal

pub returns-then-take_lost-clause-event : goal.returns-then-take_lost-clause-event
returns-then-take_lost-clause-event c = (
  loses,
  lost_or c.args.self.now c.take_lost.new.self
      (drop c.args.taken.now c.args.ends.now) c.args.turns.now c.args.self.now.lost refl c.if-take_lost.ensures,
)
