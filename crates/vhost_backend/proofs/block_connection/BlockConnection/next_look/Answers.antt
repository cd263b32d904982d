use Rattle.std.proofs.Common.{refl}
use Rattle.vhost_backend.specs.Run.{looks}
use Rattle.vhost_backend.proofs.MoveLemmas.{turn_or}
use Rattle.vhost_backend.proofs.block_connection.BlockConnection.next_look.Goals as goal

pub returns-then-look : goal.returns-then-look
returns-then-look c = (looks, (c.requires, refl, c.if-look.ensures, refl))

pub returns : goal.returns
returns c = turn_or c.args.self.now c.look.new.self c.take_turn.new.self c.args.turns.now c.take_turn.new.turns
    c.take_turn.result c.requires c.if-look.ensures c.take_turn.ensures
