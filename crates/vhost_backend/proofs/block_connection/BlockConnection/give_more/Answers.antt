use Rattle.vhost_backend.specs.Run.{MayStep, output_of}
use Rattle.vhost_backend.proofs.GivenLemmas.{puts_none}
use Rattle.vhost_backend.proofs.MoveLemmas.{none_returning, part_move}
use Rattle.vhost_backend.proofs.block_connection.BlockConnection.give_more.Goals as goal
use Rattle.vhost_backend.proofs.block_connection.BlockConnection.give_more.Goals.{else-self-via-then-self+else-is_returning, else-self-via-else-self}

pub returns-in-Some-clause-gives : goal.returns-in-Some-clause-gives
returns-in-Some-clause-gives c =
    let may : MayStep c.args.self.now = (
      c.requires.marked,
      λ given. elim c.else-self.branch [
        | else-self-via-then-self+else-is_returning w ↦ none_returning _ w.if-is_returning.ensures
        | else-self-via-else-self w ↦ let isnt = w.if-self.false in absurd (cc)
      ],
    ) in
    part_move c.args.self.now c.give_part.new.self c.in-Some.part
    (output_of c.args.counts.now c.args.actions.now c.args.pieces.now c.args.output.now)
    (output_of (record c.args.counts.now { actions = c.put_action.new.count; pieces = c.give_part.new.count })
    c.put_action.new.actions c.give_part.new.pieces c.args.output.now) c.in-Some-give_part.row may
    c.in-Some.is c.in-Some-give_part.ensures c.put_action.ensures (puts_none c.args.output.now c.args.counts.now.bytes)
