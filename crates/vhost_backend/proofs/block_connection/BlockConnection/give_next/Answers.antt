use Rattle.vhost_backend.specs.Run.{output_of}
use Rattle.vhost_backend.proofs.GivenLemmas.{puts_none}
use Rattle.vhost_backend.proofs.MoveLemmas.{marks_move}
use Rattle.vhost_backend.proofs.block_connection.BlockConnection.give_next.Goals as goal

pub returns-in-Some-clause-gives : goal.returns-in-Some-clause-gives
returns-in-Some-clause-gives c = marks_move c.args.self.now c.take_marks.new.self c.in-Some.range
    (output_of c.args.counts.now c.args.actions.now c.args.pieces.now c.args.output.now)
    (output_of (record c.args.counts.now { actions = c.put_action.new.count }) c.put_action.new.actions
    c.args.pieces.now c.args.output.now) c.mark_row.result c.in-Some.ensures
    c.mark_row.ensures c.put_action.ensures (puts_none c.args.pieces.now c.args.counts.now.pieces)
    (puts_none c.args.output.now c.args.counts.now.bytes)
