use Rattle.vm_memory.specs.declared.machine.command.Reply.TheVariants as reply
use Rattle.vm_session.proofs.ListLemmas.{is_short, pieces_length}
use Rattle.vm_session.proofs.lists.list_pieces.Goals as goal

pub returns-then-output-needed : goal.returns-then-output-needed
returns-then-output-needed c =
    let pieces = c.args.pieces.now in
    is_short (reply.Pieces pieces) c.args.output.now _ c.short.result
    (pieces_length pieces) c.if-output-needed.true c.short.ensures
