use Rattle.std.proofs.Common.{refl, sym, inl, inr}
use Rattle.vhost_backend.proofs.GivenLemmas.{none_given}
use Rattle.vhost_backend.proofs.MoveLemmas.{gives_part_row}
use Rattle.vhost_backend.proofs.block_connection.BlockConnection.give_part.Goals as goal
use Rattle.vhost_backend.proofs.block_connection.BlockConnection.give_part.Goals.{else-given-part-via-then-given-part+else-is_left, else-given-part-via-else-given-part}

pub returns-then-is_left : goal.returns-then-is_left
returns-then-is_left c =
    let t = none_given c.args.self.now c.args.part c.args.pieces.now c.args.count.now c.put_part-given.result
    c.put_part-given.new.pieces c.put_part-given.new.count c.put_part-given.ensures c.if-given-part.true
    (sym c.if-is_left.ensures) in
    (t.0, refl, t.1)

pub returns : goal.returns
returns c = gives_part_row c.args.self.now c.args.part c.args.pieces.now c.args.count.now c.put_part-given.result
    c.put_part-given.new.pieces c.put_part-given.new.count c.rest_of-self.result c.saturating_sub.result
    c.part_action.result c.put_part-given.ensures
    (elim c.else-given-part.branch [
      | else-given-part-via-then-given-part+else-is_left w ↦ inr (sym w.if-is_left.ensures)
      | else-given-part-via-else-given-part w ↦ inl w.if-given-part.false
    ])
    c.rest_of-self.ensures c.saturating_sub.ensures c.part_action.ensures
