use Rattle.std.proofs.Common.{◌<◌, ℕ, Bool, ◌∷◌, [], ◌++◌, ap, arith, sym}
use Rattle.vhost_backend.specs.Given.{len_of_part}
use Rattle.vhost_backend.proofs.GivenLemmas.{lays_more, row_more}
use Rattle.vhost_backend.proofs.given.put_pieces.Goals as goal

pub loop-given-preserved : goal.loop-given-preserved
loop-given-preserved c =
    let below : c.loop-given.given < len_of_part c.args.part.step =
    omega (arith, ap (λ (t : Bool × ℕ × ℕ). t.2) c.bytes_of-len.ensures.bytes) in (
      c.loop-given.invariant.0 ++ c.in-Some.place ∷ [],
      lays_more c.args.memory.now c.args.chain.now c.args.part.step c.args.part.given c.loop-given.given
          c.loop-given.invariant.0 c.in-Some.place c.loop-given.invariant.1 below (sym c.in-Some.ensures.place),
      row_more c.args.pieces.now c.loop-given.pieces c.put_piece.new.pieces c.args.count.now c.loop-given.count
          c.put_piece.new.count c.loop-given.invariant.0 c.in-Some.place c.loop-given.invariant.2
          c.if-not-put_piece.ensures.0,
    )
