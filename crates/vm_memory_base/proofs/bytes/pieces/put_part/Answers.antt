use Rattle.vm_memory_base.proofs.PieceLemmas.{piece_put}
use Rattle.vm_memory_base.proofs.bytes.pieces.put_part.Goals as goal

pub returns-then-size-gt-PIECE : goal.returns-then-size-gt-PIECE
returns-then-size-gt-PIECE g c =
    let bytes = g.T.ByteValued.bytes in
    piece_put (bytes c.args.value.now)
    (bytes c.put_bytes.new.value) c.args.data.now c.args.from c.put_bytes.ensures.before c.put_bytes.ensures.put
    c.put_bytes.ensures.after
