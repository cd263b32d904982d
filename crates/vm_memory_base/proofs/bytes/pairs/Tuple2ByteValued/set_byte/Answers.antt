use Rattle.std.proofs.Common.{arith, sym}
use Rattle.std.proofs.lemmas.List.{set-append_right}
use Rattle.vm_memory_base.proofs.bytes.pairs.Tuple2ByteValued.set_byte.Goals as goal

pub returns-else-i-width : goal.returns-else-i-width
returns-else-i-width g c =
    let first = g.A.FixedInteger.bytes c.args.self.now.0 in
    let sized = g.met.A.FixedInteger.length_always c.args.self.now.0 in
    rw (c.set_byte-else-i-width.ensures)
    (sym (set-append_right first (g.B.ByteValued.bytes c.args.self.now.1) c.bytes_count-width.result c.args.i c.args.b
    (omega (arith, sized, c.bytes_count-width.ensures.value)) (omega (arith, c.if-i-width.false))))
