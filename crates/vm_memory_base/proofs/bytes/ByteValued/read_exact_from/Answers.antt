use Rattle.std.proofs.Common.{arith}
use Rattle.vm_memory_base.proofs.KnownBytesJoined.{consumes_next}
use Rattle.vm_memory_base.proofs.bytes.ByteValued.read_exact_from.Goals as goal

pub loop-done-preserved : goal.loop-done-preserved
loop-done-preserved g c = record {
  within = omega (arith, c.min-count.ensures);
  read = consumes_next _ _ _ (g.Self.ByteValued.bytes c.loop-done.value)
      (g.Self.ByteValued.bytes c.read_piece.new.value) c.loop-done.done c.min-count.result
      c.loop-done.invariant.read c.in_ok-read_piece.ensures.before c.in_ok-read_piece.ensures.read;
}
