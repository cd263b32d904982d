use Rattle.std.proofs.Common.{arith}
use Rattle.vm_memory_base.proofs.KnownBytesJoined.{appends_next}
use Rattle.vm_memory_base.proofs.bytes.ByteValued.write_all_to.Goals as goal

pub loop-done-preserved : goal.loop-done-preserved
loop-done-preserved g c = record {
  within = omega (arith, c.min-count.ensures);
  written = appends_next _ _ _
      (g.Self.ByteValued.bytes c.args.self.now) c.loop-done.done c.min-count.result c.loop-done.invariant.written
      c.in_ok-write_piece.ensures;
}
