use Rattle.std.proofs.Common.{◌≡◌, take, drop}
use Rattle.vm_memory_base.proofs.bytes.pieces.copy_bytes.Given as goal

abbrev pub invariant-loop-i : goal.invariant-loop-i
invariant-loop-i g l = take l.i l.out ≡ take l.i (drop l.from (g.T.ByteValued.bytes l.value))
