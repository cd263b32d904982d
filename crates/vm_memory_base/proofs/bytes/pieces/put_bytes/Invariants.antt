use Rattle.std.proofs.Common.{◌≡◌, ◌+◌, take, drop, length}
use Rattle.vm_memory_base.proofs.bytes.pieces.put_bytes.Given as goal

abbrev pub invariant-loop-i : goal.invariant-loop-i
invariant-loop-i g l =
    record {
      count : length (g.T.ByteValued.bytes l.value) ≡ g.T.ByteSized.width;
      before : take l.from (g.T.ByteValued.bytes l.value) ≡ take l.from (g.T.ByteValued.bytes l.initial.value);
      put : take l.i (drop l.from (g.T.ByteValued.bytes l.value)) ≡ take l.i l.data;
      after : drop (l.from + l.i) (g.T.ByteValued.bytes l.value)
          ≡ drop (l.from + l.i) (g.T.ByteValued.bytes l.initial.value);
    }
