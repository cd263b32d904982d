use Rattle.vm_memory_guest.proofs.AccessLemmas.{Wrote}
use Rattle.vm_memory_guest.proofs.guest_memory.access.write_value.Given as goal

abbrev pub invariant-loop-item : goal.invariant-loop-item
invariant-loop-item g l =
    Wrote g.B.Bitmap.marks l.fn.walk l.item-iterator (g.V.ByteValued.bytes l.value) l.initial.host l.host l.total
