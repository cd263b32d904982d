use Rattle.vm_memory_guest.proofs.AccessLemmas.{Wrote}
use Rattle.vm_memory_guest.proofs.guest_memory.access.write_windows.Given as goal

abbrev pub invariant-loop-item : goal.invariant-loop-item
invariant-loop-item g l = Wrote g.B.Bitmap.marks l.fn.walk l.item-iterator l.buf l.initial.host l.host l.total
