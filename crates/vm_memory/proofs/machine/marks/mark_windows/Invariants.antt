use Rattle.vm_memory.proofs.MarkLemmas.{Marked}
use Rattle.vm_memory.proofs.machine.marks.mark_windows.Given as goal

abbrev pub invariant-loop-item : goal.invariant-loop-item
invariant-loop-item g l = Marked g.B.Bitmap.marks l.fn.walk l.item-iterator l.initial.host l.host l.total
