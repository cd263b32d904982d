use Rattle.vm_memory_guest.proofs.AccessLemmas.{Filled}
use Rattle.vm_memory_guest.proofs.guest_memory.access.read_windows.Given as goal

abbrev pub invariant-loop-item : goal.invariant-loop-item
invariant-loop-item g l = Filled l.fn.walk l.item-iterator l.host.blocks l.initial.buf l.buf l.total
