use Rattle.vm_memory_guest.proofs.AccessLemmas.{Filled}
use Rattle.vm_memory_guest.proofs.guest_memory.access.read_value.Given as goal

abbrev pub invariant-loop-item : goal.invariant-loop-item
invariant-loop-item g l =
    Filled l.fn.walk l.item-iterator l.host.blocks (g.V.ByteValued.bytes l.initial.value)
    (g.V.ByteValued.bytes l.value) l.total
