use Rattle.vm_memory_guest.proofs.HoldsLemmas.{IsHeld-whole, IsHeld-part}
use Rattle.vm_memory_guest.proofs.laws.host.parts_of_a_block_are_held.Goals as goal

pub returns : goal.returns
returns g c = record { whole = IsHeld-whole; part = IsHeld-part }
