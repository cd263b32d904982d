use Rattle.vm_memory_guest.proofs.HoldsLemmas.{Holds-each, Holds-among}
use Rattle.vm_memory_guest.proofs.laws.host.regions_are_held_one_by_one.Goals as goal

pub returns : goal.returns
returns c = record { each = Holds-each; among = Holds-among }
