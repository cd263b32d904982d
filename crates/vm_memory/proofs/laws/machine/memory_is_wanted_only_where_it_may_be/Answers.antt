use Rattle.vm_memory.proofs.RunLemmas.{want-may-be}
use Rattle.vm_memory.proofs.laws.machine.memory_is_wanted_only_where_it_may_be.Goals as goal

pub returns : goal.returns
returns c = want-may-be c.refused_transfers_in_change_nothing.ensures
