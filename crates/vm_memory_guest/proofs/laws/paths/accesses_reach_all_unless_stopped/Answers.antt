use Rattle.vm_memory_guest.proofs.PathLaws.{length-access, access-ends}
use Rattle.vm_memory_guest.proofs.laws.paths.accesses_reach_all_unless_stopped.Goals as goal

pub returns-clause-at_most : goal.returns-clause-at_most
returns-clause-at_most c = length-access

pub returns-clause-all : goal.returns-clause-all
returns-clause-all c = access-ends
