use Rattle.std.proofs.Common.{refl}
use Rattle.vm_memory_guest.specs.Access.{path, first_fault}
use Rattle.vm_memory_guest.specs.Memory.{Direct, Through}
use Rattle.vm_memory_guest.proofs.AccessLaws.{stopped-access}
use Rattle.vm_memory_guest.proofs.laws.accesses.accesses_stop_at_the_first_fault.Goals as goal

pub returns-clause-first : goal.returns-clause-first
returns-clause-first g c = stopped-access

pub returns-clause-empty : goal.returns-clause-empty
unfolding path first_fault
returns-clause-empty g c regions Direct a access = refl
returns-clause-empty g c regions (Through f space) a access = refl
