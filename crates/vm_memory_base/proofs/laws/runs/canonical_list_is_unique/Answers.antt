use Rattle.vm_memory_base.proofs.RunsLaws.{same_from_values}
use Rattle.vm_memory_base.proofs.laws.runs.canonical_list_is_unique.Goals as goal

pub returns : goal.returns
returns g c = λ same h rs ss. same_from_values same h.1 rs ss
