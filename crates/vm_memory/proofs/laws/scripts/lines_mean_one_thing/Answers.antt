use Rattle.vm_memory.proofs.ScriptLaws.{same_meaning}
use Rattle.vm_memory.proofs.laws.scripts.lines_mean_one_thing.Goals as goal

pub returns : goal.returns
returns c = same_meaning
