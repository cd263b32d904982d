use Rattle.vm_memory.proofs.ScriptLaws.{scripts-run}
use Rattle.vm_memory.proofs.laws.scripts.scripts_run_the_model.Goals as goal

pub returns : goal.returns
returns c lines text end h = scripts-run lines _ text end h
