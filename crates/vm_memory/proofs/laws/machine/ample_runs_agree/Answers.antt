use Rattle.vm_memory.proofs.JournalLemmas.{ample_runs_agree}
use Rattle.vm_memory.proofs.laws.machine.ample_runs_agree.Goals as goal

pub returns : goal.returns
returns c = ample_runs_agree
