use Rattle.vm_memory.proofs.HistoryLemmas.{command_in_run}
use Rattle.vm_memory.proofs.laws.machine.runs_go_on.Goals as goal

pub returns : goal.returns
returns c = command_in_run
