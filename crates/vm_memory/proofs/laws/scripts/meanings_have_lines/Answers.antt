use Rattle.vm_memory.proofs.WritingLemmas.{line-of-command, line-of-setup}
use Rattle.vm_memory.proofs.laws.scripts.meanings_have_lines.Goals as goal

pub returns : goal.returns
returns c = record { command = line-of-command; setup = line-of-setup }
