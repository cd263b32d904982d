-- The first byte tells.
use Rattle.vm_memory.proofs.LineLemmas.{blank-none, blank-some}
use Rattle.vm_memory.proofs.script.line.is_blank.Goals as goal

pub returns-in-None : goal.returns-in-None
returns-in-None c = blank-none c.args.line.now c.in-None.ensures.value

pub returns-in-Some : goal.returns-in-Some
returns-in-Some c = blank-some c.args.line.now _ c.in-Some.ensures.value
