use Rattle.vm_memory.proofs.ToldLemmas.{puts-first}
use Rattle.vm_memory.proofs.script.output.write_all.Goals as goal

-- All are written, or the first of them.
pub returns : goal.returns
returns g c = puts-first _ _ c.args.bytes.now _ c.write_out.ensures.wrote
