use Rattle.std.proofs.Common.{inr, refl, rules}
use Rattle.vm_memory.proofs.TableLemmas.{wanted}
use Rattle.vm_memory.proofs.machine.tables.invalidate_in.Goals as goal

pub returns-in-Err-clause-answer : goal.returns-in-Err-clause-answer
returns-in-Err-clause-answer g c =
    let w = wanted c.args.host.now c.args.table c.table_mut.result.now c.invalidate_mapping-invalidated.new.self
    c.table_mut.ensures.value c.in-Err.ensures.err.2 c.args.iova.0 c.args.len (search rules) in
    inr (refl, w.0, w.1, c.in-Err.ensures.err.1, w.2)
