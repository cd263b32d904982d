use Rattle.vm_memory.proofs.ToldLemmas.{written-more}
use Rattle.vm_memory.proofs.script.output.write_out.Goals as goal

-- What the output took is written too.
pub loop-written-preserved : goal.loop-written-preserved
loop-written-preserved g c =
    let h = c.loop-written.invariant in
    let more = c.in-Some.ensures in
    written-more _ _ _ c.args.bytes.now c.loop-written.written c.in-Some.count h.0 h.1 more.0 more.1
