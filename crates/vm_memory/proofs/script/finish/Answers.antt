use Rattle.vm_memory.proofs.ScriptLemmas.{ends-cut, ends-unflushed, ends-whole}
use Rattle.vm_memory.proofs.script.finish.Goals as goal

-- The output fails.
pub returns-then-not-write_all : goal.returns-then-not-write_all
returns-then-not-write_all g c lines before told =
    let contents = g.W.Write.contents in
    ends-cut lines c.args.outcome before (contents c.args.output.now) (contents c.write_all.new.output)
    c.args.waiting.now told (c.if-is_unwritten.ensures c.args.waiting.now) c.if-not-write_all.ensures

pub returns-then-is_err : goal.returns-then-is_err
returns-then-is_err g c lines before told =
    let contents = g.W.Write.contents in
    ends-unflushed lines c.args.outcome before (contents c.args.output.now) (contents c.write_all.new.output)
    (contents c.flush.new.self) c.args.waiting.now told (c.if-is_unwritten.ensures c.args.waiting.now)
    c.if-not-write_all.ensures c.flush.ensures.bytes

-- All is written.
pub returns : goal.returns
returns g c lines before told =
    let contents = g.W.Write.contents in
    ends-whole lines c.args.outcome before (contents c.args.output.now) (contents c.write_all.new.output)
    (contents c.flush.new.self) c.args.waiting.now told (c.if-is_unwritten.ensures c.args.waiting.now)
    c.if-not-write_all.ensures c.flush.ensures.bytes
