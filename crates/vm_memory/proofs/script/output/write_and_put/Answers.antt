use Rattle.std.proofs.Common.{[], true, false, subst}
use Rattle.vm_memory.specs.Told.{Puts}
use Rattle.vm_memory.proofs.ToldLemmas.{puts_puts, puts-cut}
use Rattle.vm_memory.proofs.script.output.write_and_put.Goals as goal

-- What waits is not written as a whole.
pub returns-then-not-write_all : goal.returns-then-not-write_all
returns-then-not-write_all g c =
    let contents = g.W.Write.contents in
    let before = contents c.args.output.now in
    let after = contents c.write_all.new.output in
    puts-cut before after c.args.waiting.now.items c.args.text.now []
    (subst (λ bytes. Puts before [] bytes false after []) c.as_slice.ensures.value c.if-not-write_all.ensures)

-- What waits is written, and then the text.
pub returns : goal.returns
returns g c =
    let contents = g.W.Write.contents in
    let before = contents c.args.output.now in
    let mid = contents c.write_all.new.output in
    rw c.clear.ensures.items
    (puts_puts before mid _ c.args.waiting.now.items c.args.text.now [] c.write_all-2.result
    (subst (λ bytes. Puts before [] bytes true mid []) c.as_slice.ensures.value c.if-not-write_all.ensures)
    c.write_all-2.ensures)
