use Rattle.std.proofs.Common.{List, ℕ, sym, subst}
use Rattle.std.specs.Io.KnownBytes.{Appends}
use Rattle.vm_memory.specs.Script.{Drives}
use Rattle.vm_memory.specs.Told.{TellsAll}
use Rattle.vm_memory.specs.Words.{parts_of}
use Rattle.vm_memory.proofs.ScriptLemmas.{of_known}
use Rattle.vm_memory.proofs.script.drive.Goals as goal

-- The lines of the text that was read, and what waits at their end.
pub returns : goal.returns
returns g c =
    let before = g.W.Write.contents c.args.output.now in
    let after = g.W.Write.contents c.finish.new.output in
    let text = c.in_ok-text.text.items in
    let lines = parts_of 10 c.as_slice.result.now in
    let told = subst (TellsAll lines c.answer_lines-outcome.result before
    (g.W.Write.contents c.answer_lines-outcome.new.output)) (sym c.as_slice-2.ensures.value)
    c.answer_lines-outcome.ensures in
    let ended = c.finish.ensures lines before told in
    of_known (g.R.Read.remaining c.args.input.now) text
    (λ t. (written : List ℕ) × Appends before after written × Drives t c.finish.result written) c.in_ok-text.ensures
    (subst (λ t. (written : List ℕ) × Appends before after written × Drives t c.finish.result written)
    c.as_slice.ensures.value ended)
