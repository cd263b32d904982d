-- A line that is no text means nothing, and the words of one that is tell what it means.
use Rattle.std.proofs.Common.{◌∙◌, sym, subst}
use Rattle.vm_memory.specs.LineReading.{IsShown, line_at}
use Rattle.vm_memory.specs.Words.{parts_of}
use Rattle.vm_memory.proofs.LineLemmas.{parses-shown, parses-no_text}
use Rattle.vm_memory.proofs.script.line.parse.Goals as goal

pub returns-in-Ok : goal.returns-in-Ok
returns-in-Ok c =
    let read = c.in-Ok.ensures.cases in
    let blank = sym c.is_blank.ensures ∙ c.if-is_blank.false in
    parses-shown c.args.line.now _ blank read.1
    (subst (λ l. IsShown c.of_words.result (line_at (parts_of 32 l))) read.0 c.of_words.ensures)

pub returns-in-Err : goal.returns-in-Err
returns-in-Err c =
    parses-no_text c.args.line.now (sym c.is_blank.ensures ∙ c.if-is_blank.false) c.in-Err.ensures.cases.0
