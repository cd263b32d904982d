-- The first of the lines ends at the first line feed, or at the end of the text.
use Rattle.std.proofs.Common.{◌∙◌, sym, ap}
use Rattle.vm_memory.specs.Told.{lines_left}
use Rattle.vm_memory.proofs.ToldLemmas.{lines-last, lines-first}
use Rattle.vm_memory.proofs.script.lines.Lines.next.Goals as goal

pub returns-in-Some : goal.returns-in-Some
returns-in-Some c =
    sym c.self.view_is ∙ ap lines_left c.in_ok-text.was
    ∙ lines-first c.in_ok-text.text.now c.in-Some.end (sym c.line_end.ensures ∙ c.in-Some.is)

pub returns-in-None : goal.returns-in-None
returns-in-None c =
    sym c.self.view_is ∙ ap lines_left c.in_ok-text.was
    ∙ lines-last c.in_ok-text.text.now (sym c.line_end.ensures ∙ c.in-None.is)
