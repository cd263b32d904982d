-- The first of the parts ends at the first separator, or at the end of the text.
use Rattle.std.proofs.Common.{◌∙◌, sym, ap, Some, None}
use Rattle.vm_memory.specs.Reading.{parts_left}
use Rattle.vm_memory.proofs.WordLemmas.{parts_of-first}
use Rattle.vm_memory.proofs.script.words.Parts.next.Goals as goal

pub returns-in-Some : goal.returns-in-Some
returns-in-Some c =
    sym c.self.view_is ∙ ap (parts_left c.self.inside.separator) c.in_ok-text.was
    ∙ parts_of-first _ c.in_ok-text.text.now (Some (c.in-Some.part, c.in-Some.rest))
    c.in-Some.ensures.cases c.self.invariant

pub returns-in-None : goal.returns-in-None
returns-in-None c =
    sym c.self.view_is ∙ ap (parts_left c.self.inside.separator) c.in_ok-text.was
    ∙ parts_of-first _ c.in_ok-text.text.now None c.in-None.ensures.cases c.self.invariant
