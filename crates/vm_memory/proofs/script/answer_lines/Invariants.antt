-- The lines before those that are left are answered.
use Rattle.std.proofs.Common.{length}
use Rattle.vm_memory.specs.Told.{stage_of}
use Rattle.vm_memory.proofs.ScriptLemmas.{Progress}
use Rattle.vm_memory.proofs.script.answer_lines.Given as goal

abbrev pub invariant-loop-line : goal.invariant-loop-line
invariant-loop-line g l =
    Progress (g.W.Write.contents l.initial.output) l.initial.lines l.lines
    (stage_of l.session.commanded l.session.machine) l.number (g.W.Write.contents l.output) l.waiting.items

abbrev pub decreases-loop-line : goal.decreases-loop-line
decreases-loop-line g l = length l.lines
