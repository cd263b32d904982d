use Rattle.std.proofs.Common.{subst}
use Rattle.vm_memory.specs.Lines.{Means}
use Rattle.vm_memory.specs.declared.script.line.Line.TheVariants.{Setup}
use Rattle.vm_memory.proofs.SessionLemmas.{tells-meaning}
use Rattle.vm_memory.proofs.script.session.Session.answer.Goals as goal

-- A setup line is told by its meaning.
pub returns-in-Setup : goal.returns-in-Setup
returns-in-Setup g c =
    tells-meaning (g.W.Write.contents c.args.output.now) c.args.waiting.now.items
    (g.W.Write.contents c.set_up.new.output) c.set_up.new.waiting.items _ _ c.args.line.now (Setup c.in-Setup.setup)
    c.args.number c.set_up.result (subst (Means c.args.line.now) c.in-Setup.is c.in_ok-parsed.ensures) c.set_up.ensures
