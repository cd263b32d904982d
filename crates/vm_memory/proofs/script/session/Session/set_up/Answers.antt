use Rattle.std.proofs.Common.{◌≡◌, false}
use Rattle.vm_memory.specs.declared.script.line.Line.TheVariants.{Setup}
use Rattle.vm_memory.proofs.SessionLemmas.{not_commanded, setup-told}
use Rattle.vm_memory.proofs.script.session.Session.set_up.Goals as goal

-- No command ran yet.
pub returns : goal.returns
returns g c =
    let self = c.args.self.now in
    let before = g.W.Write.contents c.args.output.now in
    let pending = c.args.waiting.now.items in
    let after = g.W.Write.contents c.tell.new.output in
    let left = c.tell.new.waiting.items in
    let none : self.commanded ≡ false = c.if-self.false in
    not_commanded before pending after left self.commanded self.machine c.make-reply.new.self (Setup c.args.setup)
    c.args.number c.tell.result none
    (setup-told before pending after left _ _ c.args.setup c.make-reply.result c.args.number c.tell.result
    c.make-reply.ensures c.tell.ensures)
