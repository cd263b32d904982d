use Rattle.vm_memory.specs.Told.{stage_of}
use Rattle.vm_memory.proofs.SessionLemmas.{command-told, state_of_stage}
use Rattle.vm_memory.proofs.script.session.Session.serve.Goals as goal

pub returns : goal.returns
returns g c =
    let self = c.args.self.now in
    command-told _ _ _ _ (stage_of self.commanded self.machine) _ _ c.args.command c.in_ok-answered.field-0
    c.args.number c.tell.result (state_of_stage self.commanded self.machine) c.in_ok-answered.ensures c.tell.ensures
