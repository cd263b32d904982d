use Rattle.vm_memory.specs.ScriptMachine.{state_made}
use Rattle.vm_session.specs.Requests.{address}
use Rattle.vm_session.proofs.ReadLemmas.{read_does}
use Rattle.vm_session.proofs.commands.read.Goals as goal

pub returns : goal.returns
returns c =
    let call = c.args.call.now in
    read_does (state_made c.args.machine.now) call.first (address call.address) call.length c.args.output.now
    c.read.new.buf c.read.result c.moved.new.answer c.if-output-call.false c.read.auto.buf c.read.ensures.answer
    c.read.ensures.at_most c.moved.ensures
