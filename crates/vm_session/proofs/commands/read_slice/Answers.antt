use Rattle.std.proofs.Common.{Ok, Err, ◌∙◌}
use Rattle.vm_memory.specs.ScriptMachine.{state_made}
use Rattle.vm_session.specs.Requests.{address}
use Rattle.vm_session.proofs.ReadLemmas.{fill_does, fill_told}
use Rattle.vm_session.proofs.commands.read_slice.Goals as goal

pub returns-in-Ok : goal.returns-in-Ok
returns-in-Ok c =
    let call = c.args.call.now in
    fill_does (state_made c.args.machine.now) call.first (address call.address) call.length c.args.output.now
    c.read_slice.new.buf (Ok c.in-Ok.field-0) c.of_count.result c.if-output-call.false c.in-Ok.ensures
    (c.of_count.ensures
    ∙ fill_told c.read_slice.new.buf c.args.output.now call.length c.if-output-call.false c.read_slice.auto.buf)

pub returns-in-Err : goal.returns-in-Err
returns-in-Err c =
    let call = c.args.call.now in
    fill_does (state_made c.args.machine.now) call.first (address call.address) call.length c.args.output.now
    c.read_slice.new.buf (Err c.in-Err.refusal) c.refused.result c.if-output-call.false c.in-Err.ensures
    c.refused.ensures
