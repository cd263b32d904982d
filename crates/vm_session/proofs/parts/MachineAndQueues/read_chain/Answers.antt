use Rattle.std.proofs.Common.{refl}
use Rattle.vm_memory.specs.ScriptMachine.{state_made}
use Rattle.vm_session.specs.declared.call.Kind.TheVariants as kind
use Rattle.vm_session.proofs.CodeLemmas.{on_no_queue, on_queue}
use Rattle.vm_session.proofs.parts.MachineAndQueues.read_chain.Goals as goal

pub returns-in-Some : goal.returns-in-Some
returns-in-Some c input =
    on_queue kind.ReadChain c.args.self.now c.args.call.now input c.args.output.now c.read_chain.new.answer
    c.read_chain.new.output c.in-Some.queue.now c.in-Some.queue.now
    (rw (← c.self.view_is) c.in-Some.ensures.item.3.0) (rw (← c.self.view_is) c.in-Some.ensures.value)
    (state_made c.read_chain.new.machine) (rw (← c.self.view_is) (c.read_chain.ensures input)) _ refl
    (rw (← c.self.view_is) refl)

pub returns-in-None : goal.returns-in-None
returns-in-None c input =
    on_no_queue kind.ReadChain c.args.self.now c.args.call.now input c.args.output.now c.refuse.new.answer
    c.args.output.now (rw (← c.self.view_is) c.in-None.ensures.item.3) c.refuse.ensures refl _ (c.self.view_is)
