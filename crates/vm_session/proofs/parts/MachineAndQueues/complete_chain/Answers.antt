use Rattle.std.proofs.Common.{refl}
use Rattle.vm_memory.specs.ScriptMachine.{state_made}
use Rattle.vm_session.specs.declared.call.Kind.TheVariants as kind
use Rattle.vm_session.proofs.CodeLemmas.{on_no_queue, on_queue}
use Rattle.vm_session.proofs.parts.MachineAndQueues.complete_chain.Goals as goal

pub returns-in-Some : goal.returns-in-Some
returns-in-Some c out =
    on_queue kind.CompleteChain c.args.self.now c.args.call.now c.args.input.now out c.complete_chain.new.answer
    out c.in-Some.queue.now c.complete_chain.new.queue
    (rw (← c.self.view_is) c.in-Some.ensures.item.3.0) (rw (← c.self.view_is) c.in-Some.ensures.value)
    (state_made c.complete_chain.new.machine) (rw (← c.self.view_is) (c.complete_chain.ensures out)) _ refl
    (rw (← c.self.view_is) refl)

pub returns-in-None : goal.returns-in-None
returns-in-None c out =
    on_no_queue kind.CompleteChain c.args.self.now c.args.call.now c.args.input.now out c.refuse.new.answer
    out (rw (← c.self.view_is) c.in-None.ensures.item.3) c.refuse.ensures refl _ (c.self.view_is)
