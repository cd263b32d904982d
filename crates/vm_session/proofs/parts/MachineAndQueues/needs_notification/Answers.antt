use Rattle.std.proofs.Common.{refl}
use Rattle.vm_memory.specs.ScriptMachine.{state_made}
use Rattle.vm_session.specs.declared.call.Kind.TheVariants as kind
use Rattle.vm_session.proofs.CodeLemmas.{on_no_queue, on_queue}
use Rattle.vm_session.proofs.parts.MachineAndQueues.needs_notification.Goals as goal

pub returns-in-Some : goal.returns-in-Some
returns-in-Some c input out =
    on_queue kind.NeedsNotification c.args.self.now c.args.call.now input out c.needs_notification.new.answer
    out c.in-Some.queue.now c.needs_notification.new.queue
    (rw (← c.self.view_is) c.in-Some.ensures.item.3.0) (rw (← c.self.view_is) c.in-Some.ensures.value)
    (state_made c.needs_notification.new.machine) (rw (← c.self.view_is) (c.needs_notification.ensures input out)) _ refl
    (rw (← c.self.view_is) refl)

pub returns-in-None : goal.returns-in-None
returns-in-None c input out =
    on_no_queue kind.NeedsNotification c.args.self.now c.args.call.now input out c.refuse.new.answer
    out (rw (← c.self.view_is) c.in-None.ensures.item.3) c.refuse.ensures refl _ (c.self.view_is)
