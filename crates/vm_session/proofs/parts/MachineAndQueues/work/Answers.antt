use Rattle.vm_session.proofs.parts.MachineAndQueues.work.Goals as goal

pub returns-in-Pop : goal.returns-in-Pop
returns-in-Pop c = rw c.in-Pop.is (c.pop.ensures c.args.input.now c.args.output.now)

pub returns-in-ReadChain : goal.returns-in-ReadChain
returns-in-ReadChain c = rw c.in-ReadChain.is (c.read_chain.ensures c.args.input.now)

pub returns-in-WriteChain : goal.returns-in-WriteChain
returns-in-WriteChain c = rw c.in-WriteChain.is (c.write_chain.ensures c.args.output.now)

pub returns-in-AddUsed : goal.returns-in-AddUsed
returns-in-AddUsed c = rw c.in-AddUsed.is (c.add_used.ensures c.args.input.now c.args.output.now)

pub returns-in-CompleteChain : goal.returns-in-CompleteChain
returns-in-CompleteChain c = rw c.in-CompleteChain.is (c.complete_chain.ensures c.args.output.now)

pub returns-in-NeedsNotification : goal.returns-in-NeedsNotification
returns-in-NeedsNotification c =
    rw c.in-NeedsNotification.is (c.needs_notification.ensures c.args.input.now c.args.output.now)

pub returns-in_default : goal.returns-in_default
returns-in_default c = c.work_on.ensures c.args.input.now c.args.output.now
