use Rattle.vm_session.proofs.parts.MachineAndQueues.serve.Goals as goal

pub returns-in-Layout-clause-served : goal.returns-in-Layout-clause-served
returns-in-Layout-clause-served c = rw (← c.self.view_is) (c.serve_making.ensures c.args.output.now)

pub returns-in-ReadFrom-clause-served : goal.returns-in-ReadFrom-clause-served
returns-in-ReadFrom-clause-served c = rw (← c.self.view_is) (c.serve_moving.ensures c.args.output.now)
