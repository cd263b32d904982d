use Rattle.vm_session.proofs.commands.serve_moving.Goals as goal

pub returns-in-ReadFrom : goal.returns-in-ReadFrom
returns-in-ReadFrom c = rw c.in-ReadFrom.is c.receive.ensures

pub returns-in-ReadExactFrom : goal.returns-in-ReadExactFrom
returns-in-ReadExactFrom c = rw c.in-ReadExactFrom.is c.receive_whole.ensures
