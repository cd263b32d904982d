use Rattle.vm_session.proofs.commands.serve_making.Goals as goal

pub returns-in-Layout : goal.returns-in-Layout
returns-in-Layout c = rw c.in-Layout.is c.make_layout.ensures
