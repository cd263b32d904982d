use Rattle.std.proofs.Common.{refl}
use Rattle.vm_session.proofs.parts.MachineAndQueues.clear.Goals as goal

pub returns : goal.returns
returns c = rw (← c.self.view_is) (_, c.invalidate_all.ensures, refl)
