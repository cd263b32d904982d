use Rattle.vhost_backend.proofs.WholeLemmas.{none_kicked}
use Rattle.vhost_backend.proofs.whole_laws.no_kick_is_left.Goals as goal

pub returns : goal.returns
returns g c mem way w new_w old new is = none_kicked (g.D.RingMemory.steps mem) way w old new_w new is
