use Rattle.vhost_backend.proofs.WaitLemmas.{moves_ends}
use Rattle.vhost_backend.proofs.run_laws.ends_are_taken_in_order.Goals as goal

pub returns : goal.returns
returns c = moves_ends
