use Rattle.vhost_backend.proofs.RunLemmas.{runs}
use Rattle.vhost_backend.proofs.messages_laws.rings_run_as_the_protocol_has_it.Goals as goal

pub returns : goal.returns
returns c = runs
