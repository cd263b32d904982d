use Rattle.vhost_backend.proofs.MarkLemmas.{asking_logged, return_logged}
use Rattle.vhost_backend.proofs.block_laws.log_addresses_are_marked.Goals as goal

pub returns : goal.returns
returns c = record { returns = return_logged; waits = asking_logged }
