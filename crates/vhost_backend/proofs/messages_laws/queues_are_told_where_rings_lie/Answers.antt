use Rattle.vhost_backend.proofs.PlaceLemmas.{told_where}
use Rattle.vhost_backend.proofs.messages_laws.queues_are_told_where_rings_lie.Goals as goal

pub returns : goal.returns
returns c = told_where
