use Rattle.vhost_inflight.proofs.AgainLemmas.{start_settles}
use Rattle.vhost_inflight.proofs.split_laws.starts_settle_what_was_returned.Goals as goal

pub returns : goal.returns
returns c = start_settles
