use Rattle.vhost_backend.proofs.ToldLemmas.{notes}
use Rattle.vhost_backend.proofs.laws.no_return_is_silent.Goals as goal

pub returns : goal.returns
returns c = notes
