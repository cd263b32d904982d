use Rattle.vhost_backend.proofs.FairLemmas.{fair, soon}
use Rattle.vhost_backend.proofs.laws.turns_are_fair.Goals as goal

pub returns : goal.returns
returns c = record { fair = fair; soon = soon }
