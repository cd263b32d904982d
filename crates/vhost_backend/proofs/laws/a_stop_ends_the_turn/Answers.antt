use Rattle.vhost_backend.proofs.TurnOverLemmas.{turns_are_on}
use Rattle.vhost_backend.proofs.laws.a_stop_ends_the_turn.Goals as goal

pub returns : goal.returns
returns c = turns_are_on
