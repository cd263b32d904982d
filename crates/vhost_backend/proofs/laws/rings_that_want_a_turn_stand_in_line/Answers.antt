use Rattle.vhost_backend.proofs.WantLemmas.{in_line}
use Rattle.vhost_backend.proofs.laws.rings_that_want_a_turn_stand_in_line.Goals as goal

pub returns : goal.returns
returns c = in_line
