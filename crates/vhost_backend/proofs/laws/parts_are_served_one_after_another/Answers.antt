use Rattle.vhost_backend.proofs.PartLemmas.{one_after_another}
use Rattle.vhost_backend.proofs.laws.parts_are_served_one_after_another.Goals as goal

pub returns : goal.returns
returns c = one_after_another
