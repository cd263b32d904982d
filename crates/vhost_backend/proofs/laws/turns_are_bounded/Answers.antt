use Rattle.vhost_backend.proofs.BoundLemmas.{bytes, chains}
use Rattle.vhost_backend.proofs.laws.turns_are_bounded.Goals as goal

pub returns : goal.returns
returns c = record { chains = chains; bytes = bytes }
