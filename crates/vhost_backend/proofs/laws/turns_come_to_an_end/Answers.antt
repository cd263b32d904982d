use Rattle.vhost_backend.proofs.EndLemmas.{broken_ends, emptied, popped}
use Rattle.vhost_backend.proofs.laws.turns_come_to_an_end.Goals as goal

pub returns : goal.returns
returns c = record { popped = popped; emptied = emptied; broken = broken_ends }
