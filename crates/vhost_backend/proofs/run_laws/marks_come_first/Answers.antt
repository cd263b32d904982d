use Rattle.vhost_backend.proofs.WaitLemmas.{moves_keep, others_after, returns_after}
use Rattle.vhost_backend.proofs.run_laws.marks_come_first.Goals as goal

pub returns : goal.returns
returns c = record { stays = moves_keep; others = others_after; returns = returns_after }
