use Rattle.vhost_backend.proofs.StopLemmas.{answers_last, each_answered, gone, pops_nothing, waits_for_some}
use Rattle.vhost_backend.proofs.GoneLemmas.{gone_of_rings}
use Rattle.vhost_backend.proofs.laws.stops_are_answered_after_all_that_is_under_way.Goals as goal

pub returns : goal.returns
returns c = record {
  idle = λ r s some. (answers_last r s some).0;
  last = λ r s some. (answers_last r s some).1;
  pops_nothing = pops_nothing;
  gone = gone;
  each = each_answered;
  waits = waits_for_some;
  gone_of_rings = gone_of_rings;
}
