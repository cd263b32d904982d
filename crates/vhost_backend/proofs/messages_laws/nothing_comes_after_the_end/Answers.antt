use Rattle.vhost_backend.proofs.OverLemmas.{all_over, pops_nothing, rests}
use Rattle.vhost_backend.proofs.messages_laws.nothing_comes_after_the_end.Goals as goal

pub returns : goal.returns
returns c = record {
  stays = λ b later is. let (over, same, none, count) = all_over b later is in (over, same, count);
  pops_nothing = pops_nothing;
  rests = rests;
}
