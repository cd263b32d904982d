use Rattle.vhost_backend.proofs.CurrentGoneLemmas.{all_current, gone_now, pieces_lead, rings_lead}
use Rattle.vhost_backend.proofs.current_laws.gone_is_gone.Goals as goal

pub returns : goal.returns
returns c = record {
  gone = gone_now;
  rings = rings_lead c.targets_follow_addresses.ensures.set;
  pieces = pieces_lead;
  chains = λ f d ring id q a driver now there under found is.
      c.guest_chain_is_the_drivers.ensures.whole f driver a.chain a.kept found
      (all_current f a.kept ((now.queues ring q there).asked id a under).0) is;
}
