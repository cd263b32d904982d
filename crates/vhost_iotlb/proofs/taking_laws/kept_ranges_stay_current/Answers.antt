use Rattle.vhost_iotlb.proofs.KeptLemmas.{gone, stays_current}
use Rattle.vhost_iotlb.proofs.taking_laws.kept_ranges_stay_current.Goals as goal

pub returns : goal.returns
returns c = record { stays = stays_current; gone = gone }
