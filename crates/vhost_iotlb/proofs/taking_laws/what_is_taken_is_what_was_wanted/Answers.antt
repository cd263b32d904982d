use Rattle.vhost_iotlb.proofs.TakingLemmas.{whole_is_wanted}
use Rattle.vhost_iotlb.proofs.taking_laws.what_is_taken_is_what_was_wanted.Goals as goal

pub returns : goal.returns
returns c = whole_is_wanted
