use Rattle.vhost_iotlb.proofs.TakingLemmas.{stops_for_limits}
use Rattle.vhost_iotlb.proofs.taking_laws.a_mapping_that_comes_is_taken.Goals as goal

pub returns : goal.returns
returns c = stops_for_limits
