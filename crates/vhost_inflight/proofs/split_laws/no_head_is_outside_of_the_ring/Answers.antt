use Rattle.vhost_inflight.proofs.RingLemmas.{each_in_ring}
use Rattle.vhost_inflight.proofs.split_laws.no_head_is_outside_of_the_ring.Goals as goal

pub returns : goal.returns
returns c = each_in_ring
