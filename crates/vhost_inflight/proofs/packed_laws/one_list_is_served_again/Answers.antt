use Rattle.vhost_inflight.proofs.PackedStoreLemmas.{flies_once}
use Rattle.vhost_inflight.proofs.packed_laws.one_list_is_served_again.Goals as goal

pub returns : goal.returns
returns c = flies_once
