use Rattle.vhost_backend.proofs.OnceLemmas.{of_rings, once}
use Rattle.vhost_backend.proofs.laws.each_chain_is_returned_once.Goals as goal

pub returns : goal.returns
returns c = record { of_ring = once; of_rings = of_rings }
