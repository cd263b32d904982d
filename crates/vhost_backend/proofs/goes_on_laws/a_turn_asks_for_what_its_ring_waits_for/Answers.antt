use Rattle.vhost_backend.proofs.TendTurnLemmas.{first_asked, turn_asks}
use Rattle.vhost_backend.proofs.goes_on_laws.a_turn_asks_for_what_its_ring_waits_for.Goals as goal

pub returns : goal.returns
returns g c = record {
  asks = λ mem way w new_w old new iova access. turn_asks iova access (g.D.RingMemory.steps mem) way w old new_w new;
  sends = first_asked;
}
