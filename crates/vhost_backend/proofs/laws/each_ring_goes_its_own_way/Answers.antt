use Rattle.vhost_backend.proofs.OwnWayLemmas.{becomes, done}
use Rattle.vhost_backend.proofs.laws.each_ring_goes_its_own_way.Goals as goal

pub returns : goal.returns
returns c = record { becomes = becomes; done = done }
