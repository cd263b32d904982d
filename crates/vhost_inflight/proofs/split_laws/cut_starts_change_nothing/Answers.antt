use Rattle.vhost_inflight.proofs.RingLemmas.{cut_remains}
use Rattle.vhost_inflight.proofs.split_laws.cut_starts_change_nothing.Goals as goal

pub returns : goal.returns
returns c = λ descriptors size used stores r small none. cut_remains descriptors size used r stores small none
