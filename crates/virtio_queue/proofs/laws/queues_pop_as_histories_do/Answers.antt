use Rattle.virtio_queue.proofs.LawLemmas.{pops_alike}
use Rattle.virtio_queue.proofs.laws.queues_pop_as_histories_do.Goals as goal

pub returns : goal.returns
returns g c = pops_alike
