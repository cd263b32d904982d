use Rattle.virtio_queue.proofs.PackedBridgeLemmas.{returns_alike}
use Rattle.virtio_queue.proofs.packed_laws.packed_queues_return_as_histories_do.Goals as goal

pub returns : goal.returns
returns c = returns_alike
