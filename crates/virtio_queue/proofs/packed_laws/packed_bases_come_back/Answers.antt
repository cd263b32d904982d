use Rattle.virtio_queue.proofs.PackedBridgeLemmas.{base_comes_back}
use Rattle.virtio_queue.proofs.packed_laws.packed_bases_come_back.Goals as goal

pub returns : goal.returns
returns c = base_comes_back
