use Rattle.virtio_queue.proofs.PackedLawLemmas.{bits_come_back}
use Rattle.virtio_queue.proofs.packed_laws.packed_positions_come_back.Goals as goal

pub returns : goal.returns
returns c = bits_come_back
