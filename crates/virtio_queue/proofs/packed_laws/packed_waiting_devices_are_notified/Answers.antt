use Rattle.virtio_queue.proofs.PackedLawLemmas.{waiting_is_passed}
use Rattle.virtio_queue.proofs.packed_laws.packed_waiting_devices_are_notified.Goals as goal

pub returns : goal.returns
returns c = waiting_is_passed
