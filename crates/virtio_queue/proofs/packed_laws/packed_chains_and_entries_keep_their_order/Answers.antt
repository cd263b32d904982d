use Rattle.virtio_queue.proofs.PackedHistoryLemmas.{order_is_kept}
use Rattle.virtio_queue.proofs.packed_laws.packed_chains_and_entries_keep_their_order.Goals as goal

pub returns : goal.returns
returns c = order_is_kept
