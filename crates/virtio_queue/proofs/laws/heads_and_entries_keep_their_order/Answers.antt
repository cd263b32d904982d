use Rattle.virtio_queue.proofs.HistoryLemmas.{order_is_kept}
use Rattle.virtio_queue.proofs.laws.heads_and_entries_keep_their_order.Goals as goal

pub returns : goal.returns
returns c = order_is_kept
