use Rattle.virtio_queue.proofs.HistoryLemmas.{returned_alike}
use Rattle.virtio_queue.proofs.laws.queues_return_as_histories_do.Goals as goal

pub returns : goal.returns
returns c = λ q s entry e.
    returned_alike q.state.size q.state.next_used s.rings.used_idx s.rings.used entry e
