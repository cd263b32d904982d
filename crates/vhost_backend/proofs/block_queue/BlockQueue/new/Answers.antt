use Rattle.vhost_backend.proofs.QueueLemmas.{short_none}
use Rattle.vhost_backend.proofs.block_queue.BlockQueue.new.Goals as goal

pub invariant_of-result : goal.invariant_of-result
invariant_of-result c = rw c.in_ok-asked.ensures (short_none c.args.ids)
