use Rattle.std.proofs.Common.{◌≡◌, None}
use Rattle.vhost_backend.proofs.QueueLemmas.{short_set}
use Rattle.vhost_backend.proofs.block_queue.BlockQueue.forget.Goals as goal

pub invariant_of-self : goal.invariant_of-self
invariant_of-self c = short_set c.self.inside.asked.items c.from.result c.take.new.self c.self.invariant (λ a is.
    let none : c.take.new.self ≡ None = c.take.ensures.after in absurd (cc))
