use Rattle.std.proofs.Common.{◌≡◌, Some, subst}
use Rattle.vhost_backend.proofs.QueueLemmas.{short_set}
use Rattle.vhost_backend.specs.Block.{Short}
use Rattle.vhost_backend.specs.declared.block_queue.Asked.{Asked}
use Rattle.vhost_backend.proofs.block_queue.BlockQueue.put_asked.Goals as goal

pub invariant_of-self : goal.invariant_of-self
invariant_of-self c = c.self.invariant

pub invariant_of-self-2 : goal.invariant_of-self-2
invariant_of-self-2 c = short_set c.self.inside.asked.items c.from.result (Some c.args.asked) c.self.invariant (λ a is.
    let same : c.args.asked ≡ a = cc in subst (λ (x : Asked). Short x.request) same c.requires)
