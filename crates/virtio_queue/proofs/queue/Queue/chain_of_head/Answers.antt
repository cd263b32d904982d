use Rattle.virtio_queue.specs.Again.{chain_of_head}
use Rattle.virtio_queue.proofs.StillLemmas.{still}
use Rattle.virtio_queue.proofs.queue.Queue.chain_of_head.Goals as goal

pub returns : goal.returns
returns g c = still (g.M.GuestMemory.memory c.args.mem.now) c.args.host.now _ _ (λ p found new looked. looked)
    (chain_of_head c.args.self.now.state c.args.head) c.chain_of_head_from.new.looks c.chain_of_head_from.result
    c.chain_of_head_from.ensures
