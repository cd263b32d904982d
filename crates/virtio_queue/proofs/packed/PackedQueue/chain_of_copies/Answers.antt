use Rattle.virtio_queue.specs.Again.{chain_of_copies}
use Rattle.virtio_queue.proofs.StillLemmas.{still}
use Rattle.virtio_queue.proofs.packed.PackedQueue.chain_of_copies.Goals as goal

pub returns : goal.returns
returns g c = still (g.M.GuestMemory.memory c.args.mem.now) c.args.host.now _ _ (λ p found new looked. looked)
    (chain_of_copies c.args.self.now.state c.args.descriptors.now) c.chain_of_copies_from.new.looks
    c.chain_of_copies_from.result c.chain_of_copies_from.ensures
