use Rattle.virtio_queue.specs.PackedCopies.{copied, copying}
use Rattle.virtio_queue.proofs.StillLemmas.{still}
use Rattle.virtio_queue.proofs.packed.PackedQueue.next_copies.Goals as goal

pub returns-clause-copies : goal.returns-clause-copies
returns-clause-copies g c = still (g.M.GuestMemory.memory c.args.mem.now) c.args.host.now _ _
    (λ p found new looked. looked) (copying c.args.self.now.state) c.next_copies_from-found.new.looks
    (copied c.next_copies_from-found.result c.next_copies_from-found.new.list.items)
    c.next_copies_from-found.ensures.looks
