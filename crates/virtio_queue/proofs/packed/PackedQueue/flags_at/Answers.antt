use Rattle.virtio_queue.specs.PackedCopies.{flags_in}
use Rattle.virtio_queue.proofs.StillLemmas.{still}
use Rattle.virtio_queue.proofs.packed.PackedQueue.flags_at.Goals as goal

pub returns : goal.returns
returns g c = still (g.M.GuestMemory.memory c.args.mem.now) c.args.host.now _ _ (λ p found new looked. looked)
    (flags_in c.args.self.now.state c.args.slot) c.flags_at_from.new.looks
    c.flags_at_from.result c.flags_at_from.ensures
