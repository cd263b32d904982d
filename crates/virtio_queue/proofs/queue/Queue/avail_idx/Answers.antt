use Rattle.virtio_queue.proofs.StillLemmas.{index_held}
use Rattle.virtio_queue.proofs.queue.Queue.avail_idx.Goals as goal

pub returns : goal.returns
returns g c =
    let q = c.args.self.now.state in
    let r = c.avail_idx_from-found in
    index_held (g.M.GuestMemory.memory c.args.mem.now) c.args.host.now _ _ (λ p found new looked. looked) q.avail_ring
    q.ready r.new.looks r.result r.ensures
