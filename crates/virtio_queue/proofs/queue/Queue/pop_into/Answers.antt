use Rattle.virtio_queue.specs.Popping.{popping}
use Rattle.virtio_queue.proofs.StillLemmas.{none_held, pops_held, still}
use Rattle.virtio_queue.proofs.queue.Queue.pop_into.Goals as goal

pub returns-clause-popped : goal.returns-clause-popped
returns-clause-popped g c =
    let m = g.M.GuestMemory.memory c.args.mem.now in
    let host = c.args.host.now in
    let q = c.args.self.now.state in
    pops_held m host q c.pop_from-found.result
    (still m host _ _ (λ p found new looked. looked) (popping q) c.pop_from-found.new.looks c.pop_from-found.result
    c.pop_from-found.ensures.looks)

pub returns-clause-none : goal.returns-clause-none
returns-clause-none g c is =
    let m = g.M.GuestMemory.memory c.args.mem.now in
    let (ready, looked) = c.pop_from-found.ensures.none is in
    none_held m c.args.host.now c.args.self.now.state ready looked.0
