use Rattle.virtio_queue.specs.PackedPopping.{popping}
use Rattle.virtio_queue.proofs.PackedStillLemmas.{none_held, pops_held}
use Rattle.virtio_queue.proofs.StillLemmas.{still}
use Rattle.virtio_queue.proofs.packed.PackedQueue.pop_into.Goals as goal

pub returns-clause-popped : goal.returns-clause-popped
returns-clause-popped g c =
    let m = g.M.GuestMemory.memory c.args.mem.now in
    let host = c.args.host.now in
    let q = c.args.self.now.state in
    pops_held m host q c.pop_from-found.result
    (still m host _ _ (λ p found new looked. looked) (popping q) c.pop_from-found.new.looks c.pop_from-found.result
    c.pop_from-found.ensures.looks)

pub returns-clause-none : goal.returns-clause-none
returns-clause-none g c is =
    let m = g.M.GuestMemory.memory c.args.mem.now in
    let host = c.args.host.now in
    let q = c.args.self.now.state in
    none_held m host q c.pop_from-found.result (pops_held m host q c.pop_from-found.result
    (still m host _ _ (λ p found new looked. looked) (popping q) c.pop_from-found.new.looks c.pop_from-found.result
    c.pop_from-found.ensures.looks)) is
