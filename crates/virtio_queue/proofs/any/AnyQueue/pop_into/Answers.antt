use Rattle.std.proofs.Common.{Err}
use Rattle.virtio_queue.specs.Available.{popped}
use Rattle.virtio_queue.specs.Popping.{MayWantChain}
use Rattle.virtio_queue.proofs.AnyLemmas.{answers_by_head}
use Rattle.virtio_queue.proofs.any.AnyQueue.pop_into.Goals as goal

pub returns-in-Err-clause-popped : goal.returns-in-Err-clause-popped
returns-in-Err-clause-popped g c =
    let m = g.M.GuestMemory.memory c.args.mem.now in
    let host = c.args.host.now in
    let q = c.in-Split.queue.state in
    rw c.in-Split.is (answers_by_head (MayWantChain m host q) (popped m host q) (Err c.in-Err.error)
    c.in-Err.ensures.popped)
