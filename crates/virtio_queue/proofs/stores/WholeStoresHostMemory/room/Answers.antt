use Rattle.std.proofs.Common.{refl}
use Rattle.virtio_queue.proofs.StepLemmas.{room_found}
use Rattle.virtio_queue.proofs.stores.WholeStoresHostMemory.room.Goals as goal

pub returns-clause-step : goal.returns-clause-step
returns-clause-step g c = (rw c.near-hinted.ensures at c.room_at-found.ensures.room, refl)

pub returns-clause-found : goal.returns-clause-found
returns-clause-found g c =
    room_found (g.M.GuestMemory.memory c.args.self.now.mem.now) c.args.host.now c.args.base c.args.offset c.args.size
    c.room_at-found.result (rw c.near-hinted.ensures at c.room_at-found.ensures.room)
