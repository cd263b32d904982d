use Rattle.std.proofs.Common.{refl}
use Rattle.virtio_queue.proofs.StepLemmas.{spot_found}
use Rattle.virtio_queue.proofs.stores.WholeStoresHostMemory.spot.Goals as goal

pub returns-clause-step : goal.returns-clause-step
returns-clause-step g c = (rw c.near-hinted.ensures at c.window_at-found.ensures.window, refl)

pub returns-clause-found : goal.returns-clause-found
returns-clause-found g c =
    spot_found (g.M.GuestMemory.memory c.args.self.now.mem.now) c.args.host.now c.args.access c.args.base c.args.offset
    c.window_at-found.result (rw c.near-hinted.ensures at c.window_at-found.ensures.window) c.window_at-found.ensures.held
    c.window_at-found.ensures.word
