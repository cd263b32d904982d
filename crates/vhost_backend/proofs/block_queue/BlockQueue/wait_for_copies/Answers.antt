use Rattle.std.proofs.Common.{Ok, true}
use Rattle.virtio_queue.specs.PackedCopies.{copied}
use Rattle.vhost_backend.specs.Flight.{found_in}
use Rattle.vhost_backend.proofs.block_queue.BlockQueue.wait_for_copies.Goals as goal

pub returns-in-Ok-true-clause-waits : goal.returns-in-Ok-true-clause-waits
returns-in-Ok-true-clause-waits g c u k is packed = let found = c.find_copies-found in (
  Ok true,
  c.ask.new.host,
  (rw c.in-Ok-true.field-0-test at c.in-Ok-true.ensures.asks),
  (
    copied found.result (found_in found.new.self.flight.packed),
    found.new.self,
    found.new.host,
    found.ensures.finds u k is packed,
    c.after_copies.ensures.after,
  ),
)
