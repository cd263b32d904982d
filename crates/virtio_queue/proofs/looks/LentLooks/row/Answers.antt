use Rattle.std.proofs.Common.{refl}
use Rattle.virtio_queue.proofs.looks.LentLooks.row.Goals as goal

pub returns : goal.returns
returns g c = (rw c.near-hinted.ensures at c.descriptor_at-found.ensures, refl)
