use Rattle.std.proofs.Common.{refl}
use Rattle.virtio_queue.proofs.looks.LentLooks.word.Goals as goal

pub returns : goal.returns
returns g c = (rw c.near-hinted.ensures at c.load_word-found.ensures, refl)
