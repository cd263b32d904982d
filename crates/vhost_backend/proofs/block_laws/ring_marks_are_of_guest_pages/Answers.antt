use Rattle.vhost_backend.proofs.RingMarkLemmas.{ring_bytes_marked}
use Rattle.vhost_backend.proofs.block_laws.ring_marks_are_of_guest_pages.Goals as goal

pub returns : goal.returns
returns g c = ring_bytes_marked g.B.Bitmap.marks
