use Rattle.std.proofs.Common.{refl}
use Rattle.virtio_queue.proofs.PackedLawLemmas.{has_false, has_true, twice_not}
use Rattle.virtio_queue.proofs.packed_laws.packed_flags_are_those_of_histories.Goals as goal

pub returns : goal.returns
returns c = record {
  available = λ flags c marks. rw (has_true c.avail, has_true c.used, marks.0, marks.1) refl;
  later = λ flags c marks. rw (has_false c.avail, has_false c.used, twice_not c.used, marks.0, marks.1) refl;
  used = λ flags c marks. rw (has_true c.avail, has_true c.used, marks.0, marks.1) refl;
  used_later = λ flags c marks. rw (has_false c.avail, has_false c.used, marks.0, marks.1) refl;
}
