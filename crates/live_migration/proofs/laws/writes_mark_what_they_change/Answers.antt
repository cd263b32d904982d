use Rattle.std.proofs.Common.{refl}
use Rattle.live_migration.proofs.MarkingLemmas.{own_part, own_place, own_reached, writes_mark}
use Rattle.live_migration.proofs.laws.writes_mark_what_they_change.Goals as goal

pub returns : goal.returns
returns g c = record {
  changes = writes_mark c.mark_keeps_shape.ensures.shape c.marked_bytes_are_dirty.ensures.before
      c.marked_bytes_are_dirty.ensures.marked g.B.Bitmap.marks g.B.ExactBitmap.pages g.met.B.ExactBitmap.marks_pages
      c.mark_is_by_bytes.ensures.empty;
  accesses = own_reached;
  stores = own_place;
  blocks = λ block offset size fits. record { bitmap = refl; fits = fits };
  parts = own_part;
}
