use Rattle.vm_memory_guest.proofs.MarkLaws.{tables-Writes, shape_of-Writes, length_bitmaps-Writes, Writes-append}
use Rattle.vm_memory_guest.proofs.laws.effects.writes_keep_shapes.Goals as goal

pub returns : goal.returns
returns g c = record {
  tables = tables-Writes g.B.Bitmap.marks;
  shape = shape_of-Writes g.B.Bitmap.marks;
  bitmaps = length_bitmaps-Writes g.B.Bitmap.marks;
  joined = Writes-append g.B.Bitmap.marks;
}
