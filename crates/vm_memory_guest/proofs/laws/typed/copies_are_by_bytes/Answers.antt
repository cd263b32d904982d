use Rattle.vm_memory_guest.proofs.CopyLaws.{copied-cells}
use Rattle.vm_memory_guest.proofs.laws.typed.copies_are_by_bytes.Goals as goal

pub returns : goal.returns
returns g c = copied-cells g.B.Bitmap.marks g.B.ExactBitmap.pages g.met.B.ExactBitmap.marks_pages
    c.mark_is_by_bytes.ensures.empty c.mark_is_by_bytes.ensures.each
