use Rattle.vm_memory_guest.proofs.FilledLaws.{all_leave}
use Rattle.vm_memory_guest.proofs.laws.transfers.filled_windows_are_dirty.Goals as goal

pub returns : goal.returns
returns g c ws source after old new whole =
    let r = g.S.ReadVolatile in
    (all_leave r.source r.reads g.B.Bitmap.marks g.B.ExactBitmap.pages g.met.B.ExactBitmap.marks_pages
    c.mark_is_by_bytes.ensures.empty c.mark_keeps_shape.ensures.shape c.marked_bytes_are_dirty.ensures.before
    c.marked_bytes_are_dirty.ensures.marked r.known_left ws (source, old) (after, new) whole).1
