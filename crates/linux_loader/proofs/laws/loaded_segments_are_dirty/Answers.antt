use Rattle.linux_loader.proofs.DirtyLemmas.{all_dirty}
use Rattle.linux_loader.proofs.laws.loaded_segments_are_dirty.Goals as goal

pub returns : goal.returns
returns g c m segments image after old new loads =
    let f = g.F.ReadVolatile in
    (all_dirty g.B.Bitmap.marks g.B.ExactBitmap.pages g.met.B.ExactBitmap.marks_pages
    c.mark_is_by_bytes.ensures.empty c.mark_keeps_shape.ensures.shape c.marked_bytes_are_dirty.ensures.before
    c.marked_bytes_are_dirty.ensures.marked m g.F.KernelImage.bytes f.source f.reads f.known_left segments
    (image, old) (after, new) loads).1
