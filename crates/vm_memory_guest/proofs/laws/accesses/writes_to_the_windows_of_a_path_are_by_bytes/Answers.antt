use Rattle.vm_memory_guest.proofs.DirtLaws.{after_write-AreWindows}
use Rattle.vm_memory_guest.proofs.laws.accesses.writes_to_the_windows_of_a_path_are_by_bytes.Goals as goal

pub returns : goal.returns
returns g c =
    after_write-AreWindows g.B.Bitmap.marks g.B.ExactBitmap.pages g.met.B.ExactBitmap.marks_pages
    c.mark_is_by_bytes.ensures.empty c.mark_is_by_bytes.ensures.each
