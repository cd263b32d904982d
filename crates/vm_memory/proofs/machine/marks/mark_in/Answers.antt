use Rattle.std.proofs.Common.{◌≡◌, ◌+◌, ◌^◌, ◌≤◌, true, subst}
use Rattle.vm_memory_guest.specs.Dirt.{with_pages}
use Rattle.vm_memory_guest.specs.Window.{MarksWindow, Window}
use Rattle.vm_memory.specs.Copy.{has_block, ends_inside}
use Rattle.vm_memory.specs.Parts.{range_window}
use Rattle.vm_memory.proofs.CopyLemmas.{found}
use Rattle.vm_memory.proofs.MarkLemmas.{dirtied_cells-range, range_marked}
use Rattle.vm_memory.proofs.machine.marks.mark_in.Goals as goal

pub returns-clause-marked : goal.returns-clause-marked
returns-clause-marked g c =
    let pages = g.B.ExactBitmap.pages in
    let marks = g.B.Bitmap.marks in
    let old = c.args.host.now in
    let new = c.mark_window.new.self in
    let range = c.args.range in
    let is = found (ends_inside old range) c.in-Some.window (range_window range) c.in-Some.ensures.value in
    let there : has_block old range ≡ true = rw (← c.has_block.ensures.value) c.if-not-has_block.false in
    let short = subst (λ (v : Window). v.offset + v.size ≤ 2 ^ 64) is.1 c.in-Some.ensures.short in
    let marked = subst (λ (v : Window). MarksWindow marks v old new) is.1 c.mark_window.ensures.marks in
    let by_bytes = c.mark_is_by_bytes.ensures in
    range_marked (with_pages pages old) (with_pages pages new) range there is.0
    (dirtied_cells-range marks pages g.met.B.ExactBitmap.marks_pages by_bytes.empty by_bytes.each range old new short
    marked)
