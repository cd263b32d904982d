use Rattle.std.proofs.Common.{◌≡◌}
use Rattle.vm_memory_base.proofs.BitmapLemmas.{dirty_below}
use Rattle.vm_memory_base.proofs.bitmap.ExactBitmap.dirty_pages.Given as goal

abbrev pub invariant-loop-page : goal.invariant-loop-page
invariant-loop-page g l = l.dirty.items ≡ dirty_below (g.Self.ExactBitmap.pages l.self) l.page
