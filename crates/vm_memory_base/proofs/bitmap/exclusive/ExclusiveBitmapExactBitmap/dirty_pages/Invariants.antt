use Rattle.std.proofs.Common.{◌≡◌, ◌*◌}
use Rattle.vm_memory_base.specs.Flags.{flag}
use Rattle.vm_memory_base.proofs.FlagsLemmas.{dirty_by}
use Rattle.vm_memory_base.proofs.bitmap.exclusive.ExclusiveBitmapExactBitmap.dirty_pages.Given as goal

abbrev pub invariant-loop-k : goal.invariant-loop-k
invariant-loop-k l = l.pages.items ≡ dirty_by (flag l.fn.self.words.items) 0 (64 * l.k)
