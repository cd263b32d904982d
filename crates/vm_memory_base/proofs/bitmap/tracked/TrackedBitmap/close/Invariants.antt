use Rattle.std.proofs.Common.{◌≡◌, ℕ, ◌<◌, length}
use Rattle.std.specs.Prelude.{slice_index}
use Rattle.vm_memory_base.specs.Tracked.{set_pages}
use Rattle.vm_memory_base.proofs.bitmap.tracked.TrackedBitmap.close.Given as goal

abbrev pub invariant-loop-word : goal.invariant-loop-word
invariant-loop-word l =
    (length l.pages.items ≡ l.words)
    × ((k : ℕ) → k < l.word → slice_index l.pages.items k ≡ set_pages (slice_index l.closed.words.items k))
