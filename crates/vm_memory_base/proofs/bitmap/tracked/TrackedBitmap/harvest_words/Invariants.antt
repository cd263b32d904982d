use Rattle.std.proofs.Common.{◌≡◌, ℕ, ◌<◌, length, take, slice_index}
use Rattle.vm_memory_base.specs.Paging.{count_of}
use Rattle.vm_memory_base.specs.Tracked.{after_harvests, IsWordBelow}
use Rattle.vm_memory_base.proofs.bitmap.tracked.TrackedBitmap.harvest_words.Given as goal

abbrev pub invariant-loop-word : goal.invariant-loop-word
invariant-loop-word l =
    (l.seat.table_id ≡ l.initial.seat.table_id) × (l.seat.id ≡ l.initial.seat.id)
    × (l.round ≡ l.initial.round) × (length l.pages ≡ length l.initial.pages)
    × (l.seat.me.0 ≡ after_harvests l.round (take l.word l.pages) l.initial.seat.me.0)
    × ((k : ℕ) → k < l.word → IsWordBelow (count_of l.self.paging) k (slice_index l.pages k))
