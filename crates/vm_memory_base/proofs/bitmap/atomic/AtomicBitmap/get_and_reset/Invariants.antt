use Rattle.std.proofs.Common.{◌≡◌, ◌≤◌}
use Rattle.std.specs.Vec.{vec_len, vec_capacity}
use Rattle.vm_memory_base.specs.Paging.{count_of}
use Rattle.vm_memory_base.specs.Words.{AreWithin}
use Rattle.vm_memory_base.proofs.bitmap.atomic.AtomicBitmap.get_and_reset.Given as goal

abbrev pub invariant-loop-k : goal.invariant-loop-k
invariant-loop-k l =
    (vec_len l.words ≡ l.k) × (l.k-end ≤ vec_capacity l.words) × AreWithin (count_of l.self.paging) l.words.items
