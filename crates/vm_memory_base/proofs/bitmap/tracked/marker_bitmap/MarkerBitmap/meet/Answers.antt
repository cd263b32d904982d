use Rattle.std.proofs.Common.{◌≡◌, ℕ, ◌<◌, length, refl, subst}
use Rattle.std.specs.Int.{div_ceil}
use Rattle.vm_memory_base.specs.declared.bitmap.tracked.TrackedBitmap.{TrackedBitmap}
use Rattle.vm_memory_base.specs.Notes.{rounds_of}
use Rattle.vm_memory_base.specs.Paging.{count_of}
use Rattle.vm_memory_base.specs.Tracked.{seen_of}
use Rattle.vm_memory_base.proofs.bitmap.tracked.marker_bitmap.MarkerBitmap.meet.Goals as goal

pub returns-in-Some : goal.returns-in-Some
returns-in-Some c =
    rw c.in-Some.is (
      c.meet.new.marker,
      refl,
      c.meet.ensures.same.0,
      c.meet.ensures.same.1,
      c.meet.ensures.records.0,
      c.meet.ensures.records.1,
      subst
          (λ (b : TrackedBitmap).
          (word : ℕ) → word < div_ceil (count_of b.paging) 32
          → seen_of word c.meet.new.marker.seat.me.0 ≡ length (rounds_of word c.meet.new.harvester.seat.me.0.harvests))
          c.deref.ensures c.meet.ensures.seen,
    )
