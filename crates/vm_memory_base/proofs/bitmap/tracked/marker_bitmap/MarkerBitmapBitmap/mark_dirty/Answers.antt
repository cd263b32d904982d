use Rattle.std.proofs.Common.{refl, subst}
use Rattle.vm_memory_base.specs.declared.bitmap.tracked.TrackedBitmap.{TrackedBitmap}
use Rattle.vm_memory_base.specs.Markers.{known_to}
use Rattle.vm_memory_base.specs.Tracked.{MarksRange}
use Rattle.vm_memory_base.proofs.bitmap.tracked.marker_bitmap.MarkerBitmapBitmap.mark_dirty.Goals as goal

pub returns-in-Some : goal.returns-in-Some
returns-in-Some c =
    rw c.in-Some.is (
      c.mark.new.marker,
      refl,
      c.mark.ensures.same,
      subst
          (λ (b : TrackedBitmap).
          MarksRange b.paging c.args.offset c.args.len (known_to c.in-Some.held.marker) (known_to c.mark.new.marker))
          c.deref.ensures c.mark.ensures.marks,
    )
