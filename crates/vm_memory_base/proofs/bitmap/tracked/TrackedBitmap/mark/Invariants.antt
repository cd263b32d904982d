use Rattle.std.proofs.Common.{◌≡◌, ◌-◌, ◌≤◌}
use Rattle.vm_memory_base.specs.Markers.{marker_table, known_to}
use Rattle.vm_memory_base.specs.Tracked.{MarksPages}
use Rattle.vm_memory_base.proofs.bitmap.tracked.TrackedBitmap.mark.Given as goal

abbrev pub invariant-loop-page : goal.invariant-loop-page
invariant-loop-page l =
    (marker_table l.marker ≡ marker_table l.initial.marker)
    × MarksPages (l.page - l.first) l.first (known_to l.initial.marker) (known_to l.marker)
    × (l.page - l.first ≤ l.end - l.first)
