-- Which markers and which harvester are those of a bitmap.
use Rattle.std.specs.Prelude.{◌≡◌, List, All, Option, MatchOption, ⊤}
use Rattle.vm_memory_base.specs.Markers.{AreNew, table_of, marker_table, harvester_table}
use Rattle.vm_memory_base.specs.MarkerBitmap.{held_of}
use Rattle.vm_memory_base.specs.declared.bitmap.tracked.Harvester.{Harvester}
use Rattle.vm_memory_base.specs.declared.bitmap.tracked.Marker.{Marker}
use Rattle.vm_memory_base.specs.declared.bitmap.tracked.TrackedBitmap.{TrackedBitmap}
use Rattle.vm_memory_base.specs.declared.bitmap.tracked.marker_bitmap.MarkerBitmap.{MarkerBitmap}

abbrev pub IsMarkerOf : Marker → TrackedBitmap → Type 0
IsMarkerOf marker bitmap = marker_table marker ≡ table_of bitmap

abbrev pub IsHarvesterOf : Harvester → TrackedBitmap → Type 0
IsHarvesterOf harvester bitmap = harvester_table harvester ≡ table_of bitmap

abbrev pub AreNewOf : List Marker → TrackedBitmap → Type 0
AreNewOf markers bitmap = AreNew (table_of bitmap) markers

-- a bitmap and a marker, until they are handed back, are this bitmap and one of its markers
abbrev pub IsHeldOf : TrackedBitmap → Option (TrackedBitmap × Marker) → Type 0
IsHeldOf bitmap held = MatchOption held ⊤ (λ h. (h.0 ≡ bitmap) × IsMarkerOf h.1 bitmap)

-- and so for each bitmap of a host
abbrev pub AreMarkersOf : TrackedBitmap → List MarkerBitmap → Type 0
AreMarkersOf bitmap bitmaps = All (λ b. IsHeldOf bitmap (held_of b)) bitmaps
