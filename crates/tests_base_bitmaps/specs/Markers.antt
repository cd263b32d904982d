-- Which markers and which harvester are those of a bitmap.
use Rattle.std.specs.Prelude.{◌≡◌, ℕ, List, slice_index}
use Rattle.std.specs.Int.{bit_at}
use Rattle.vm_memory_base.specs.Markers.{AreNew, table_of, marker_table, known_to, harvester_table}
use Rattle.vm_memory_base.specs.Tracked.{new_marker}
use Rattle.vm_memory_base.specs.declared.bitmap.tracked.Harvester.{Harvester}
use Rattle.vm_memory_base.specs.declared.bitmap.tracked.Marker.{Marker}
use Rattle.vm_memory_base.specs.declared.bitmap.tracked.TrackedBitmap.{TrackedBitmap}

abbrev pub IsMarkerOf : Marker → TrackedBitmap → Type 0
IsMarkerOf marker bitmap = marker_table marker ≡ table_of bitmap

abbrev pub IsHarvesterOf : Harvester → TrackedBitmap → Type 0
IsHarvesterOf harvester bitmap = harvester_table harvester ≡ table_of bitmap

abbrev pub AreNewOf : List Marker → TrackedBitmap → Type 0
AreNewOf markers bitmap = AreNew (table_of bitmap) markers

-- one that has marked nothing yet
abbrev pub IsNewOf : Marker → TrackedBitmap → Type 0
IsNewOf marker bitmap = IsMarkerOf marker bitmap × (known_to marker ≡ new_marker (table_of bitmap).1)

-- no page is set in these words
abbrev pub HaveNoPage : List ℕ → Type 0
HaveNoPage words = (word page : ℕ) → bit_at (slice_index words word) page ≡ 1 → ⊥
