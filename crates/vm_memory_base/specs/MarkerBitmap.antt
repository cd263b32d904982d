-- What contracts see of a `MarkerBitmap`.
use Rattle.std.specs.Prelude.{◌≡◌, ℕ, ◌/◌, ◌<◌, ◌≤◌, Bool, false, length, Option, Some, None, option_map}
use Rattle.std.specs.Int.{div_ceil}
use Rattle.vm_memory_base.specs.Markers.{paging_of, marker_table, harvester_table, known_to, known_by}
use Rattle.vm_memory_base.specs.Notes.{rounds_of}
use Rattle.vm_memory_base.specs.Paging.{page_size_of, count_of}
use Rattle.vm_memory_base.specs.Tracked.{MarksRange, HasSameRecords, seen_of}
use Rattle.vm_memory_base.specs.declared.bitmap.tracked.TrackedBitmap.{TrackedBitmap}
use Rattle.vm_memory_base.specs.declared.bitmap.tracked.Marker.{Marker}
use Rattle.vm_memory_base.specs.declared.bitmap.tracked.Harvester.{Harvester}
use Rattle.vm_memory_base.specs.declared.bitmap.tracked.marker_bitmap.MarkerBitmap.{MarkerBitmap}

-- the bitmap and the marker, until they are handed back
abbrev pub held_of : MarkerBitmap → Option (TrackedBitmap × Marker)
held_of b = option_map (λ h. (h.bitmap.value, h.marker)) b.held

-- a mark is a mark by its marker. If there is none, nothing is marked
abbrev pub MarksHeld : Option (TrackedBitmap × Marker) → ℕ → ℕ → Option (TrackedBitmap × Marker) → Type 0
MarksHeld None offset len new = new ≡ None
MarksHeld (Some h) offset len new =
    (m : Marker) × (new ≡ Some (h.0, m)) × (marker_table m ≡ marker_table h.1)
    × MarksRange (paging_of h.0) offset len (known_to h.1) (known_to m)

-- a byte past the last page is reported clean. If there is no marker, each is
abbrev pub TellsHeld : Option (TrackedBitmap × Marker) → ℕ → Bool → Type 0
TellsHeld None offset told = told ≡ false
TellsHeld (Some h) offset told = count_of (paging_of h.0) ≤ offset / page_size_of (paging_of h.0) → told ≡ false

-- the marker meets the harvester. If there is none, nothing is changed
abbrev pub Meets : Option (TrackedBitmap × Marker) → Harvester
    → Option (TrackedBitmap × Marker) → Harvester → Type 0
Meets None harvester new after = (new ≡ None) × (after ≡ harvester)
Meets (Some h) harvester new after =
    (m : Marker) × (new ≡ Some (h.0, m)) × (marker_table m ≡ marker_table h.1)
    × (harvester_table after ≡ harvester_table harvester)
    × HasSameRecords (known_to h.1) (known_to m) × HasSameRecords (known_by harvester) (known_by after)
    × ((word : ℕ) → word < div_ceil (count_of (paging_of h.0)) 32
    → seen_of word (known_to m) ≡ length (rounds_of word (known_by after).harvests))
