-- What contracts see of a `TrackedBitmap`, its markers and its harvester.
use Rattle.std.specs.Prelude.{◌≡◌, ℕ, List, All, length}
use Rattle.atomic_table.specs.Seated.{TableId}
use Rattle.vm_memory_base.specs.Notes.{rounds_of}
use Rattle.vm_memory_base.specs.Paging.{count_of}
use Rattle.vm_memory_base.specs.Tracked.{new_marker}
use Rattle.vm_memory_base.specs.declared.bitmap.paging.Paging.{Paging}
use Rattle.vm_memory_base.specs.declared.bitmap.tracked.Harvester.{Harvester}
use Rattle.vm_memory_base.specs.declared.bitmap.tracked.Marker.{Marker}
use Rattle.vm_memory_base.specs.declared.bitmap.tracked.TrackedBitmap.{TrackedBitmap}
use Rattle.vm_memory_base.specs.declared.bitmap.tracked.view.View.{View}

-- how many bytes it tracks, and the size of its pages
abbrev pub paging_of : TrackedBitmap → Paging
paging_of b = b.paging

-- the words of a bitmap with the number of its pages, and of which a marker and a harvester are
abbrev pub table_of : TrackedBitmap → TableId × ℕ
table_of b = (b.table.shared.table_id, count_of b.paging)

abbrev pub marker_table : Marker → TableId × ℕ
marker_table m = (m.seat.table_id, m.seat.me.0.count)

abbrev pub harvester_table : Harvester → TableId × ℕ
harvester_table h = (h.seat.table_id, h.seat.me.0.count)

-- what a marker knows, and a harvester
abbrev pub known_to : Marker → View
known_to m = m.seat.me.0

abbrev pub known_by : Harvester → View
known_by h = h.seat.me.0

-- how often a harvester harvested: the number of its notes of the first word
abbrev pub harvests_of : Harvester → ℕ
harvests_of h = length (rounds_of 0 (known_by h).harvests)

-- markers of this table that were just dealt
abbrev pub AreNew : TableId × ℕ → List Marker → Type 0
AreNew table markers = All (λ m. (marker_table m ≡ table) × (known_to m ≡ new_marker table.1)) markers
