-- Which pages are marked in the log: those that a request's parts and its status may have changed, and those of the ring.
use Rattle.std.specs.Prelude.{◌≡◌, ◌⊎◌, ℕ, ◌+◌, ◌*◌, ◌≤◌, ◌==◌, if◌then◌else◌, List, [], ◌∷◌, length, flat_map, Option, Some, None}
use Rattle.vm_memory_device.specs.declared.chain.Segment.{Segment}
use Rattle.virtio_queue.specs.Looks.{Given, Tree, gives, keeps, loads, room, row, spot, stores, takes, word, writes}
use Rattle.virtio_queue.specs.Notification.{kick_offset}
use Rattle.virtio_queue.specs.Rings.{slot}
use Rattle.virtio_queue.specs.declared.any.AnyQueue.{AnyQueue}
use Rattle.virtio_queue.specs.declared.any.AnyQueue.TheVariants.{Split, Packed}
use Rattle.vhost_backend.specs.RingMemory.{MemoryStep, Returned, marks, marks_ring}
use Rattle.vhost_backend.specs.declared.pieces.Piece.{Piece}

-- all writable bytes of a chain
abbrev pub segment_marks : Segment → List Piece
segment_marks s = if s.writable then record { base = s.addr.0; offset = 0; len = s.len } ∷ [] else []

abbrev pub chain_marks : List Segment → List Piece
chain_marks segments = flat_map segment_marks segments

-- a mark of a used ring, and one of the same bytes from where its writes are logged, if that is elsewhere
abbrev pub logged_at : Option ℕ → Piece → List Piece
logged_at None m = m ∷ []
logged_at (Some log) m = m ∷ (if log == m.base then [] else record m { base = log } ∷ [])

-- the entry of the next return, and what publishes it. Those of a packed ring lie among its descriptors
abbrev pub return_marks : AnyQueue → Option ℕ → List Piece
return_marks (Split q) log = flat_map (logged_at log)
    (record { base = q.state.used_ring; offset = 4 + 8 * slot q.state.size q.state.next_used; len = 8 }
    ∷ record { base = q.state.used_ring; offset = 2; len = 2 } ∷ [])
return_marks (Packed q) log = record { base = q.state.desc_ring; offset = 16 * q.state.next_used.slot + 8; len = 6 }
    ∷ record { base = q.state.desc_ring; offset = 16 * q.state.next_used.slot + 14; len = 2 } ∷ []

-- what asks the driver to notify
abbrev pub asking_marks : AnyQueue → Option ℕ → List Piece
asking_marks (Split q) log = logged_at log (record { base = q.state.used_ring; offset = kick_offset q.state; len = 2 })
asking_marks (Packed q) log = flat_map (logged_at log) (record { base = q.state.device_area; offset = 0; len = 2 }
    ∷ record { base = q.state.device_area; offset = 2; len = 2 } ∷ [])

-- these marks are made, one after another
abbrev pub Marks : {H : Type 0} → (H → (s : MemoryStep) → Returned s → H → Type 0) → List Piece → H → H → Type 0
Marks step [] old new = new ≡ old
Marks {H} step (m ∷ ms) old new = (mid : H) × step old (marks m.base m.offset m.len) tt mid × Marks step ms mid new

-- these marks of a ring are made, one after another
abbrev pub MarksRing : {H : Type 0} → (H → (s : MemoryStep) → Returned s → H → Type 0) → List Piece → H → H → Type 0
MarksRing step [] old new = new ≡ old
MarksRing {H} step (m ∷ ms) old new =
    (mid : H) × step old (marks_ring m.base m.offset m.len) tt mid × MarksRing step ms mid new

-- N bytes at an address lie in one of these marks
abbrev pub Covered : List Piece → ℕ → ℕ → Type 0
Covered [] a n = ⊥
Covered (m ∷ ms) a n = ((m.base + m.offset ≤ a) × (a + n ≤ m.base + m.offset + m.len)) ⊎ Covered ms a n

-- N bytes at an address lie so far after one address, and in one of these marks as far after another one
abbrev pub CoveredFrom : ℕ → ℕ → List Piece → ℕ → ℕ → Type 0
CoveredFrom from to ms a n = (k : ℕ) × (a ≡ from + k) × Covered ms (to + k) n

-- whatever its looks find, what a call stores is so: an address and a number of bytes
abbrev pub Stores : {T : Type 0} → (ℕ → ℕ → Type 0) → Tree T → Type 0
Stores so (gives r) = Unit {0}
Stores so (takes (word base offset) k) = (v : ℕ) → Stores so (k v)
Stores so (takes (row table i) k) = (v : Given (row table i)) → Stores so (k v)
Stores so (takes (room base offset n) k) = (v : ℕ) → Stores so (k v)
Stores so (takes (spot access base offset) k) = (v : Given (spot access base offset)) → Stores so (k v)
Stores so (takes (writes base offset bytes) k) = so (base + offset) (length bytes) × Stores so (k tt)
Stores so (takes (stores base offset value) k) = so (base + offset) 2 × Stores so (k tt)
Stores so (takes (loads base offset) k) = (v : ℕ) → Stores so (k v)
Stores so (keeps t) = Stores so t
