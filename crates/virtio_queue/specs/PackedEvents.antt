-- Notifications of packed queues: the event suppression structures, of 4 bytes each. The first 16 bits are an offset
-- with its wrap counter, and the others are flags.
use Rattle.std.specs.Prelude.{◌≡◌, ℕ, ◌+◌, ◌-◌, ◌*◌, ◌%◌, nat_lt, nat_le, Bool, true, false, not, ◌==◌, ◌&&◌, ◌||◌, if◌then◌else◌, Option, Some, None, All, Contains, Result, Ok, Err, MatchBool, MatchResult}
use Rattle.vm_memory_base.specs.declared.iotlb.Permissions.TheVariants.{Read, Write}
use Rattle.vm_memory_guest.specs.Host.{Host}
use Rattle.vm_memory_guest.specs.Memory.{Memory}
use Rattle.vm_memory_guest.specs.Window.{Window, cells_of}
use Rattle.virtio_queue.specs.Fields.{stored_at, window_at, word_at, word_window, Refuses, StoresWord}
use Rattle.virtio_queue.specs.Looks.{MayWantAny, Tree, gives, if_ready, loads, setting, spot, stores, takes, word}
use Rattle.virtio_queue.specs.Packed.{PackedVirtqueue, of_bits, to_bits}
use Rattle.virtio_queue.specs.PackedRing.{has_next, is_available}
use Rattle.virtio_queue.specs.Rings.{and_then}
use Rattle.virtio_queue.specs.declared.error.QueueError.{QueueError}
use Rattle.virtio_queue.specs.declared.error.QueueError.TheVariants as errors
use Rattle.virtio_queue.specs.declared.packed.position.RingPosition.{RingPosition}
use Rattle.virtio_queue.specs.declared.packed.state.PackedState.{PackedState}

-- the flags: notify of each buffer, of none, or of the one at the offset. The highest value is reserved
abbrev pub is_disabled : ℕ → Bool
is_disabled flags = flags % 4 == 1

abbrev pub is_by_offset : ℕ → Bool
is_by_offset flags = flags % 4 == 2

-- positions count up to twice the size, and then from 0 again
abbrev pub count_of : ℕ → RingPosition → ℕ
count_of size p = if p.wrap then p.slot else size + p.slot

-- how many slots lie from a position up to the next one
abbrev pub slots_between : ℕ → ℕ → ℕ → ℕ
slots_between size i next = if nat_lt i next then next - i else 2 * size + next - i

-- whether a position is one of the n slots before the next one. An offset past the ring is taken for such
abbrev pub is_passed : ℕ → ℕ → RingPosition → RingPosition → Bool
is_passed size n next event = nat_le size event.slot
    || nat_le (slots_between size (count_of size event) (count_of size next)) n

module _ {B : Type 0} (m : Memory) (host : Host B) where
  -- whether the driver wants to know of the last n slots, by its flags. If it is not known how many are new, it does
  abbrev pub wants_by_offset : PackedState → ℕ → Result Bool QueueError
  wants_by_offset q n = and_then (word_at m host q.driver_area 0) (λ event.
      Ok (is_passed q.size n q.next_used (of_bits event)))

  abbrev pub wants_notification : PackedState → Option ℕ → Result Bool QueueError
  wants_notification q None = Ok true
  wants_notification q (Some n) = and_then (word_at m host q.driver_area 2) (λ flags.
      if q.event_idx_enabled && is_by_offset flags then wants_by_offset q n else Ok (not (is_disabled flags)))

  abbrev pub needs_notification : PackedVirtqueue → Result Bool QueueError
  needs_notification q =
      if q.state.ready then wants_notification q.state q.added else Err errors.QueueNotReady

-- the queue after it was asked whether the driver needs a notification: from now on slots count anew
abbrev pub after_asked : PackedVirtqueue → Result Bool QueueError → PackedVirtqueue
after_asked q (Ok needs) = record { state = q.state; added = Some 0 }
after_asked q (Err e) = q

-- what a device writes to be notified of the next chain: with event indices, of the slot at the offset, and else of
-- each
abbrev pub kick_flags : PackedState → ℕ
kick_flags q = if q.event_idx_enabled then 2 else 0

-- where it writes the offset and the flags, and where it finds the flags of the next chain
abbrev pub kick_places : {B : Type 0} → Memory → Host B → PackedState → Result (Window × Window × Window) QueueError
kick_places m host q = and_then (word_window m host q.device_area 0) (λ offset.
    and_then (word_window m host q.device_area 2) (λ flags.
    and_then (window_at m host q.desc_ring (16 * q.next_avail.slot + 14) Read) (λ next.
    Ok (offset, flags, next))))

-- ---- step by step

-- whether the driver wants to know: a look at its flags, and then at its offset, if the flags say that it waits for one
abbrev pub by_flags : PackedState → ℕ → ℕ → Tree Bool
by_flags q n flags = if q.event_idx_enabled && is_by_offset flags
    then takes (word q.driver_area 0) (λ event. gives (Ok (is_passed q.size n q.next_used (of_bits event))))
    else gives (Ok (not (is_disabled flags)))

abbrev pub wanting : PackedState → Option ℕ → Tree Bool
wanting q None = gives (Ok true)
wanting q (Some n) = takes (word q.driver_area 2) (by_flags q n)

abbrev pub needing : PackedVirtqueue → Tree Bool
needing q = if_ready q.state.ready (wanting q.state q.added)

-- the driver is asked to notify: the offset, then the flags, and after that the device looks at the flags of the next
-- slot
abbrev pub enabling : PackedState → Tree Bool
enabling q = if_ready q.ready (takes (spot Write q.device_area 0) (λ _. takes (spot Write q.device_area 2) (λ _.
    takes (spot Read q.desc_ring (16 * q.next_avail.slot + 14)) (λ _.
    takes (stores q.device_area 0 (to_bits q.next_avail)) (λ _. takes (stores q.device_area 2 (kick_flags q)) (λ _.
    takes (loads q.desc_ring (16 * q.next_avail.slot + 14)) (λ flags.
    gives (Ok (is_available flags q.next_avail.wrap)))))))))

-- the driver is asked not to notify
abbrev pub disabling : PackedState → Tree (Unit {0})
disabling q = if_ready q.ready (setting q.device_area 2 1)

-- ---- memory that nobody else writes

-- no byte is in both windows
abbrev pub AreApart : Window → Window → Type 0
AreApart w v = All (λ c. Contains (cells_of v) c → ⊥) (cells_of w)

-- the driver finds in memory which slot the device waits for. Where an IOMMU leads both fields to the same bytes, it finds
-- the one that was written last
abbrev pub Offers : {B : Type 0} → Memory → Host B → PackedState → Type 0
Offers m host q = (w v : Window) → word_window m host q.device_area 0 ≡ Ok w
    → word_window m host q.device_area 2 ≡ Ok v → AreApart w v
    → stored_at m host q.device_area 0 ≡ Ok (to_bits q.next_avail)

-- what a device waits for: the driver finds in memory that it has to notify, and of which slot, and has made no chain
-- available beyond those that were popped
pub record Waits {B : Type 0} (m : Memory) (host : Host B) (q : PackedState) : Type 0 where
  pub asks : stored_at m host q.device_area 2 ≡ Ok (kick_flags q)
  pub offers : Offers m host q
  pub none : has_next m host q ≡ Ok false

module _ {B : Type 0} (marks : B → ℕ → ℕ → B → Type 0) (m : Memory) (q : PackedState) where
  -- the offset was written, and then the flags, and then whether there is a chain by now is returned. Or one of the
  -- three was refused, and nothing changed
  abbrev pub Enables : Host B → Result Bool QueueError → Host B → Type 0
  Enables old answer new = MatchResult answer
      (λ more. (mid : Host B) × StoresWord marks m q.device_area 0 (to_bits q.next_avail) old (Ok tt) mid
      × StoresWord marks m q.device_area 2 (kick_flags q) mid (Ok tt) new × (has_next m new q ≡ Ok more))
      (λ e. Refuses (MayWantAny m old (enabling q)) (kick_places m old q) e × (new ≡ old))

  -- a queue that is not ready is refused, and nothing changes
  abbrev pub EnablesIfReady : Host B → Result Bool QueueError → Host B → Type 0
  EnablesIfReady old answer new =
      MatchBool q.ready (Enables old answer new) ((answer ≡ Err errors.QueueNotReady) × (new ≡ old))

  -- the driver is asked not to notify, by the flags
  abbrev pub Disables : Host B → Result (Unit {0}) QueueError → Host B → Type 0
  Disables old answer new = MatchBool q.ready (StoresWord marks m q.device_area 2 1 old answer new)
      ((answer ≡ Err errors.QueueNotReady) × (new ≡ old))
