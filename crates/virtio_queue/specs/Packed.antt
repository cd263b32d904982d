-- Packed queues: where each side stands in the ring, and what a queue keeps outside guest memory.
use Rattle.std.specs.Prelude.{◌≡◌, ℕ, ◌+◌, ◌-◌, ◌*◌, ◌%◌, ◌/◌, ◌^◌, ◌≤◌, Bool, true, false, not, ◌==◌, ◌&&◌, nat_lt, nat_le, if◌then◌else◌, Option, Some, None, Result, Ok, Err, IsTrue}
use Rattle.virtio_queue.specs.declared.error.QueueError.{QueueError}
use Rattle.virtio_queue.specs.declared.error.QueueError.TheVariants.{InvalidMaxSize, InvalidSize, InvalidDescTableAlign, InvalidAvailRingAlign, InvalidUsedRingAlign, InvalidAvailRingIndex}
use Rattle.virtio_queue.specs.declared.packed.position.RingPosition.{RingPosition}
use Rattle.virtio_queue.specs.declared.packed.state.PackedState.{PackedState}

-- a size is 1 to 32768, and need not be a power of two
abbrev pub is_packed_size : ℕ → Bool
is_packed_size n = nat_lt 0 n && nat_le n (2 ^ 15)

-- ---- positions

-- where a ring begins: at its first slot, with a wrap counter of 1
abbrev pub beginning : RingPosition
beginning = record { slot = 0; wrap = true }

-- whether two wrap counters are the same
abbrev pub is_same : Bool → Bool → Bool
is_same true wrap = wrap
is_same false wrap = not wrap

-- the position n slots on, at most the size: past the end the wrap counter flips
abbrev pub moved : ℕ → RingPosition → ℕ → RingPosition
moved size p n = if nat_lt (p.slot + n) size then record { slot = p.slot + n; wrap = p.wrap }
    else record { slot = p.slot + n - size; wrap = not p.wrap }

-- the slot after one, in a ring of N slots
abbrev pub slot_after : ℕ → ℕ → ℕ
slot_after size i = if nat_lt (i + 1) size then i + 1 else 0

-- how many slots are out: those of chains that were popped and not returned
abbrev pub slots_out : ℕ → RingPosition → RingPosition → ℕ
slots_out size avail used =
    if is_same avail.wrap used.wrap then avail.slot - used.slot else size + avail.slot - used.slot

-- whether a device can stand so: both slots are in the ring, and the size is not passed by what is out
abbrev pub are_positions : ℕ → RingPosition → RingPosition → Bool
are_positions size avail used = nat_lt avail.slot size && nat_lt used.slot size
    && (if is_same avail.wrap used.wrap then nat_le used.slot avail.slot else nat_le avail.slot used.slot)

-- a position as a number of 16 bits: the slot, and the wrap counter in bit 15
abbrev pub to_bits : RingPosition → ℕ
to_bits p = p.slot % 2 ^ 15 + (if p.wrap then 2 ^ 15 else 0)

abbrev pub of_bits : ℕ → RingPosition
of_bits n = record { slot = n % 2 ^ 15; wrap = nat_le (2 ^ 15) n }

-- ---- queues

-- a queue: its state, and how many slots were used since it was last asked whether the driver has to be notified, if
-- this is known. Of 65536 and more it is 65536
pub record PackedVirtqueue : Type 0 where
  pub state : PackedState
  pub added : Option ℕ

-- the state of a queue that nobody has set up
abbrev pub new_state : ℕ → PackedState
new_state max_size = record {
  max_size = max_size;
  size = max_size;
  ready = false;
  desc_ring = 0;
  driver_area = 0;
  device_area = 0;
  next_avail = beginning;
  next_used = beginning;
  event_idx_enabled = false;
}

abbrev pub new_queue : ℕ → PackedVirtqueue
new_queue max_size = record { state = new_state max_size; added = Some 0 }

-- a queue with another state
abbrev pub with_state : PackedVirtqueue → PackedState → PackedVirtqueue
with_state q state = record { state = state; added = q.added }

-- a queue that pops its next chain at another place
abbrev pub with_next_avail : PackedVirtqueue → RingPosition → PackedVirtqueue
with_next_avail q next = with_state q (record q.state { next_avail = next })

-- a queue of another size, and one that stands at other positions. Which slots were used before is not known then
abbrev pub with_size : PackedVirtqueue → ℕ → PackedVirtqueue
with_size q size = record {
  state = record q.state { size = size; next_avail = beginning; next_used = beginning };
  added = None;
}

abbrev pub with_positions : PackedVirtqueue → RingPosition → RingPosition → PackedVirtqueue
with_positions q avail used = record { state = record q.state { next_avail = avail; next_used = used }; added = None }

-- what becomes of a queue is set if that is allowed. Otherwise an error is returned, and nothing changes
abbrev pub set_if : Bool → QueueError → PackedVirtqueue → PackedVirtqueue
    → Result (Unit {0}) QueueError × PackedVirtqueue
set_if allowed error q other = if allowed then (Ok tt, other) else (Err error, q)

-- both positions in 32 bits: the low half is where the device pops, the high one where it returns
abbrev pub base_of : PackedState → ℕ
base_of s = to_bits s.next_avail + 2 ^ 16 * to_bits s.next_used

abbrev pub at_base : PackedVirtqueue → ℕ → Result (Unit {0}) QueueError × PackedVirtqueue
at_base q base = let avail = of_bits (base % 2 ^ 16) in let used = of_bits (base / 2 ^ 16) in
    set_if (are_positions q.state.size avail used) InvalidAvailRingIndex q (with_positions q avail used)

-- why no queue can have a state: the first part that is wrong
abbrev pub state_error : PackedState → Option QueueError
state_error s = if not (is_packed_size s.max_size) then Some InvalidMaxSize
    else if not (is_packed_size s.size && nat_le s.size s.max_size) then Some InvalidSize
    else if not (s.desc_ring % 16 == 0) then Some InvalidDescTableAlign
    else if not (s.driver_area % 4 == 0) then Some InvalidAvailRingAlign
    else if not (s.device_area % 4 == 0) then Some InvalidUsedRingAlign
    else if not (are_positions s.size s.next_avail s.next_used) then Some InvalidAvailRingIndex
    else None

-- a state that a queue can have
pub record IsPackedState (s : PackedState) : Type 0 where
  pub max_size : IsTrue (is_packed_size s.max_size)
  pub size : IsTrue (is_packed_size s.size)
  pub within : s.size ≤ s.max_size
  pub desc_ring : s.desc_ring % 16 ≡ 0
  pub driver_area : s.driver_area % 4 ≡ 0
  pub device_area : s.device_area % 4 ≡ 0
  pub positions : IsTrue (are_positions s.size s.next_avail s.next_used)
