-- Queues: what a queue keeps outside guest memory.
use Rattle.std.specs.Prelude.{◌≡◌, ℕ, ◌%◌, ◌^◌, ◌≤◌, Bool, false, not, ◌==◌, ◌&&◌, nat_lt, nat_le, if◌then◌else◌, Option, Some, None, Result, Ok, Err, IsTrue}
use Rattle.virtio_queue.specs.declared.state.QueueState.{QueueState}
use Rattle.virtio_queue.specs.declared.error.QueueError.{QueueError}
use Rattle.virtio_queue.specs.declared.error.QueueError.TheVariants.{InvalidMaxSize, InvalidSize, InvalidDescTableAlign, InvalidAvailRingAlign, InvalidUsedRingAlign}

-- a size is a power of two, 1 to 32768: a divisor of 32768
abbrev pub is_size : ℕ → Bool
is_size n = nat_lt 0 n && 2 ^ 15 % n == 0

-- a queue: its state, and how many entries were added since it was last asked whether the driver has to be notified,
-- if this is known. Of 65536 and more it is 65536
pub record Virtqueue : Type 0 where
  pub state : QueueState
  pub added : Option ℕ

-- the state of a queue that nobody has set up
abbrev pub new_state : ℕ → QueueState
new_state max_size = record {
  max_size = max_size;
  size = max_size;
  ready = false;
  desc_table = 0;
  avail_ring = 0;
  used_ring = 0;
  next_avail = 0;
  next_used = 0;
  event_idx_enabled = false;
}

abbrev pub new_queue : ℕ → Virtqueue
new_queue max_size = record { state = new_state max_size; added = Some 0 }

-- a queue with another state
abbrev pub with_state : Virtqueue → QueueState → Virtqueue
with_state q state = record { state = state; added = q.added }

-- the state is set if that is allowed. Otherwise an error is returned, and nothing changes
abbrev pub set_if : Bool → QueueError → Virtqueue → QueueState → Result (Unit {0}) QueueError × Virtqueue
set_if allowed error q state = if allowed then (Ok tt, with_state q state) else (Err error, q)

-- why no queue can have a state: the first part that is wrong
abbrev pub state_error : QueueState → Option QueueError
state_error s = if not (is_size s.max_size) then Some InvalidMaxSize
    else if not (is_size s.size && nat_le s.size s.max_size) then Some InvalidSize
    else if not (s.desc_table % 16 == 0) then Some InvalidDescTableAlign
    else if not (s.avail_ring % 2 == 0) then Some InvalidAvailRingAlign
    else if not (s.used_ring % 4 == 0) then Some InvalidUsedRingAlign
    else None

-- a state that a queue can have
pub record IsState (s : QueueState) : Type 0 where
  pub max_size : IsTrue (is_size s.max_size)
  pub size : IsTrue (is_size s.size)
  pub within : s.size ≤ s.max_size
  pub desc_table : s.desc_table % 16 ≡ 0
  pub avail_ring : s.avail_ring % 2 ≡ 0
  pub used_ring : s.used_ring % 4 ≡ 0
