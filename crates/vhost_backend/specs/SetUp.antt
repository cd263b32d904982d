-- Queues of rings, as the protocol's state has them.
use Rattle.std.specs.Prelude.{ℕ, ◌%◌, ◌/◌, ◌==◌, ◌&&◌, nat_lt, Bool, true, false, if◌then◌else◌, Option, Some, None, Result, Ok, Err, ◌*◌}
use Rattle.vhost_user.specs.Features.{access_platform, event_idx, has, ring_packed}
use Rattle.vhost_user.specs.declared.vring.RunningVring.{RunningVring}
use Rattle.virtio_queue.specs.Packed.{is_packed_size, of_bits}
use Rattle.virtio_queue.specs.Packed as packed
use Rattle.virtio_queue.specs.State.{Virtqueue}
use Rattle.virtio_queue.specs.State as split
use Rattle.virtio_queue.specs.declared.any.AnyQueue.{AnyQueue}
use Rattle.virtio_queue.specs.declared.any.AnyQueue.TheVariants.{Split, Packed}
use Rattle.virtio_queue.specs.declared.error.QueueError.{QueueError}
use Rattle.virtio_queue.specs.declared.error.QueueError.TheVariants.{InvalidAvailRingIndex, InvalidMaxSize, InvalidSize}
use Rattle.virtio_queue.specs.declared.packed.state.PackedState.{PackedState}
use Rattle.virtio_queue.specs.declared.state.QueueState.{QueueState}
use Rattle.vhost_message.specs.declared.frontend_req.VhostUserInflight.{VhostUserInflight}
use Rattle.vhost_user.specs.Inflight.{queue_len}
use Rattle.vhost_backend.specs.declared.flight.FlightPlace.{FlightPlace}

abbrev pub unset_queue : ℕ → Result AnyQueue QueueError
unset_queue max_size =
    if is_packed_size max_size then Ok (Packed (packed.new_queue max_size)) else Err InvalidMaxSize

abbrev pub is_set_up : AnyQueue → Bool
is_set_up (Split q) = q.state.ready
is_set_up (Packed q) = q.state.ready

abbrev pub is_split : AnyQueue → Bool
is_split (Split q) = true
is_split (Packed q) = false

-- the base of a ring, as its queue stands
abbrev pub base_of : AnyQueue → ℕ
base_of (Split q) = q.state.next_avail
base_of (Packed q) = packed.base_of q.state

-- ---- queues of a state, if a queue can have it

abbrev pub split_made : QueueState → Option QueueError → Result Virtqueue QueueError
split_made s None = Ok (record { state = s; added = None })
split_made s (Some e) = Err e

abbrev pub packed_made : PackedState → Option QueueError → Result AnyQueue QueueError
packed_made s None = Ok (Packed (record { state = s; added = None }))
packed_made s (Some e) = Err e

abbrev pub any_split : Result Virtqueue QueueError → Result AnyQueue QueueError
any_split (Ok q) = Ok (Split q)
any_split (Err e) = Err e

-- ---- a ring that was started begins at its base

abbrev pub split_state : ℕ → RunningVring → ℕ → QueueState
split_state max_size vring features = record {
  max_size = max_size;
  size = vring.num;
  ready = true;
  desc_table = vring.descriptor;
  avail_ring = vring.available;
  used_ring = vring.used;
  next_avail = vring.base;
  next_used = 0;
  event_idx_enabled = has features event_idx;
}

abbrev pub split_queue : ℕ → RunningVring → ℕ → Result Virtqueue QueueError
split_queue max_size vring features = if nat_lt 0xffff vring.num then Err InvalidSize
    else if nat_lt 0xffff vring.base then Err InvalidAvailRingIndex
    else split_made (split_state max_size vring features) (split.state_error (split_state max_size vring features))

abbrev pub packed_state : ℕ → RunningVring → ℕ → PackedState
packed_state max_size vring features = record {
  max_size = max_size;
  size = vring.num;
  ready = true;
  desc_ring = vring.descriptor;
  driver_area = vring.available;
  device_area = vring.used;
  next_avail = of_bits (vring.base % 0x1_0000);
  next_used = of_bits (vring.base / 0x1_0000);
  event_idx_enabled = has features event_idx;
}

abbrev pub packed_queue : ℕ → RunningVring → ℕ → Result AnyQueue QueueError
packed_queue max_size vring features = if nat_lt 0xffff vring.num then Err InvalidSize
    else packed_made (packed_state max_size vring features) (packed.state_error (packed_state max_size vring features))

abbrev pub fresh_queue : ℕ → RunningVring → ℕ → Result AnyQueue QueueError
fresh_queue max_size vring features = if has features ring_packed then packed_queue max_size vring features
    else any_split (split_queue max_size vring features)

-- ---- a ring that lies elsewhere goes on where it is

abbrev pub split_moved : QueueState → RunningVring → QueueState
split_moved s vring =
    record s { desc_table = vring.descriptor; avail_ring = vring.available; used_ring = vring.used }

abbrev pub packed_moved : PackedState → RunningVring → PackedState
packed_moved s vring =
    record s { desc_ring = vring.descriptor; driver_area = vring.available; device_area = vring.used }

abbrev pub moved_queue : AnyQueue → RunningVring → Result AnyQueue QueueError
moved_queue (Split q) vring =
    any_split (split_made (split_moved q.state vring) (split.state_error (split_moved q.state vring)))
moved_queue (Packed q) vring =
    packed_made (packed_moved q.state vring) (packed.state_error (packed_moved q.state vring))

-- whether a queue lies where the protocol's state says
abbrev pub lies_at : AnyQueue → RunningVring → Bool
lies_at (Split q) vring = let s = q.state in
    s.desc_table == vring.descriptor && s.avail_ring == vring.available && s.used_ring == vring.used
lies_at (Packed q) vring = let s = q.state in
    s.desc_ring == vring.descriptor && s.driver_area == vring.available && s.device_area == vring.used

-- where writes to its used ring are logged, if a table translates its addresses. If not, they are where they are made
abbrev pub log_of : RunningVring → ℕ → Option ℕ
log_of vring features = if has features access_platform then vring.log else None

-- the part of a ring of the region of requests in flight: as many parts of one length as the region has rings
abbrev pub part_for : ℕ → ℕ → Option VhostUserInflight → Option FlightPlace
part_for features ring None = None
part_for features ring (Some r) = let len = queue_len features r.queue_size in if nat_lt ring r.num_queues
    then Some (record { base = ring * len; len = len; descriptors = r.queue_size }) else None
