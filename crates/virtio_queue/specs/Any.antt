-- Queues of either kind: of a split one what is said of split ones, and of a packed one what is said of packed ones.
use Rattle.std.specs.Prelude.{◌≡◌, ℕ, false, if◌then◌else◌, List, Option, Some, None, Bool, Result, Ok, Err}
use Rattle.vm_memory_device.specs.declared.chain.Segment.{Segment}
use Rattle.vm_memory_guest.specs.Host.{Host}
use Rattle.vm_memory_guest.specs.Memory.{Memory}
use Rattle.virtio_queue.specs.Available as split_available
use Rattle.virtio_queue.specs.Fields.{stored_at}
use Rattle.virtio_queue.specs.Looks.{MayWantAny, Tree, and_takes, gives}
use Rattle.virtio_queue.specs.Notification as split_notification
use Rattle.virtio_queue.specs.Packed as packed
use Rattle.virtio_queue.specs.PackedEvents as packed_events
use Rattle.virtio_queue.specs.PackedPopping as packed_popping
use Rattle.virtio_queue.specs.PackedRing as packed_ring
use Rattle.virtio_queue.specs.PackedUsed as packed_used
use Rattle.virtio_queue.specs.Popping as split_popping
use Rattle.virtio_queue.specs.Rings.{index_after}
use Rattle.virtio_queue.specs.State as split
use Rattle.virtio_queue.specs.Used as split_used
use Rattle.virtio_queue.specs.declared.any.AnyQueue.{AnyQueue}
use Rattle.virtio_queue.specs.declared.any.AnyQueue.TheVariants.{Split, Packed}
use Rattle.virtio_queue.specs.declared.error.QueueError.{QueueError}
use Rattle.virtio_queue.specs.declared.packed.state.PackedBuffer.{PackedBuffer}

-- ---- setup

-- the greatest size of a queue, and a queue that nobody has set up in its place
abbrev pub max_size_of : AnyQueue → ℕ
max_size_of (Split q) = q.state.max_size
max_size_of (Packed q) = q.state.max_size

abbrev pub unset : AnyQueue → AnyQueue
unset (Split q) = Split (split.new_queue q.state.max_size)
unset (Packed q) = Packed (packed.new_queue q.state.max_size)

-- a queue that is enabled or not, and by which rule it notifies
abbrev pub with_ready : AnyQueue → Bool → AnyQueue
with_ready (Split q) ready = Split (split.with_state q (record q.state { ready = ready }))
with_ready (Packed q) ready = Packed (packed.with_state q (record q.state { ready = ready }))

abbrev pub has_event_idx : AnyQueue → Bool
has_event_idx (Split q) = q.state.event_idx_enabled
has_event_idx (Packed q) = q.state.event_idx_enabled

abbrev pub with_event_idx : AnyQueue → Bool → AnyQueue
with_event_idx (Split q) on = Split (split.with_state q (record q.state { event_idx_enabled = on }))
with_event_idx (Packed q) on = Packed (packed.with_state q (record q.state { event_idx_enabled = on }))

-- where the next chain is popped, as a number of 16 bits: an index of the available ring, or a slot and its wrap counter
abbrev pub next_avail_of : AnyQueue → ℕ
next_avail_of (Split q) = q.state.next_avail
next_avail_of (Packed q) = packed.to_bits q.state.next_avail

-- a queue whose next chain is the one at such a place, if it can stand there
abbrev pub at_next : AnyQueue → ℕ → AnyQueue
at_next (Split q) n = Split (split.with_state q (record q.state { next_avail = n }))
at_next (Packed q) n = let next = packed.of_bits n in
    Packed (if packed.are_positions q.state.size next q.state.next_used then packed.with_next_avail q next else q)

-- ---- chains

-- what a chain of a split queue is returned by: its head. It took one slot of each ring
abbrev pub of_head : ℕ → PackedBuffer
of_head head = record { id = head; slots = 1 }

abbrev pub by_head : {X : Type 0} → Result (Option (ℕ × X)) QueueError → Result (Option (PackedBuffer × X)) QueueError
by_head (Ok (Some p)) = Ok (Some (of_head p.0, p.1))
by_head (Ok None) = Ok None
by_head (Err e) = Err e

-- a queue whose next chain was popped
abbrev pub past : AnyQueue → PackedBuffer → AnyQueue
past (Split q) buffer = Split (split.with_state q (record q.state { next_avail = index_after q.state.next_avail }))
past (Packed q) buffer =
    Packed (packed.with_next_avail q (packed.moved q.state.size q.state.next_avail buffer.slots))

-- what popping leaves: the next chain is past if one was popped
abbrev pub after_pop : {X : Type 0} → AnyQueue → Result (Option (PackedBuffer × X)) QueueError → AnyQueue
after_pop q (Ok (Some p)) = past q p.0
after_pop q (Ok None) = q
after_pop q (Err e) = q

-- what returning a chain leaves
abbrev pub after_used : AnyQueue → PackedBuffer → Result (Unit {0}) QueueError → AnyQueue
after_used (Split q) buffer answer = Split (split_used.after_used q answer)
after_used (Packed q) buffer answer = Packed (packed_used.after_used q buffer answer)

-- what asking for a notification leaves
abbrev pub after_asked : AnyQueue → Result Bool QueueError → AnyQueue
after_asked (Split q) answer = Split (split_notification.after_asked q answer)
after_asked (Packed q) answer = Packed (packed_events.after_asked q answer)

-- what a pop looks at, and asking whether the driver has to be notified
abbrev pub popping : AnyQueue → Tree (Option (PackedBuffer × List Segment))
popping (Split q) = and_takes (split_popping.popping q.state) (λ found. gives (by_head (Ok found)))
popping (Packed q) = packed_popping.popping q.state

abbrev pub asking : AnyQueue → Tree Bool
asking (Split q) = split_notification.needing q
asking (Packed q) = packed_events.needing q

-- what a return does, and asking to notify and not to notify
abbrev pub returning : AnyQueue → PackedBuffer → ℕ → Tree (Unit {0})
returning (Split q) buffer len = split_used.returning q.state buffer.id len
returning (Packed q) buffer len = packed_used.returning q.state buffer len

abbrev pub enabling : AnyQueue → Tree Bool
enabling (Split q) = split_notification.enabling q.state
enabling (Packed q) = packed_events.enabling q.state

abbrev pub disabling : AnyQueue → Tree (Unit {0})
disabling (Split q) = split_notification.disabling q.state
disabling (Packed q) = packed_events.disabling q.state

module _ {B : Type 0} (m : Memory) (host : Host B) where
  -- what is popped: the next chain, with what it is returned by, if there is one
  abbrev pub popped : AnyQueue → Result (Option (PackedBuffer × List Segment)) QueueError
  popped (Split q) = by_head (split_available.popped m host q.state)
  popped (Packed q) = packed_ring.popped m host q.state

  abbrev pub MayWantChain : AnyQueue → Type 0
  MayWantChain (Split q) = split_popping.MayWantChain m host q.state
  MayWantChain (Packed q) = packed_popping.MayWantChain m host q.state

  -- the driver has made no chain available beyond those that were popped
  abbrev pub HasNone : AnyQueue → Type 0
  HasNone (Split q) = split_available.avail_idx m host q.state ≡ Ok q.state.next_avail
  HasNone (Packed q) = packed_ring.has_next m host q.state ≡ Ok false

  -- whether the areas of a queue lie whole in memory
  abbrev pub valid : AnyQueue → Result Bool QueueError
  valid (Split q) = split_used.valid m host q.state
  valid (Packed q) = packed_used.valid m host q.state

  abbrev pub MayWantValid : AnyQueue → Type 0
  MayWantValid (Split q) = split_used.MayWantValid m host q.state
  MayWantValid (Packed q) = packed_used.MayWantValid m host q.state

  -- whether the driver has to be notified
  abbrev pub needs_notification : AnyQueue → Result Bool QueueError
  needs_notification (Split q) = split_notification.needs_notification m host q
  needs_notification (Packed q) = packed_events.needs_notification m host q

  abbrev pub MayWantNeeds : AnyQueue → Type 0
  MayWantNeeds q = MayWantAny m host (asking q)

  -- a device waits for the next chain, and the driver finds in memory that it has to notify it
  abbrev pub Waits : AnyQueue → Type 0
  Waits (Split q) = split_notification.Waits m host q.state
  Waits (Packed q) = packed_events.Waits m host q.state

-- the driver finds in memory which chain the device waits for, whether there is one by now or not
abbrev pub Offers : {B : Type 0} → Memory → Host B → AnyQueue → Type 0
Offers m host (Split q) = stored_at m host q.state.used_ring (split_notification.kick_offset q.state)
    ≡ Ok (split_notification.kick_value q.state)
Offers m host (Packed q) = packed_events.Offers m host q.state

module _ {B : Type 0} (marks : B → ℕ → ℕ → B → Type 0) (m : Memory) where
  -- a chain is returned
  abbrev pub AddsUsed : AnyQueue → PackedBuffer → ℕ → Host B → Result (Unit {0}) QueueError → Host B → Type 0
  AddsUsed (Split q) buffer len = split_used.AddsUsed marks m q.state buffer.id len
  AddsUsed (Packed q) buffer len = packed_used.AddsUsed marks m q.state buffer len

  -- the driver is asked to notify, and not to notify
  abbrev pub Enables : AnyQueue → Host B → Result Bool QueueError → Host B → Type 0
  Enables (Split q) = split_notification.EnablesIfReady marks m q.state
  Enables (Packed q) = packed_events.EnablesIfReady marks m q.state

  abbrev pub Disables : AnyQueue → Host B → Result (Unit {0}) QueueError → Host B → Type 0
  Disables (Split q) = split_notification.Disables marks m q.state
  Disables (Packed q) = packed_events.Disables marks m q.state
