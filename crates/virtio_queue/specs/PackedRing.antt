-- What the driver makes available: descriptors in a packed ring, and the chain that a device pops next.
use Rattle.std.specs.Prelude.{ℕ, zero, suc, ◌+◌, ◌-◌, ◌*◌, ◌^◌, Bool, true, false, not, ◌&&◌, if◌then◌else◌, List, [], ◌∷◌, ◌++◌, length, map, Option, Some, None, Result, Ok, Err}
use Rattle.vm_memory_device.specs.Chain.{chain_fault}
use Rattle.vm_memory_device.specs.declared.chain.Segment.{Segment}
use Rattle.vm_memory_guest.specs.Host.{Host}
use Rattle.vm_memory_guest.specs.Memory.{Memory}
use Rattle.virtio_queue.specs.Available.{if_chain, indirect_len}
use Rattle.virtio_queue.specs.Descriptor as split
use Rattle.virtio_queue.specs.Descriptor.{has_flag}
use Rattle.virtio_queue.specs.Fields.{descriptor_at, word_at}
use Rattle.virtio_queue.specs.Linked as linked
use Rattle.virtio_queue.specs.Packed.{moved, slot_after, slots_out}
use Rattle.virtio_queue.specs.Rings.{and_then}
use Rattle.virtio_queue.specs.declared.descriptor.Descriptor.{Descriptor}
use Rattle.virtio_queue.specs.declared.error.QueueError.{QueueError}
use Rattle.virtio_queue.specs.declared.error.QueueError.TheVariants as errors
use Rattle.virtio_queue.specs.declared.packed.descriptor.PackedDescriptor.{PackedDescriptor}
use Rattle.virtio_queue.specs.declared.packed.state.PackedBuffer.{PackedBuffer}
use Rattle.virtio_queue.specs.declared.packed.state.PackedState.{PackedState}

-- ---- descriptors

-- a slot is available to a side with this wrap counter if AVAIL is the counter and USED is not, and it is used if both
-- are the counter
abbrev pub is_available : ℕ → Bool → Bool
is_available flags wrap = if wrap then has_flag flags (2 ^ 7) && not (has_flag flags (2 ^ 15))
    else not (has_flag flags (2 ^ 7)) && has_flag flags (2 ^ 15)

abbrev pub is_used : ℕ → Bool → Bool
is_used flags wrap = if wrap then has_flag flags (2 ^ 7) && has_flag flags (2 ^ 15)
    else not (has_flag flags (2 ^ 7)) && not (has_flag flags (2 ^ 15))

-- the 16 bytes of a packed descriptor: a split one has the flags where this has the id, and `next` where this has the
-- flags
abbrev pub packed_of : Descriptor → PackedDescriptor
packed_of d = record { addr = d.addr; len = d.len; id = d.flags; flags = d.next }

-- the split descriptor of the same segment: NEXT, WRITE and INDIRECT mean the same in both
abbrev pub plain : PackedDescriptor → Descriptor
plain d = record { addr = d.addr; len = d.len; flags = d.flags; next = 0 }

-- a descriptor ends its chain if none follows it, or if it leads to an indirect table
abbrev pub is_last : PackedDescriptor → Bool
is_last d = linked.is_last (plain d)

abbrev pub is_indirect : PackedDescriptor → Bool
is_indirect d = split.is_indirect (plain d)

abbrev pub segment_of : PackedDescriptor → Segment
segment_of d = split.segment_of (plain d)

-- ---- chains

-- the descriptors of a chain: the direct ones that another follows, and the last one
pub record Listed : Type 0 where
  pub front : List PackedDescriptor
  pub last : PackedDescriptor

abbrev pub prefixed : List PackedDescriptor → Result Listed QueueError → Result Listed QueueError
prefixed front rest = and_then rest (λ r. Ok (record { front = front ++ r.front; last = r.last }))

module _ (descriptor : ℕ → Result PackedDescriptor QueueError) (size : ℕ) where
  -- the chain that begins in a slot and goes on from slot to slot, across the end of the ring: at most N descriptors.
  -- One more is a loop
  unfoldable pub listed : ℕ → ℕ → Result Listed QueueError
  listed zero i = Err errors.DescriptorLoop
  listed (suc most) i = and_then (descriptor i) (λ d.
      if is_last d then Ok (record { front = []; last = d })
      else prefixed (d ∷ []) (listed most (slot_after size i)))

-- these segments, and what follows
abbrev pub in_front : List Segment → Result (List Segment) QueueError → Result (List Segment) QueueError
in_front front rest = and_then rest (λ later. Ok (front ++ later))

-- the segments of N descriptors from an index on: those of an indirect table, in which no flag but WRITE means anything
unfoldable pub rows : (ℕ → Result PackedDescriptor QueueError) → ℕ → ℕ → Result (List Segment) QueueError
rows descriptor zero i = Ok []
rows descriptor (suc n) i =
    and_then (descriptor i) (λ d. in_front (segment_of d ∷ []) (rows descriptor n (i + 1)))

-- what a chain is returned by: the id of its last descriptor, and how many slots it took
abbrev pub buffer_of : Listed → PackedBuffer
buffer_of l = record { id = l.last.id; slots = length l.front + 1 }

module _ {B : Type 0} (m : Memory) (host : Host B) where
  -- the descriptor in a slot of the ring, or of an indirect table
  abbrev pub packed_at : ℕ → ℕ → Result PackedDescriptor QueueError
  packed_at ring i = and_then (descriptor_at m host ring i) (λ d. Ok (packed_of d))

  -- the segments that the last descriptor of a chain gives
  abbrev pub table_segments : PackedDescriptor → Result (List Segment) QueueError
  table_segments d = and_then (indirect_len (plain d)) (λ n. rows (packed_at d.addr) n 0)

  abbrev pub last_segments : PackedDescriptor → Result (List Segment) QueueError
  last_segments d = if is_indirect d then table_segments d else Ok (segment_of d ∷ [])

  abbrev pub segments_of : Listed → Result (List Segment) QueueError
  segments_of l = in_front (map segment_of l.front) (last_segments l.last)

  -- ---- the next chain

  -- how many slots the driver may have made available: those that are not out
  abbrev pub room : PackedState → ℕ
  room q = q.size - slots_out q.size q.next_avail q.next_used

  -- the flags in the slot that is popped next, and whether the driver has made it available
  abbrev pub next_flags : PackedState → Result ℕ QueueError
  next_flags q = if q.ready then word_at m host q.desc_ring (16 * q.next_avail.slot + 14)
      else Err errors.QueueNotReady

  abbrev pub has_next : PackedState → Result Bool QueueError
  has_next q = and_then (next_flags q) (λ flags. Ok (is_available flags q.next_avail.wrap))

  -- the descriptors that begin there
  abbrev pub next_listed : PackedState → Result Listed QueueError
  next_listed q = listed (packed_at q.desc_ring) q.size (room q) q.next_avail.slot

  -- the chain that they make, with what it is returned by
  abbrev pub chain_of : Listed → Result (PackedBuffer × List Segment) QueueError
  chain_of l = and_then (segments_of l) (λ ss. and_then (if_chain ss (chain_fault ss)) (λ ss.
      Ok (buffer_of l, ss)))

  abbrev pub next_chain : PackedState → Result (PackedBuffer × List Segment) QueueError
  next_chain q = and_then (next_listed q) chain_of

  -- what is popped: the next chain, if there is one
  abbrev pub if_next : PackedState → Bool → Result (Option (PackedBuffer × List Segment)) QueueError
  if_next q false = Ok None
  if_next q true = and_then (next_chain q) (λ p. Ok (Some p))

  abbrev pub popped : PackedState → Result (Option (PackedBuffer × List Segment)) QueueError
  popped q = and_then (has_next q) (if_next q)

-- the state that popping leaves: the place moves on over the slots of a chain that was popped
abbrev pub after_pop : {X : Type 0} → PackedState → Result (Option (PackedBuffer × X)) QueueError → PackedState
after_pop q (Ok (Some (buffer, x))) = record q { next_avail = moved q.size q.next_avail buffer.slots }
after_pop q (Ok None) = q
after_pop q (Err e) = q
