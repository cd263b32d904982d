-- A pop of a packed queue: what it looks at, and what it makes of what it finds.
use Rattle.std.specs.Prelude.{ℕ, zero, suc, ◌+◌, ◌-◌, ◌*◌, if◌then◌else◌, List, [], ◌∷◌, ◌++◌, Option, Some, None, Result, Ok, Err}
use Rattle.vm_memory_device.specs.Chain.{chain_fault}
use Rattle.vm_memory_device.specs.declared.chain.Segment.{Segment}
use Rattle.vm_memory_guest.specs.Host.{Host}
use Rattle.vm_memory_guest.specs.Memory.{Memory}
use Rattle.virtio_queue.specs.Available.{if_chain, indirect_len}
use Rattle.virtio_queue.specs.Looks.{MayWantAny, Tree, and_takes, gives, if_ok, if_ready, keeps, takes, row, word}
use Rattle.virtio_queue.specs.Packed.{slot_after, slots_out}
use Rattle.virtio_queue.specs.PackedRing.{is_available, is_indirect, is_last, packed_of, plain, segment_of}
use Rattle.virtio_queue.specs.Rings.{and_then}
use Rattle.virtio_queue.specs.declared.error.QueueError.{QueueError}
use Rattle.virtio_queue.specs.declared.error.QueueError.TheVariants as errors
use Rattle.virtio_queue.specs.declared.packed.descriptor.PackedDescriptor.{PackedDescriptor}
use Rattle.virtio_queue.specs.declared.packed.state.PackedBuffer.{PackedBuffer}
use Rattle.virtio_queue.specs.declared.packed.state.PackedState.{PackedState}

-- a descriptor, with the flags that were found before it, if they were
abbrev pub with_known : Option ℕ → PackedDescriptor → PackedDescriptor
with_known None d = d
with_known (Some flags) d = record d { flags = flags }

-- the descriptors of a chain: the segments of all but the last one, the last one, and how many they are
pub record Taken : Type 0 where
  pub segments : List Segment
  pub last : PackedDescriptor
  pub slots : ℕ

-- from a slot on, after these segments of so many slots: one look at each descriptor. At most so many, and one more is a
-- loop. The flags of the first one are known, if it was found to be available
unfoldable pub listing : ℕ → ℕ → ℕ → List Segment → ℕ → ℕ → Option ℕ → Tree Taken
listing ring size zero front slots i known = gives (Err errors.DescriptorLoop)
listing ring size (suc most) front slots i known = takes (row ring i) (λ d.
    let p = with_known known (packed_of d) in
    if is_last p then gives (Ok (record { segments = front; last = p; slots = slots + 1 }))
    else keeps (listing ring size most (front ++ segment_of p ∷ []) (slots + 1) (slot_after size i) None))

-- the segments of N descriptors of an indirect table from an index on, after these: one look at each
unfoldable pub rows_after : ℕ → ℕ → List Segment → ℕ → Tree (List Segment)
rows_after table zero front i = gives (Ok front)
rows_after table (suc n) front i = takes (row table i) (λ d.
    keeps (rows_after table n (front ++ segment_of (packed_of d) ∷ []) (i + 1)))

-- the segments of the last descriptor after these: its own, or those of its table
abbrev pub last_after : List Segment → PackedDescriptor → Tree (List Segment)
last_after front d = if is_indirect d then if_ok (λ n. rows_after d.addr n front 0) (indirect_len (plain d))
    else keeps (gives (Ok (front ++ segment_of d ∷ [])))

-- the chain that they make, with what it is returned by
abbrev pub chain_made : Taken → List Segment → Result (PackedBuffer × List Segment) QueueError
chain_made t ss =
    and_then (if_chain ss (chain_fault ss)) (λ ss. Ok (record { id = t.last.id; slots = t.slots }, ss))

abbrev pub chain_taken : Taken → Tree (PackedBuffer × List Segment)
chain_taken t = and_takes (last_after t.segments t.last) (λ ss. gives (chain_made t ss))

-- the chain of the next slot, whose flags are known: no more slots than are free
abbrev pub chain_known : PackedState → ℕ → Tree (PackedBuffer × List Segment)
chain_known q flags = and_takes
    (listing q.desc_ring q.size (q.size - slots_out q.size q.next_avail q.next_used) [] 0 q.next_avail.slot (Some flags))
    chain_taken

-- what is popped: a look at the flags of the next slot, and then its chain, if they say that it is available
abbrev pub chain_after : PackedState → ℕ → Tree (Option (PackedBuffer × List Segment))
chain_after q flags = if is_available flags q.next_avail.wrap
    then and_takes (chain_known q flags) (λ p. gives (Ok (Some p)))
    else gives (Ok None)

abbrev pub popping : PackedState → Tree (Option (PackedBuffer × List Segment))
popping q = if_ready q.ready (takes (word q.desc_ring (16 * q.next_avail.slot + 14)) (chain_after q))

abbrev pub MayWantChain : {B : Type 0} → Memory → Host B → PackedState → Type 0
MayWantChain m host q = MayWantAny m host (popping q)
