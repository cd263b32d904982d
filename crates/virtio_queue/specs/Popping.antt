-- A pop of a split queue: what it looks at, and what it makes of what it finds.
use Rattle.std.specs.Prelude.{ℕ, zero, suc, ◌+◌, ◌*◌, nat_lt, ◌==◌, if◌then◌else◌, List, [], ◌∷◌, ◌++◌, Option, Some, None, Ok, Err}
use Rattle.vm_memory_device.specs.Chain.{chain_fault}
use Rattle.vm_memory_device.specs.declared.chain.Segment.{Segment}
use Rattle.vm_memory_guest.specs.Host.{Host}
use Rattle.vm_memory_guest.specs.Memory.{Memory}
use Rattle.virtio_queue.specs.Available.{Followed, direct, if_chain, indirect_len}
use Rattle.virtio_queue.specs.Descriptor.{has_next, is_indirect, segment_of}
use Rattle.virtio_queue.specs.Looks.{MayWantAny, Tree, and_takes, gives, if_ok, if_ready, keeps, takes, row, word}
use Rattle.virtio_queue.specs.Rings.{ahead, slot}
use Rattle.virtio_queue.specs.declared.descriptor.Descriptor.{Descriptor}
use Rattle.virtio_queue.specs.declared.error.QueueError.TheVariants as errors
use Rattle.virtio_queue.specs.declared.state.QueueState.{QueueState}

-- from an index of a table of N descriptors on, after these segments: one look at each descriptor, which says all that
-- is made of it, its segment and what follows. At most so many, and one more is a loop
unfoldable pub following : ℕ → ℕ → ℕ → List Segment → ℕ → Tree Followed
following table len zero front i =
    if nat_lt i len then gives (Err errors.DescriptorLoop) else gives (Err errors.InvalidDescriptorIndex)
following table len (suc most) front i = if nat_lt i len
    then takes (row table i) (λ d.
    if is_indirect d then gives (Ok (record { segments = front; indirect = Some d }))
    else keeps (if has_next d then following table len most (front ++ segment_of d ∷ []) d.next
    else gives (Ok (record { segments = front ++ segment_of d ∷ []; indirect = None }))))
    else gives (Err errors.InvalidDescriptorIndex)

-- the segments of an indirect table after these, if a descriptor leads to one
abbrev pub table_after : List Segment → Descriptor → Tree (List Segment)
table_after front d = if_ok (λ n. and_takes (following d.addr n n front 0) (λ f. gives (direct f))) (indirect_len d)

abbrev pub with_table : List Segment → Option Descriptor → Tree (List Segment)
with_table front None = gives (Ok front)
with_table front (Some d) = table_after front d

-- the segments that a head leads to, and the chain that they make
abbrev pub segments_from : QueueState → ℕ → Tree (List Segment)
segments_from q head =
    and_takes (following q.desc_table q.size q.size [] head) (λ f. with_table f.segments f.indirect)

abbrev pub chain_from : QueueState → ℕ → Tree (List Segment)
chain_from q head = and_takes (segments_from q head) (λ ss. gives (if_chain ss (chain_fault ss)))

-- the next head, if the driver has published one: a look at the driver's index, and one at the slot
abbrev pub head_in_slot : QueueState → Tree (Option ℕ)
head_in_slot q = takes (word q.avail_ring (4 + 2 * slot q.size q.next_avail)) (λ head. gives (Ok (Some head)))

abbrev pub head_after : QueueState → ℕ → Tree (Option ℕ)
head_after q idx = if ahead idx q.next_avail == 0 then gives (Ok None)
    else if nat_lt q.size (ahead idx q.next_avail) then gives (Err errors.InvalidAvailRingIndex)
    else head_in_slot q

abbrev pub next_head : QueueState → Tree (Option ℕ)
next_head q = if_ready q.ready (takes (word q.avail_ring 2) (head_after q))

-- what is popped: the chain of that head, with the head
abbrev pub chain_after : QueueState → Option ℕ → Tree (Option (ℕ × List Segment))
chain_after q None = gives (Ok None)
chain_after q (Some head) = and_takes (chain_from q head) (λ segments. gives (Ok (Some (head, segments))))

abbrev pub popping : QueueState → Tree (Option (ℕ × List Segment))
popping q = and_takes (next_head q) (chain_after q)

abbrev pub MayWantChain : {B : Type 0} → Memory → Host B → QueueState → Type 0
MayWantChain m host q = MayWantAny m host (popping q)
