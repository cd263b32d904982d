-- What the driver publishes: the available ring, and the chains of descriptors that its heads lead to.
use Rattle.std.specs.Prelude.{◌≡◌, ℕ, zero, suc, ◌+◌, ◌*◌, ◌/◌, ◌%◌, ◌^◌, nat_lt, true, ◌&&◌, ◌==◌, if◌then◌else◌, List, [], ◌∷◌, ◌++◌, Option, Some, None, Result, Ok, Err}
use Rattle.vm_memory_base.specs.declared.iotlb.Permissions.TheVariants.{Read}
use Rattle.vm_memory_device.specs.Chain.{chain_fault}
use Rattle.vm_memory_device.specs.declared.chain.ChainFault.{ChainFault}
use Rattle.vm_memory_device.specs.declared.chain.Segment.{Segment}
use Rattle.vm_memory_guest.specs.Host.{Host}
use Rattle.vm_memory_guest.specs.Memory.{Memory}
use Rattle.virtio_queue.specs.Descriptor.{has_next, is_indirect, segment_of}
use Rattle.virtio_queue.specs.Fields.{MayWant, descriptor_at, word_at}
use Rattle.virtio_queue.specs.Rings.{and_then, index_after, next_in}
use Rattle.virtio_queue.specs.declared.descriptor.Descriptor.{Descriptor}
use Rattle.virtio_queue.specs.declared.error.QueueError.{QueueError}
use Rattle.virtio_queue.specs.declared.error.QueueError.TheVariants as errors
use Rattle.virtio_queue.specs.declared.state.QueueState.{QueueState}

-- ---- chains

-- what following `next` gives: the segments of direct descriptors, in order, and the indirect descriptor that ends
-- them, if one does
pub record Followed : Type 0 where
  pub segments : List Segment
  pub indirect : Option Descriptor

-- these segments, and what follows
abbrev pub prefixed : List Segment → Result Followed QueueError → Result Followed QueueError
prefixed front rest =
    and_then rest (λ r. Ok (record { segments = front ++ r.segments; indirect = r.indirect }))

module _ (descriptor : ℕ → Result Descriptor QueueError) (len : ℕ) where
  -- what is met at an index of a table of N descriptors: the one there, if the table has it
  abbrev pub entry : ℕ → Result Descriptor QueueError
  entry i = if nat_lt i len then descriptor i else Err errors.InvalidDescriptorIndex

  -- at most N descriptors that following `next` from an index gives. One more is a loop
  unfoldable pub followed : ℕ → ℕ → Result Followed QueueError
  followed zero i = if nat_lt i len then Err errors.DescriptorLoop else Err errors.InvalidDescriptorIndex
  followed (suc most) i = and_then (entry i) (λ d.
      if is_indirect d then Ok (record { segments = []; indirect = Some d })
      else if has_next d then prefixed (segment_of d ∷ []) (followed most d.next)
      else Ok (record { segments = segment_of d ∷ []; indirect = None }))

-- how many descriptors an indirect table has, or why it is none
abbrev pub indirect_len : Descriptor → Result ℕ QueueError
indirect_len d = if has_next d then Err errors.IndirectWithNext
    else if nat_lt 0 d.len && d.len % 16 == 0 && nat_lt (d.len / 16) (2 ^ 16) then Ok (d.len / 16)
    else Err errors.InvalidIndirectTable

-- the segments of an indirect table, which has no other inside
abbrev pub direct : Followed → Result (List Segment) QueueError
direct f = no_other f.indirect
  where
    no_other : Option Descriptor → Result (List Segment) QueueError
    no_other None = Ok f.segments
    no_other (Some d) = Err errors.NestedIndirect

-- segments, if they make a chain
abbrev pub if_chain : List Segment → Option ChainFault → Result (List Segment) QueueError
if_chain segments None = Ok segments
if_chain segments (Some fault) = Err (errors.InvalidChain fault)

module _ {B : Type 0} (m : Memory) (host : Host B) where
  -- what following gives in a table of N descriptors at an address
  abbrev pub followed_in : ℕ → ℕ → ℕ → Result Followed QueueError
  followed_in table len i = followed (descriptor_at m host table) len len i

  -- the segments of an indirect table
  abbrev pub indirect_segments : Descriptor → Result (List Segment) QueueError
  indirect_segments d = and_then (indirect_len d) (λ n. and_then (followed_in d.addr n 0) direct)

  -- the segments that a head leads to: direct ones, and those of the indirect table that ends them, if one does
  abbrev pub with_indirect : List Segment → Option Descriptor → Result (List Segment) QueueError
  with_indirect front None = Ok front
  with_indirect front (Some d) = and_then (indirect_segments d) (λ later. Ok (front ++ later))

  abbrev pub segments_at : QueueState → ℕ → Result (List Segment) QueueError
  segments_at q head = and_then (followed_in q.desc_table q.size head) (λ f. with_indirect f.segments f.indirect)

  -- the chain of a head
  abbrev pub chain_at : QueueState → ℕ → Result (List Segment) QueueError
  chain_at q head = and_then (segments_at q head) (λ segments. if_chain segments (chain_fault segments))

  -- ---- the available ring

  -- the driver's index
  abbrev pub avail_idx : QueueState → Result ℕ QueueError
  avail_idx q = if q.ready then word_at m host q.avail_ring 2 else Err errors.QueueNotReady

  -- the head in a slot of the ring
  abbrev pub head_in : QueueState → ℕ → Result ℕ QueueError
  head_in q i = word_at m host q.avail_ring (4 + 2 * i)

  -- the head that is popped next, if the driver has published one
  abbrev pub next_head : QueueState → Result (Option ℕ) QueueError
  next_head q = and_then (avail_idx q) (λ idx. next_in q.size idx q.next_avail (head_in q))

  -- the chain that is popped next, with its head
  abbrev pub chain_of : QueueState → Option ℕ → Result (Option (ℕ × List Segment)) QueueError
  chain_of q None = Ok None
  chain_of q (Some head) = and_then (chain_at q head) (λ segments. Ok (Some (head, segments)))

  abbrev pub popped : QueueState → Result (Option (ℕ × List Segment)) QueueError
  popped q = and_then (next_head q) (chain_of q)

  -- reading the driver's index may fail to allocate
  abbrev pub MayWantIdx : QueueState → Type 0
  MayWantIdx q = (q.ready ≡ true) × MayWant m host q.avail_ring 2 2 Read

-- the state that popping leaves: one entry on if a chain was popped
abbrev pub after_pop : {X : Type 0} → QueueState → Result (Option X) QueueError → QueueState
after_pop q (Ok (Some x)) = record q { next_avail = index_after q.next_avail }
after_pop q (Ok None) = q
after_pop q (Err e) = q
