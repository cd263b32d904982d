-- What calls on queues are answered, and what they leave.
use Rattle.std.specs.Prelude.{◌≡◌, ◌⊎◌, ◌<◌, ◌+◌, ◌*◌, ◌%◌, ◌^◌, ◌==◌, ◌&&◌, nat_lt, nat_le, if◌then◌else◌, ℕ, Bool, List, [], ◌∷◌, ◌++◌, length, take, drop, flat_map, replicate, slice_get, slice_set, Option, Some, None, option_map, is_some, MatchBool, MatchOption, true, false, Result, Ok, Err, ◌≤◌}
use Rattle.std.specs.Int.{w64, to_le_bytes}
use Rattle.vm_memory_base.specs.Pages.{PageSet}
use Rattle.vm_memory_guest.specs.Host.{Host}
use Rattle.vm_memory_guest.specs.Memory.{Memory}
use Rattle.vm_memory_guest.specs.declared.region.error.GuestMemoryError.{GuestMemoryError}
use Rattle.vm_memory_device.specs.Chain.{Entry, ReadsText, WritesText, readable, text, writable}
use Rattle.vm_memory_device.specs.declared.chain.Segment.{Segment}
use Rattle.virtio_queue.specs.Any.{MayWantValid, after_asked, after_used, max_size_of, past, unset, valid}
use Rattle.virtio_queue.specs.Fields.{Answers as AnswersAs}
use Rattle.virtio_queue.specs.Packed as packed
use Rattle.virtio_queue.specs.Packed.{PackedVirtqueue}
use Rattle.virtio_queue.specs.State.{Virtqueue, is_size, new_queue, set_if, with_state}
use Rattle.virtio_queue.specs.declared.any.AnyQueue.{AnyQueue}
use Rattle.virtio_queue.specs.declared.any.AnyQueue.TheVariants.{Split, Packed}
use Rattle.virtio_queue.specs.declared.error.QueueError.{QueueError}
use Rattle.virtio_queue.specs.declared.error.QueueError.TheVariants as errors
use Rattle.virtio_queue.specs.declared.packed.state.PackedBuffer.{PackedBuffer}
use Rattle.virtio_queue.specs.declared.packed.state.PackedState.{PackedState}
use Rattle.virtio_queue.specs.declared.state.QueueState.{QueueState}
use Rattle.virtio_blk.specs.declared.request.Request.{Request}
use Rattle.virtio_blk.specs.declared.request.DeviceLimits.{DeviceLimits}
use Rattle.vm_memory.specs.State.{State}
use Rattle.vm_memory.specs.declared.machine.command.Fault.TheVariants as fault
use Rattle.vm_session.specs.Answers.{answer_of_fault, number_of_truth, valued}
use Rattle.vm_session.specs.Codes.{bad_call, coded, no_memory, short_of}
use Rattle.vm_session.specs.MemorySteps.{MemoryStep, Returned, Steps, Still, adds_used, begins, disables, enables, finishes, marks_pages, needs, pops, reads_avail, reads_used}
use Rattle.vm_session.specs.Kinds.{limit_at, part_at, read_only_at, switch_at}
use Rattle.vm_session.specs.QueueCodes.{answer_of_begun, answer_of_bytes, answer_of_done, answer_of_length, answer_of_number, answer_of_queue, answer_of_truth, in_flight, no_chain, no_such, not_in_flight, popped_as, too_many}
use Rattle.vm_session.specs.SessionState.{DeviceQueue, SessionState, buffer_of, chain_of, descriptors_in}
use Rattle.vm_session.specs.Words.{row_bytes}
use Rattle.vm_session.specs.declared.call.Answer.{Answer}
use Rattle.vm_session.specs.declared.call.Call.{Call}
use Rattle.vm_session.specs.declared.call.Kind.{Kind}
use Rattle.vm_session.specs.declared.call.Kind.TheVariants as kind
use Rattle.vm_session.specs.declared.call.QueuePart.{QueuePart}
use Rattle.vm_session.specs.declared.call.QueuePart.TheVariants as part

-- ---- setup

-- the greatest sizes of a packed queue, and of a split one
abbrev pub is_max_size : Bool → ℕ → Bool
is_max_size true n = nat_lt n (2 ^ 16) && packed.is_packed_size n
is_max_size false n = nat_lt n (2 ^ 16) && is_size n

-- a queue of N entries that nobody has set up, with nothing in flight
abbrev pub new_any : Bool → ℕ → AnyQueue
new_any true size = Packed (packed.new_queue size)
new_any false size = Split (new_queue size)

abbrev pub with_none : AnyQueue → ℕ → DeviceQueue
with_none q most = record {
  queue = q;
  most = most;
  flight = replicate (max_size_of q) None;
  slots = replicate (max_size_of q) 0;
}

abbrev pub unused : Bool → ℕ → ℕ → DeviceQueue
unused is_packed size most = with_none (new_any is_packed size) most

-- a queue is kept, or there is no memory for it
abbrev pub KeepsQueue : DeviceQueue → List DeviceQueue → Answer → List DeviceQueue → Type 0
KeepsQueue q old a new = ((a ≡ valued (length old)) × (new ≡ old ++ q ∷ [])) ⊎ ((a ≡ no_memory) × (new ≡ old))

-- a queue is made, packed or split, or refused
abbrev pub MakesQueue : Bool → List DeviceQueue → Call → Answer → List DeviceQueue → Type 0
MakesQueue is_packed old call a new =
    ((is_max_size is_packed call.length ≡ true)
    × KeepsQueue (unused is_packed call.length call.other_length) old a new)
    ⊎ ((is_max_size is_packed call.length ≡ false) × (a ≡ answer_of_queue errors.InvalidMaxSize) × (new ≡ old))

-- a number of 16 bits
abbrev pub word : ℕ → Option ℕ
word n = if nat_lt n (2 ^ 16) then Some n else None

-- a part of a split queue is set to a number, if it has the part and that can be this number
abbrev pub set_part : QueuePart → ℕ → Virtqueue → Option (Result (Unit {0}) QueueError × Virtqueue)
set_part part.Size n q = option_map (λ size. set_if (is_size size && nat_le size q.state.max_size)
    errors.InvalidSize q (record q.state { size = size })) (word n)
set_part part.DescTable n q =
    Some (set_if (n % 16 == 0) errors.InvalidDescTableAlign q (record q.state { desc_table = n }))
set_part part.AvailRing n q =
    Some (set_if (n % 2 == 0) errors.InvalidAvailRingAlign q (record q.state { avail_ring = n }))
set_part part.UsedRing n q =
    Some (set_if (n % 4 == 0) errors.InvalidUsedRingAlign q (record q.state { used_ring = n }))
set_part part.Ready n q =
    option_map (λ ready. (Ok tt, with_state q (record q.state { ready = ready }))) (switch_at n)
set_part part.EventIdx n q =
    option_map (λ on. (Ok tt, with_state q (record q.state { event_idx_enabled = on }))) (switch_at n)
set_part part.NextAvail n q =
    option_map (λ next. (Ok tt, with_state q (record q.state { next_avail = next }))) (word n)
set_part part.NextUsed n q = option_map (λ next.
    (Ok tt, record { state = record q.state { next_used = next }; added = None })) (word n)
set_part part.VringBase n q = None

-- and one of a packed queue, whose two positions are set together
abbrev pub set_packed_part : QueuePart → ℕ → PackedVirtqueue
    → Option (Result (Unit {0}) QueueError × PackedVirtqueue)
set_packed_part part.Size n q =
    option_map (λ size. packed.set_if (packed.is_packed_size size && nat_le size q.state.max_size)
    errors.InvalidSize q (packed.with_size q size)) (word n)
set_packed_part part.DescTable n q = Some (packed.set_if (n % 16 == 0) errors.InvalidDescTableAlign q
    (packed.with_state q (record q.state { desc_ring = n })))
set_packed_part part.AvailRing n q = Some (packed.set_if (n % 4 == 0) errors.InvalidAvailRingAlign q
    (packed.with_state q (record q.state { driver_area = n })))
set_packed_part part.UsedRing n q = Some (packed.set_if (n % 4 == 0) errors.InvalidUsedRingAlign q
    (packed.with_state q (record q.state { device_area = n })))
set_packed_part part.Ready n q =
    option_map (λ ready. (Ok tt, packed.with_state q (record q.state { ready = ready }))) (switch_at n)
set_packed_part part.EventIdx n q =
    option_map (λ on. (Ok tt, packed.with_state q (record q.state { event_idx_enabled = on }))) (switch_at n)
set_packed_part part.NextAvail n q = None
set_packed_part part.NextUsed n q = None
set_packed_part part.VringBase n q = if nat_lt n (2 ^ 32) then Some (packed.at_base q n) else None

abbrev pub SetsIf : {Q : Type 0} → Option (Result (Unit {0}) QueueError × Q) → Q → Answer → Q → Type 0
SetsIf None old a new = (a ≡ bad_call) × (new ≡ old)
SetsIf (Some r) old a new = (a ≡ answer_of_done r.0) × (new ≡ r.1)

-- the part of this number is set
abbrev pub SetsPart : Option QueuePart → ℕ → Virtqueue → Answer → Virtqueue → Type 0
SetsPart None n old a new = (a ≡ bad_call) × (new ≡ old)
SetsPart (Some p) n old a new = SetsIf (set_part p n old) old a new

abbrev pub SetsPackedPart : Option QueuePart → ℕ → PackedVirtqueue → Answer → PackedVirtqueue → Type 0
SetsPackedPart None n old a new = (a ≡ bad_call) × (new ≡ old)
SetsPackedPart (Some p) n old a new = SetsIf (set_packed_part p n old) old a new

abbrev pub SetsAnyPart : Option QueuePart → ℕ → AnyQueue → Answer → AnyQueue → Type 0
SetsAnyPart p n (Split old) a new = (q : Virtqueue) × SetsPart p n old a q × (new ≡ Split q)
SetsAnyPart p n (Packed old) a new = (q : PackedVirtqueue) × SetsPackedPart p n old a q × (new ≡ Packed q)

-- the numbers of a state, which are a packed queue's in the same places
abbrev pub state_numbers : QueueState → List ℕ
state_numbers s = s.max_size ∷ s.size ∷ number_of_truth s.ready ∷ s.desc_table ∷ s.avail_ring ∷ s.used_ring
    ∷ s.next_avail ∷ s.next_used ∷ number_of_truth s.event_idx_enabled ∷ []

abbrev pub packed_numbers : PackedState → List ℕ
packed_numbers s = s.max_size ∷ s.size ∷ number_of_truth s.ready ∷ s.desc_ring ∷ s.driver_area ∷ s.device_area
    ∷ packed.to_bits s.next_avail ∷ packed.to_bits s.next_used ∷ number_of_truth s.event_idx_enabled ∷ []

abbrev pub numbers_of : AnyQueue → List ℕ
numbers_of (Split q) = state_numbers q.state
numbers_of (Packed q) = packed_numbers q.state

abbrev pub ListsNine : List ℕ → List ℕ → Answer → List ℕ → Type 0
ListsNine numbers out a out' = ((length out < 72) × (a ≡ short_of 72) × (out' ≡ out))
    ⊎ ((a ≡ record { code = 0; count = 9; value = 0; address = 0 })
    × (out' ≡ flat_map (to_le_bytes w64) numbers ++ drop 72 out))

abbrev pub ListsState : AnyQueue → List ℕ → Answer → List ℕ → Type 0
ListsState q out a out' = ListsNine (numbers_of q) out a out'

-- ---- chains

-- the id of a chain of a packed queue, which a driver may choose, is not below the queue's greatest size
abbrev pub is_past : DeviceQueue → ℕ → Bool
is_past q head = is_packed q.queue && nat_le (length q.flight) head
  where
    is_packed : AnyQueue → Bool
    is_packed (Split v) = false
    is_packed (Packed v) = true

-- why a chain cannot be in flight: its id is too great, its head is in flight, or there would be too many descriptors
abbrev pub refusal_of_chain : DeviceQueue → ℕ → List Segment → Option Answer
refusal_of_chain q head chain = if is_past q head then Some (answer_of_queue errors.InvalidDescriptorIndex)
    else if is_some (chain_of q head) then Some in_flight
    else if nat_lt q.most (descriptors_in q.flight + length chain) then Some too_many
    else None

-- a queue with a chain more in flight
abbrev pub with_chain : DeviceQueue → PackedBuffer → List Segment → DeviceQueue
with_chain q buffer chain = record q {
  flight = slice_set q.flight buffer.id (Some chain);
  slots = slice_set q.slots buffer.id buffer.slots;
}

-- a chain that was popped is in flight. One that cannot be stays the next one
abbrev pub after_popped_if : Option Answer → DeviceQueue → PackedBuffer → List Segment → Answer × DeviceQueue
after_popped_if None q buffer chain =
    (popped_as buffer.id chain, with_chain (record q { queue = past q.queue buffer }) buffer chain)
after_popped_if (Some a) q buffer chain = (a, q)

abbrev pub after_popped : DeviceQueue → Result (Option (PackedBuffer × List Segment)) QueueError
    → Answer × DeviceQueue
after_popped q (Ok (Some p)) = after_popped_if (refusal_of_chain q p.0.id p.1) q p.0 p.1
after_popped q (Ok None) = (no_chain, q)
after_popped q (Err e) = (answer_of_queue e, q)

-- a queue that is made what it was: nobody has set it up, and nothing is in flight
abbrev pub cleared : DeviceQueue → DeviceQueue
cleared q = record q { queue = unset q.queue; flight = replicate (length q.flight) None }

-- a queue without the chain of a head
abbrev pub forgotten : DeviceQueue → ℕ → DeviceQueue
forgotten q head = record q { flight = slice_set q.flight head None }

abbrev pub Forgets : DeviceQueue → ℕ → Answer → DeviceQueue → Type 0
Forgets old head a new = MatchOption (chain_of old head) ((a ≡ not_in_flight) × (new ≡ old))
    (λ chain. (a ≡ coded 0) × (new ≡ forgotten old head))

-- a list of segments: of each its address, and how many bytes it has
abbrev pub bytes_of_segments : List Segment → List ℕ
bytes_of_segments segments = flat_map (λ s. row_bytes s.addr.0 s.len) segments

-- the segments of a chain are listed, if the output has room for them. It is told how many there are, and how many of them
-- are read
abbrev pub ListsChain : List Segment → List ℕ → Answer → List ℕ → Type 0
ListsChain chain out a out' = let needed = length chain * 16 in
    ((length out < needed) × (a ≡ short_of needed) × (out' ≡ out))
    ⊎ ((needed ≤ length out)
    × (a ≡ record { code = 0; count = length chain; value = length (readable chain); address = 0 })
    × (out' ≡ bytes_of_segments chain ++ drop needed out))

-- so are those of a chain in flight
abbrev pub ListsSegments : DeviceQueue → ℕ → List ℕ → Answer → List ℕ → Type 0
ListsSegments q head out a out' = MatchOption (chain_of q head) ((a ≡ not_in_flight) × (out' ≡ out))
    (λ chain. ListsChain chain out a out')

-- what a chain's return leaves: it is no more in flight
abbrev pub after_returned : DeviceQueue → ℕ → Result (Unit {0}) QueueError → DeviceQueue
after_returned q head (Ok u) = record q {
  queue = after_used q.queue (buffer_of q head) (Ok u);
  flight = slice_set q.flight head None;
}
after_returned q head (Err e) = q

-- a call on a queue takes one step on guest memory, of which this is known, and what it answers and leaves is made of what
-- that returned
module _ {H : Type 0} (step : H → (s : MemoryStep) → Returned s → H → Type 0) where
  abbrev pub Pops : DeviceQueue → H → Answer → DeviceQueue → H → Type 0
  Pops old host a new host' = (r : Result (Option (PackedBuffer × List Segment)) QueueError)
      × step host (pops old.queue) r host' × ((a, new) ≡ after_popped old r)

  abbrev pub NeedsNotification : DeviceQueue → H → Answer → DeviceQueue → H → Type 0
  NeedsNotification old host a new host' = (r : Result Bool QueueError) × step host (needs old.queue) r host'
      × (a ≡ answer_of_truth r) × (new ≡ record old { queue = after_asked old.queue r })

  -- a packed queue has no such indices
  abbrev pub TellsAvail : AnyQueue → H → Answer → H → Type 0
  TellsAvail (Split q) host a host' =
      (r : Result ℕ QueueError) × step host (reads_avail q) r host' × (a ≡ answer_of_number r)
  TellsAvail (Packed q) host a host' = (a ≡ bad_call) × (host' ≡ host)

  abbrev pub TellsUsed : AnyQueue → H → Answer → H → Type 0
  TellsUsed (Split q) host a host' =
      (r : Result ℕ QueueError) × step host (reads_used q) r host' × (a ≡ answer_of_number r)
  TellsUsed (Packed q) host a host' = (a ≡ bad_call) × (host' ≡ host)

  -- what a chain in flight asks a block device for
  abbrev pub BeginsRequest : DeviceQueue → ℕ → Option DeviceLimits → H → Answer → H → Type 0
  BeginsRequest q head None host a host' = (a ≡ bad_call) × (host' ≡ host)
  BeginsRequest q head (Some limits) host a host' =
      MatchOption (chain_of q head) ((a ≡ not_in_flight) × (host' ≡ host)) (λ chain.
      (r : Result Request GuestMemoryError) × step host (begins limits chain) r host' × (a ≡ answer_of_begun r))

  -- the request of a chain in flight is finished, with a status, if N bytes were written before
  abbrev pub FinishesRequest : DeviceQueue → ℕ → ℕ → ℕ → H → Answer → H → Type 0
  FinishesRequest q head status moved old a new =
      MatchOption (chain_of q head) ((a ≡ not_in_flight) × (new ≡ old)) (λ chain.
      (r : Result ℕ GuestMemoryError) × step old (finishes chain status moved) r new × (a ≡ answer_of_length r))

  -- a chain in flight is returned, with how many bytes were written to it
  abbrev pub Returns : DeviceQueue → ℕ → ℕ → H → Answer → DeviceQueue → H → Type 0
  Returns q head len old a q' new = MatchOption (chain_of q head) ((a ≡ not_in_flight) × (q' ≡ q) × (new ≡ old))
      (λ chain. (r : Result (Unit {0}) QueueError) × step old (adds_used q.queue (buffer_of q head) len) r new
      × (a ≡ answer_of_done r) × (q' ≡ after_returned q head r))

  abbrev pub AsksToNotify : DeviceQueue → H → Answer → H → Type 0
  AsksToNotify q old a new = (r : Result Bool QueueError) × step old (enables q.queue) r new × (a ≡ answer_of_truth r)

  abbrev pub AsksNotToNotify : DeviceQueue → H → Answer → H → Type 0
  AsksNotToNotify q old a new =
      (r : Result (Unit {0}) QueueError) × step old (disables q.queue) r new × (a ≡ answer_of_done r)

  -- how many bytes were written to a chain that is returned is a number of 32 bits
  abbrev pub ReturnsIf : Call → DeviceQueue → H → Answer → DeviceQueue → H → Type 0
  ReturnsIf call q old a q' new = MatchBool (nat_lt call.value (2 ^ 32))
      (Returns q call.third call.value old a q' new) ((a ≡ bad_call) × (q' ≡ q) × (new ≡ old))

  -- a status is a number of 8 bits
  abbrev pub FinishesIf : Call → DeviceQueue → H → Answer → H → Type 0
  FinishesIf call q old a new = MatchBool (nat_lt call.value (2 ^ 8))
      (FinishesRequest q call.third call.value call.length old a new) ((a ≡ bad_call) × (new ≡ old))

-- ---- chains in flight, and queues as they lie in memory: on memory that stands still

module _ {B : Type 0} (m : Memory) (host : Host B) where
  -- the readable bytes of a chain in flight, from an offset on, come to a buffer
  abbrev pub ReadsChain : DeviceQueue → ℕ → ℕ → List ℕ → Answer → List ℕ → Type 0
  ReadsChain q head offset buf a buf' = MatchOption (chain_of q head) ((a ≡ not_in_flight) × (buf' ≡ buf))
      (λ chain. (r : Result ℕ GuestMemoryError) × (left : List Entry)
      × ReadsText m host (drop offset (text (readable chain))) buf r left buf' × (a ≡ answer_of_bytes r))

  abbrev pub TellsValid : DeviceQueue → Answer → Type 0
  TellsValid q a = (r : Result Bool QueueError)
      × AnswersAs (MayWantValid m host q.queue) (valid m host q.queue) r × (a ≡ answer_of_truth r)

-- what a request is checked against
abbrev pub device_limits : Call → Option DeviceLimits
device_limits call = option_map (λ read_only. record {
  sectors = call.target;
  read_only = read_only;
  acked = call.value;
  seg_max = limit_at call.length;
  size_max = limit_at call.other_length;
}) (read_only_at call.access)

-- bytes go to the writable ones of a chain in flight, from an offset on
abbrev pub WritesChain : {B : Type 0} → (B → ℕ → ℕ → B → Type 0) → Memory → DeviceQueue → ℕ → ℕ → List ℕ → Host B
    → Answer → Host B → Type 0
WritesChain marks m q head offset bytes old a new =
    MatchOption (chain_of q head) ((a ≡ not_in_flight) × (new ≡ old))
    (λ chain. (r : Result ℕ GuestMemoryError) × (left : List Entry)
    × WritesText marks m (drop offset (text (writable chain))) bytes old r left new × (a ≡ answer_of_bytes r))

-- ---- calls on a queue and a memory

-- a read of the chain of a call, into the front of an output that has room
abbrev pub ReadsInto : {B : Type 0} → Memory → Call → DeviceQueue → Host B → List ℕ → Answer → List ℕ → Type 0
ReadsInto m call q host out a out' = ((length out < call.length) × (a ≡ short_of call.length) × (out' ≡ out))
    ⊎ ((call.length ≤ length out) × ((buf : List ℕ)
    × ReadsChain m host q call.third call.address (take call.length out) a buf × (out' ≡ buf ++ drop call.length out)))

-- the answer to a write of bytes that a chain did not take whole
abbrev pub unfinished : ℕ → Answer → Answer
unfinished n a = if a.code == 0 then answer_of_fault (fault.PartialBuffer n a.count) else a

module _ {B : Type 0} (marks : B → ℕ → ℕ → B → Type 0) (m : Memory)
    (step : Host B → (s : MemoryStep) → Returned s → Host B → Type 0) where
  -- bytes go to a chain in flight, which is returned if it took them all
  abbrev pub Completes : Call → List ℕ → DeviceQueue → Host B → Answer → DeviceQueue → Host B → Type 0
  Completes call bytes q old a q' new = (told : Answer) × (mid : Host B)
      × WritesChain marks m q call.third call.address bytes old told mid
      × MatchBool (told.code == 0 && told.count == length bytes)
      (Returns step q call.third call.value mid a q' new)
      ((a ≡ unfinished (length bytes) told) × (q' ≡ q) × (new ≡ mid))

  -- how many bytes were written is a number of 32 bits
  abbrev pub CompletesIf : Call → List ℕ → DeviceQueue → Host B → Answer → DeviceQueue → Host B → Type 0
  CompletesIf call bytes q old a q' new = MatchBool (nat_lt call.value (2 ^ 32))
      (Completes call bytes q old a q' new) ((a ≡ bad_call) × (q' ≡ q) × (new ≡ old))

  -- what a call of a kind does with a queue, a host and an output. Bytes of a chain are moved in memory that stands still
  abbrev pub Works : Kind → Call → List ℕ → DeviceQueue → Host B → List ℕ → Answer → DeviceQueue → Host B → List ℕ
      → Type 0
  Works kind.QueueIsValid call input q host out a q' host' out' =
      TellsValid m host q a × (q' ≡ q) × (host' ≡ host) × (out' ≡ out)
  Works kind.AvailIdx call input q host out a q' host' out' =
      TellsAvail step q.queue host a host' × (q' ≡ q) × (out' ≡ out)
  Works kind.UsedIdx call input q host out a q' host' out' =
      TellsUsed step q.queue host a host' × (q' ≡ q) × (out' ≡ out)
  Works kind.Pop call input q host out a q' host' out' = Pops step q host a q' host' × (out' ≡ out)
  Works kind.ReadChain call input q host out a q' host' out' =
      ReadsInto m call q host out a out' × (q' ≡ q) × (host' ≡ host)
  Works kind.WriteChain call input q host out a q' host' out' =
      WritesChain marks m q call.third call.address input host a host' × (q' ≡ q) × (out' ≡ out)
  Works kind.AddUsed call input q host out a q' host' out' = ReturnsIf step call q host a q' host' × (out' ≡ out)
  Works kind.NeedsNotification call input q host out a q' host' out' =
      NeedsNotification step q host a q' host' × (out' ≡ out)
  Works kind.EnableNotification call input q host out a q' host' out' =
      AsksToNotify step q host a host' × (q' ≡ q) × (out' ≡ out)
  Works kind.DisableNotification call input q host out a q' host' out' =
      AsksNotToNotify step q host a host' × (q' ≡ q) × (out' ≡ out)
  Works kind.BeginRequest call input q host out a q' host' out' =
      BeginsRequest step q call.third (device_limits call) host a host' × (q' ≡ q) × (out' ≡ out)
  Works kind.FinishRequest call input q host out a q' host' out' =
      FinishesIf step call q host a host' × (q' ≡ q) × (out' ≡ out)
  Works kind.CompleteChain call input q host out a q' host' out' =
      CompletesIf call input q host a q' host' × (out' ≡ out)
  Works k call input q host out a q' host' out' = ⊥

module _ (steps : Steps) where
  -- a call on a queue and the memory that it names, if the machine has that
  abbrev pub WorksOnBy : Kind → Call → List ℕ → State → DeviceQueue → List ℕ → Answer → State → DeviceQueue → List ℕ
      → Type 0
  WorksOnBy k call input old q out a new q' out' = MatchOption (slice_get old.memories call.second)
      ((a ≡ no_such) × (new ≡ old) × (q' ≡ q) × (out' ≡ out))
      (λ m. (host : Host PageSet) × Works marks_pages m (steps m) k call input q old.host out a q' host out'
      × (new ≡ record old { host = host }))

-- the same, if nobody else writes memory meanwhile
abbrev pub WorksOn : Kind → Call → List ℕ → State → DeviceQueue → List ℕ → Answer → State → DeviceQueue → List ℕ
    → Type 0
WorksOn = WorksOnBy (Still marks_pages)

-- ---- calls of a session

-- nothing was done
abbrev pub Refuses : Answer → SessionState → List ℕ → Answer → SessionState → List ℕ → Type 0
Refuses told old out a new out' = (a ≡ told) × (new ≡ old) × (out' ≡ out)

-- what a call of a kind does with a queue alone
abbrev pub OneQueue : Kind → Call → DeviceQueue → List ℕ → Answer → DeviceQueue → List ℕ → Type 0
OneQueue kind.SetQueue call q out a q' out' = SetsAnyPart (part_at call.second) call.value q.queue a q'.queue
    × (q' ≡ record q { queue = q'.queue }) × (out' ≡ out)
OneQueue kind.ResetQueue call q out a q' out' = (a ≡ coded 0) × (q' ≡ cleared q) × (out' ≡ out)
OneQueue kind.QueueState call q out a q' out' = ListsState q.queue out a out' × (q' ≡ q)
OneQueue kind.Forget call q out a q' out' = Forgets q call.third a q' × (out' ≡ out)
OneQueue kind.ListSegments call q out a q' out' = ListsSegments q call.third out a out' × (q' ≡ q)
OneQueue k call q out a q' out' = ⊥

-- a call on a queue, if there is one of this number
abbrev pub OnQueue : Kind → SessionState → Call → List ℕ → Answer → SessionState → List ℕ → Type 0
OnQueue k old call out a new out' = MatchOption (slice_get old.queues call.first) (Refuses no_such old out a new out')
    (λ q. (q' : DeviceQueue) × OneQueue k call q out a q' out'
    × (new ≡ record { machine = old.machine; queues = slice_set old.queues call.first q' }))

-- a call on a queue and a memory, if there are both
abbrev pub OnBothBy : Steps → Kind → SessionState → Call → List ℕ → List ℕ → Answer → SessionState → List ℕ → Type 0
OnBothBy steps k old call input out a new out' = MatchOption (slice_get old.queues call.first)
    (Refuses no_such old out a new out')
    (λ q. (q' : DeviceQueue) × WorksOnBy steps k call input old.machine q out a new.machine q' out'
    × (new.queues ≡ slice_set old.queues call.first q'))

abbrev pub OnBoth : Kind → SessionState → Call → List ℕ → List ℕ → Answer → SessionState → List ℕ → Type 0
OnBoth = OnBothBy (Still marks_pages)

-- what is answered to a call on queues alone
abbrev pub AnswersQueue : Kind → SessionState → Call → List ℕ → List ℕ → Answer → SessionState → List ℕ → Type 0
AnswersQueue kind.Queue old call input out a new out' = MakesQueue false old.queues call a new.queues
    × (new ≡ record { machine = old.machine; queues = new.queues }) × (out' ≡ out)
AnswersQueue kind.PackedQueue old call input out a new out' = MakesQueue true old.queues call a new.queues
    × (new ≡ record { machine = old.machine; queues = new.queues }) × (out' ≡ out)
AnswersQueue k old call input out a new out' = OnQueue k old call out a new out'
