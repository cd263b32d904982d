-- The requests of a ring in a region that outlives the back end: what a ring stores there, and how it goes on by it.
use Rattle.std.specs.Prelude.{◌≡◌, ◌⊎◌, ℕ, ◌+◌, ◌*◌, ◌^◌, Bool, true, false, not, ◌&&◌, List, [], ◌∷◌, drop, length, map, slice_get, Option, Some, None, is_none, is_some, option_map, Result, Ok, Err, IfOk, MatchBool, MatchOption, MatchResult}
use Rattle.std.specs.declared.alloc.AllocError.{AllocError}
use Rattle.vm_memory_device.specs.declared.chain.Segment.{Segment}
use Rattle.virtio_blk.specs.declared.request.DeviceLimits.{DeviceLimits}
use Rattle.virtio_queue.specs.Any.{at_next, next_avail_of, of_head, past}
use Rattle.virtio_queue.specs.Packed.{PackedVirtqueue, at_base, to_bits}
use Rattle.virtio_queue.specs.declared.any.AnyQueue.{AnyQueue}
use Rattle.virtio_queue.specs.declared.any.AnyQueue.TheVariants.{Split, Packed}
use Rattle.virtio_queue.specs.declared.error.QueueError.{QueueError}
use Rattle.virtio_queue.specs.declared.packed.descriptor.PackedDescriptor.{PackedDescriptor}
use Rattle.virtio_queue.specs.declared.packed.state.PackedBuffer.{PackedBuffer}
use Rattle.virtio_queue.specs.declared.packed.state.PackedState.{PackedState}
use Rattle.vhost_inflight.specs.PackedBytes.{old_slot}
use Rattle.vhost_inflight.specs.PackedBytes.{region_of as packed_region_of}
use Rattle.vhost_inflight.specs.PackedStart.{StartFails}
use Rattle.vhost_inflight.specs.PackedStart.{Starts as PackedStarts, start_fault as packed_fault}
use Rattle.vhost_inflight.specs.Split.{after_pop, after_return, begin_return_stores, end_return_stores, place, pop_stores}
use Rattle.vhost_inflight.specs.SplitBytes.{region_of}
use Rattle.vhost_inflight.specs.SplitStart.{Starts, start_fault}
use Rattle.vhost_inflight.specs.declared.packed.PackedReturn.{PackedReturn}
use Rattle.vhost_inflight.specs.declared.packed.PackedStore.{PackedStore}
use Rattle.vhost_inflight.specs.declared.packed_error.PackedStartError.{PackedStartError}
use Rattle.vhost_inflight.specs.declared.packed_error.PackedStartError.TheVariants as packed
use Rattle.vhost_inflight.specs.declared.packed_region.PackedPosition.{PackedPosition}
use Rattle.vhost_inflight.specs.declared.packed_start.PackedStart.{PackedStart}
use Rattle.vhost_inflight.specs.declared.split.SplitInFlight.{SplitInFlight}
use Rattle.vhost_inflight.specs.declared.split.SplitStore.{SplitStore}
use Rattle.vhost_inflight.specs.declared.split_start.SplitStart.{SplitStart}
use Rattle.vhost_inflight.specs.declared.split_start.StartError.{StartError}
use Rattle.vhost_inflight.specs.declared.split_start.StartError.TheVariants as start
use Rattle.vhost_inflight.specs.declared.store.Store.{Store}
use Rattle.vhost_backend.specs.Behind.{AfterLook, HappensBy}
use Rattle.vhost_backend.specs.BlockQueue.{Asks, Begins, BlockQueueState, FlightState, GivesBack, Reads, event_of, refused, with_flight, with_queue}
use Rattle.vhost_backend.specs.Marks.{MarksRing, logged_at}
use Rattle.vhost_backend.specs.PackedFlight.{PackedFlightState, StoresPop, TracksPacked, TracksPackedAt, buffer_of, copy_by, first_again, flight_of, listed, passed, popped_found, return_stores, returned_by}
use Rattle.vhost_backend.specs.PageList.{capped}
use Rattle.vhost_backend.specs.RingMemory.{MemoryStep, Returned, finds_copies, pops_again, reads_flags, reads_region, tracks}
use Rattle.vhost_backend.specs.SetUp.{is_split}
use Rattle.vhost_backend.specs.Sight.{Sight}
use Rattle.vhost_backend.specs.declared.block_queue.GiveBack.{GiveBack}
use Rattle.vhost_backend.specs.declared.block_queue.GiveBack.TheVariants as back
use Rattle.vhost_backend.specs.declared.block_queue.Pop.{Pop}
use Rattle.vhost_backend.specs.declared.fetch.Found.{Found}
use Rattle.vhost_backend.specs.declared.flight.FlightPlace.{FlightPlace}
use Rattle.vhost_backend.specs.declared.pieces.Piece.{Piece}
use Rattle.vhost_backend.specs.declared.request.Chain.{Chain}
use Rattle.vhost_backend.specs.declared.ring.RingEvent.{RingEvent}
use Rattle.vhost_backend.specs.declared.ring.RingEvent.TheVariants.{Break, Emptied, Kick, Popped}

-- ---- without memory

-- a store to a ring's part of the region
abbrev pub store_at : FlightPlace → SplitStore → Store
store_at p s = let to = place s in record to { offset = capped (p.base + to.offset) }

-- the ring goes on after its region was read: what was in flight is popped again, and then what follows
abbrev pub gone_on_by : BlockQueueState → SplitStart → BlockQueueState
gone_on_by q s = record q {
  queue = at_next q.queue s.next_avail;
  flight = record q.flight { is_unread = false; kept = Some s.in_flight; again = s.again.items; packed = None };
}

-- a region that no run leaves breaks its ring. If an allocation failed, it is read again
abbrev pub start_refused : StartError → Option RingEvent
start_refused start.Memory = None
start_refused e = Some Break

-- a ring is read where its chains are returned, and its region after that, once its areas are there
abbrev pub is_open : Option Sight → BlockQueueState → Bool
is_open None q = true
is_open (Some way) q = q.reach.is_reached && is_none q.reach.fetch

abbrev pub is_due : Option Sight → BlockQueueState → Bool
is_due way q = q.flight.is_unread && is_open way q

-- where its ring goes on by these bytes, which are for so many descriptors. It has a size and a used index
abbrev pub StartsBy : List ℕ → ℕ → ℕ → ℕ → Result SplitStart StartError → Type 0
StartsBy bytes descriptors size used (Ok s) = Starts descriptors (region_of descriptors bytes) used s
    × (start_fault descriptors size bytes used ≡ None)
StartsBy bytes descriptors size used (Err e) =
    (e ≡ start.Memory) ⊎ (start_fault descriptors size bytes used ≡ Some e)

-- where a split queue returns its next chain, and its size
abbrev pub next_used_of : AnyQueue → ℕ
next_used_of (Split u) = u.state.next_used
next_used_of (Packed u) = 0

abbrev pub size_of : AnyQueue → ℕ
size_of (Split u) = u.state.size
size_of (Packed u) = u.state.size

-- a used ring as a whole
abbrev pub used_ring_of : AnyQueue → Piece
used_ring_of (Split u) = record { base = u.state.used_ring; offset = 0; len = 6 + 8 * u.state.size }
used_ring_of (Packed u) = record { base = u.state.desc_ring; offset = 0; len = 16 * u.state.size }

-- what is stored before a return and after it, if the chain is in flight
abbrev pub before_of : Option PackedReturn → List PackedStore
before_of None = []
before_of (Some r) = r.before

abbrev pub after_of : Option PackedReturn → List PackedStore
after_of None = []
after_of (Some r) = r.after

abbrev pub returns_by : ℕ → Option PackedFlightState → Option PackedReturn
returns_by id None = None
returns_by id (Some k) = return_stores id k

-- what a packed queue goes on by: where it stands, and where both sides go on
abbrev pub base_in : PackedState → PackedPosition
base_in s = record { slot = s.next_used.slot; wrap = s.next_used.wrap }

abbrev pub bits_of : PackedPosition → ℕ
bits_of p = to_bits (record { slot = p.slot; wrap = p.wrap })

abbrev pub stood_at : AnyQueue → PackedPosition → PackedPosition → AnyQueue
stood_at (Split u) avail used = Split u
stood_at (Packed u) avail used = Packed (at_base u (bits_of avail + 2 ^ 16 * bits_of used)).1

abbrev pub packed_on_by : BlockQueueState → PackedStart → PackedFlightState → BlockQueueState
packed_on_by q s k = record q {
  queue = stood_at q.queue s.next_avail s.next_used;
  flight = record q.flight { is_unread = false; packed = Some k };
}

abbrev pub packed_refused : PackedStartError → Option RingEvent
packed_refused packed.Memory = None
packed_refused e = Some Break

-- where a packed ring goes on by these bytes, and the flags of the slot that they name
abbrev pub PackedStartsBy : List ℕ → ℕ → ℕ → PackedPosition → ℕ → Result PackedStart PackedStartError → Type 0
PackedStartsBy bytes descriptors size base flags (Ok s) = PackedStarts descriptors size (packed_region_of descriptors bytes) base flags s
    × (packed_fault descriptors size bytes ≡ None)
PackedStartsBy bytes descriptors size base flags (Err e) = (e ≡ packed.Memory) ⊎ ((packed_fault descriptors size bytes ≡ Some e)
    ⊎ ((packed_fault descriptors size bytes ≡ None)
    × StartFails descriptors size (packed_region_of descriptors bytes) base flags e))

-- a chain whose descriptors are known: what it is returned by, and where the queue goes on after it
abbrev pub found_as : PackedBuffer → ℕ → Result (List Segment) QueueError → Result (Option Found) QueueError
found_as buffer after (Ok chain) = Ok (Some (record { chain = chain; buffer = buffer; after = after }))
found_as buffer after (Err e) = Err e

-- the queue goes on there
abbrev pub gone_to : BlockQueueState → ℕ → BlockQueueState
gone_to q after = with_queue q (at_next q.queue after)

-- what was in flight and is popped again next: by what it is returned, and its descriptors in a packed queue
abbrev pub again_or : Option ℕ → Option (List PackedDescriptor) → Option (PackedBuffer × List PackedDescriptor)
again_or (Some head) o = Some (of_head head, [])
again_or None o = option_map (λ ds. (buffer_of ds, ds)) o

abbrev pub packed_again : Option PackedFlightState → Option (List PackedDescriptor)
packed_again None = None
packed_again (Some k) = first_again k

abbrev pub next_again : FlightState → Option (PackedBuffer × List PackedDescriptor)
next_again f = again_or (slice_get f.again 0) (packed_again f.packed)

-- whether a ring pops chains by their descriptors
abbrev pub pops_copies : Option Sight → BlockQueueState → Bool
pops_copies way q = is_some q.flight.packed && (not (is_split q.queue) && is_open way q)

-- it is popped again once, and only what is popped anew is in flight from then on
abbrev pub passed_too : FlightState → ℕ → FlightState
passed_too f id = record f { again = drop 1 f.again; packed = option_map (passed id) f.packed }

-- what a packed ring keeps once the chain with an id is to be returned
abbrev pub returned_too : FlightState → ℕ → FlightState
returned_too f id = record f { packed = option_map (returned_by id) f.packed }

abbrev pub flown : BlockQueueState → ℕ → BlockQueueState
flown q id = with_flight q (passed_too q.flight id)

-- the descriptors that were found last
abbrev pub found_in : Option PackedFlightState → List PackedDescriptor
found_in None = []
found_in (Some k) = k.found

abbrev pub with_found : FlightState → PackedFlightState → List PackedDescriptor → FlightState
with_found f k ds = record f { packed = Some (record k { found = ds }) }

abbrev pub with_kept : BlockQueueState → SplitInFlight → BlockQueueState
with_kept q kept = with_flight q (record q.flight { kept = Some kept })

-- ---- on memory

module _ {H : Type 0} (step : H → (s : MemoryStep) → Returned s → H → Type 0) where
  -- stores to a ring's part of the region, one after another
  abbrev pub Tracks : FlightPlace → List SplitStore → H → H → Type 0
  Tracks p [] old new = new ≡ old
  Tracks p (s ∷ ss) old new = (mid : H) × step old (tracks (store_at p s)) tt mid × Tracks p ss mid new

  abbrev pub TracksAt : Option FlightPlace → List SplitStore → H → H → Type 0
  TracksAt None ss old new = new ≡ old
  TracksAt (Some p) ss old new = Tracks p ss old new

  -- ---- a start

  -- what the region and the ring say is stored, before anything else is done; and the used ring may have been written by
  -- a back end that ended before it was marked
  abbrev pub AfterStart : BlockQueueState → FlightPlace → Result SplitStart StartError → H → Option RingEvent
      → BlockQueueState → H → Type 0
  AfterStart q p (Ok s) old a q' new = (mid : H) × Tracks p s.stores.items old mid
      × MarksRing step (logged_at q.reach.log (used_ring_of q.queue)) mid new
      × (a ≡ Some Kick) × (q' ≡ gone_on_by q s)
  AfterStart q p (Err e) old a q' new = (a ≡ start_refused e) × (q' ≡ q) × (new ≡ old)

  -- so does a packed ring
  abbrev pub AfterPackedStart : BlockQueueState → FlightPlace → Result PackedStart PackedStartError → H
      → Option RingEvent → BlockQueueState → H → Type 0
  AfterPackedStart q p (Ok s) old a q' new = (r : Result PackedFlightState AllocError)
      × IfOk r (λ k. k ≡ flight_of (length q.asked) s) × MatchResult r
      (λ k. (mid : H) × TracksPacked step p s.stores.items old mid
      × MarksRing step (logged_at q.reach.log (used_ring_of q.queue)) mid new
      × (a ≡ Some Kick) × (q' ≡ packed_on_by q s k))
      (λ e. (a ≡ None) × (q' ≡ q) × (new ≡ old))
  AfterPackedStart q p (Err e) old a q' new = (a ≡ packed_refused e) × (q' ≡ q) × (new ≡ old)

  -- the flags of the slot that the region names are read, if it names one
  abbrev pub ReadsOld : PackedVirtqueue → Option ℕ → H → Result ℕ QueueError → H → Type 0
  ReadsOld u None old r new = (r ≡ Ok 0) × (new ≡ old)
  ReadsOld u (Some slot) old r new = step old (reads_flags u slot) r new

  abbrev pub AfterOld : ℕ → PackedPosition → BlockQueueState → FlightPlace → List ℕ → Result ℕ QueueError → H
      → Option RingEvent → BlockQueueState → H → Type 0
  AfterOld size base q p bytes (Ok flags) old a q' new = (r : Result PackedStart PackedStartError)
      × PackedStartsBy bytes p.descriptors size base flags r × AfterPackedStart q p r old a q' new
  AfterOld size base q p bytes (Err e) old a q' new = (a ≡ event_of (refused e)) × (q' ≡ q) × (new ≡ old)

  abbrev pub GoesOnFrom : AnyQueue → BlockQueueState → FlightPlace → List ℕ → H → Option RingEvent → BlockQueueState → H
      → Type 0
  GoesOnFrom (Split u) q p bytes old a q' new = (r : Result SplitStart StartError)
      × StartsBy bytes p.descriptors (size_of q.queue) (next_used_of q.queue) r × AfterStart q p r old a q' new
  GoesOnFrom (Packed u) q p bytes old a q' new = (flags : Result ℕ QueueError) × (mid : H)
      × ReadsOld u (old_slot u.state.size bytes) old flags mid
      × AfterOld u.state.size (base_in u.state) q p bytes flags mid a q' new

  abbrev pub AfterRegion : BlockQueueState → FlightPlace → Result (List ℕ) AllocError → H → Option RingEvent
      → BlockQueueState → H → Type 0
  AfterRegion q p (Ok bytes) old a q' new = GoesOnFrom q.queue q p bytes old a q' new
  AfterRegion q p (Err e) old a q' new = (a ≡ None) × (q' ≡ q) × (new ≡ old)

  abbrev pub ReadsRegion : BlockQueueState → Option FlightPlace → H → Option RingEvent → BlockQueueState → H → Type 0
  ReadsRegion q None old a q' new =
      (a ≡ Some Kick) × (q' ≡ with_flight q (record q.flight { is_unread = false })) × (new ≡ old)
  ReadsRegion q (Some p) old a q' new = (r : Result (List ℕ) AllocError) × (mid : H)
      × step old (reads_region p.base p.len) r mid × AfterRegion q p r mid a q' new

  abbrev pub AfterUsed : BlockQueueState → Result (Unit {0}) QueueError → H → Option RingEvent → BlockQueueState → H
      → Type 0
  AfterUsed q (Ok done) old a q' new = ReadsRegion q q.flight.place old a q' new
  AfterUsed q (Err e) old a q' new = (a ≡ event_of (refused e)) × (q' ≡ q) × (new ≡ old)

  -- it is read where the ring returns its chains, and then what the region has
  abbrev pub Resumes : BlockQueueState → H → Option RingEvent → BlockQueueState → H → Type 0
  Resumes q old a q' new = (r : Result (Unit {0}) QueueError) × (mid_q : BlockQueueState) × (mid : H)
      × Reads step q old r mid_q mid × AfterUsed mid_q r mid a q' new

  -- ---- what is popped

  -- a chain that was popped is in flight from then on, before it is served. One that was is popped again
  abbrev pub FliesIn : Option PackedFlightState → ℕ → FlightState → H → FlightState → H → Type 0
  FliesIn None id f old f' new = (f' ≡ f) × (new ≡ old)
  FliesIn (Some k) id f old f' new = StoresPop step f.place k.kept (map copy_by k.found) old new
      × (f' ≡ record f { packed = Some (popped_found id k) })

  abbrev pub FliesPacked : ℕ → BlockQueueState → H → BlockQueueState → H → Type 0
  FliesPacked id q old q' new =
      FliesIn q.flight.packed id q.flight old q'.flight new × (q' ≡ with_flight q q'.flight)

  abbrev pub FliesAt : Option (PackedBuffer × List PackedDescriptor) → Chain → BlockQueueState → H → BlockQueueState → H
      → Type 0
  FliesAt (Some p) chain q old q' new = (q' ≡ flown q chain.id) × (new ≡ old)
  FliesAt None chain q old q' new = MatchOption q.flight.kept (FliesPacked chain.id q old q' new)
      (λ k. TracksAt q.flight.place (pop_stores k chain.id) old new × (q' ≡ with_kept q (after_pop k)))

  abbrev pub FliesBy : Option RingEvent → BlockQueueState → H → BlockQueueState → H → Type 0
  FliesBy (Some (Popped chain parts bytes)) q old q' new = FliesAt (next_again q.flight) chain q old q' new
  FliesBy a q old q' new = (q' ≡ q) × (new ≡ old)

  -- a look for the descriptors of the next chain, which are kept until the next look
  abbrev pub FindsIn : PackedVirtqueue → PackedFlightState → FlightState → H
      → Result (Option (List PackedDescriptor)) QueueError → FlightState → H → Type 0
  FindsIn u k f old r f' new = step old (finds_copies u) r new × (f' ≡ with_found f k (listed r))

  abbrev pub FindsCopies : PackedVirtqueue → PackedFlightState → BlockQueueState → H
      → Result (Option (List PackedDescriptor)) QueueError → BlockQueueState → H → Type 0
  FindsCopies u k q old r q' new = FindsIn u k q.flight old r q'.flight new × (q' ≡ with_flight q q'.flight)

  module _ (terms : DeviceLimits) where
    -- ---- chains whose descriptors are known

    -- a chain whose descriptors are known is popped. If its request is not begun, the queue goes back
    abbrev pub BeginsKnown : BlockQueueState → Found → H → Option RingEvent → BlockQueueState → H → Type 0
    BeginsKnown q f old a q' new = (found : Pop) × Begins step terms
        (at_next (at_next q.queue f.after) (next_avail_of q.queue)) (gone_to q f.after) f.buffer f.chain old found q' new
        × (a ≡ event_of found)

    -- if a table translates the ring's addresses, its bytes are fetched first
    abbrev pub AfterKnown : Option Sight → BlockQueueState → Result (Option Found) QueueError → H → Option RingEvent
        → BlockQueueState → H → Type 0
    AfterKnown None q (Ok (Some f)) old a q' new = BeginsKnown q f old a q' new
    AfterKnown None q (Ok None) old a q' new = (a ≡ Some Emptied) × (q' ≡ q) × (new ≡ old)
    AfterKnown None q (Err e) old a q' new = (a ≡ event_of (refused e)) × (q' ≡ q) × (new ≡ old)
    AfterKnown (Some way) q r old a q' new = AfterLook step terms q r old a q' new

    abbrev pub PopsAgain : Option Sight → BlockQueueState → PackedBuffer → ℕ → List PackedDescriptor → H
        → Option RingEvent → BlockQueueState → H → Type 0
    PopsAgain way q buffer after ds old a q' new = (r : Result (List Segment) QueueError) × (mid : H)
        × step old (pops_again q.queue buffer.id ds) r mid × AfterKnown way q (found_as buffer after r) mid a q' new

    -- ---- chains of a packed ring that keeps what is in flight

    -- the chain of the descriptors that were found is popped: it is made of these, and none is looked at again
    abbrev pub AfterCopies : Option Sight → Result (Option (List PackedDescriptor)) QueueError → BlockQueueState → H
        → Option RingEvent → BlockQueueState → H → Type 0
    AfterCopies way (Ok (Some ds)) q old a q' new =
        PopsAgain way q (buffer_of ds) (next_avail_of (past q.queue (buffer_of ds))) ds old a q' new
    AfterCopies way (Ok None) q old a q' new = AfterKnown way q (Ok None) old a q' new
    AfterCopies way (Err e) q old a q' new = AfterKnown way q (Err e) old a q' new

    -- if there is none, the driver is asked to notify, and it is looked for again
    abbrev pub AfterAskCopies : Option Sight → PackedVirtqueue → PackedFlightState → Result Bool QueueError → BlockQueueState
        → H → Option RingEvent → BlockQueueState → H → Type 0
    AfterAskCopies way u k (Ok true) q old a q' new = (r : Result (Option (List PackedDescriptor)) QueueError)
        × (mid_q : BlockQueueState) × (mid : H) × FindsCopies u k q old r mid_q mid
        × AfterCopies way r mid_q mid a q' new
    AfterAskCopies way u k (Ok false) q old a q' new = (a ≡ Some Emptied) × (q' ≡ q) × (new ≡ old)
    AfterAskCopies way u k (Err e) q old a q' new = (a ≡ event_of (refused e)) × (q' ≡ q) × (new ≡ old)

    abbrev pub WaitsCopies : Option Sight → PackedVirtqueue → PackedFlightState → BlockQueueState → H → Option RingEvent
        → BlockQueueState → H → Type 0
    WaitsCopies way u k q old a q' new = (r : Result Bool QueueError) × (mid : H) × Asks step q old r mid
        × AfterAskCopies way u k r q mid a q' new

    abbrev pub AfterFirst : Option Sight → PackedVirtqueue → PackedFlightState
        → Result (Option (List PackedDescriptor)) QueueError → BlockQueueState → H → Option RingEvent → BlockQueueState → H
        → Type 0
    AfterFirst way u k (Ok None) q old a q' new = WaitsCopies way u k q old a q' new
    AfterFirst way u k r q old a q' new = AfterCopies way r q old a q' new

    abbrev pub PopsCopies : Option Sight → PackedVirtqueue → PackedFlightState → BlockQueueState → H → Option RingEvent
        → BlockQueueState → H → Type 0
    PopsCopies way u k q old a q' new = (r : Result (Option (List PackedDescriptor)) QueueError)
        × (mid_q : BlockQueueState) × (mid : H) × FindsCopies u k q old r mid_q mid
        × AfterFirst way u k r mid_q mid a q' new

    -- what is popped anew. A packed ring that keeps what is in flight has the descriptors by the look that pops them
    abbrev pub HappensNew : Option Sight → AnyQueue → Option PackedFlightState → BlockQueueState → H → Option RingEvent
        → BlockQueueState → H → Type 0
    HappensNew way (Packed u) (Some k) q old a q' new = MatchBool (is_open way q) (PopsCopies way u k q old a q' new)
        (HappensBy step way terms q old a q' new)
    HappensNew way u o q old a q' new = HappensBy step way terms q old a q' new

    -- ---- turns

    -- what was in flight comes before what is popped anew
    abbrev pub HappensFirst : Option Sight → BlockQueueState → Option (PackedBuffer × List PackedDescriptor) → H
        → Option RingEvent → BlockQueueState → H → Type 0
    HappensFirst way q None old a q' new = HappensNew way q.queue q.flight.packed q old a q' new
    HappensFirst way q (Some p) old a q' new = MatchBool (is_open way q)
        (PopsAgain way q p.0 (next_avail_of q.queue) p.1 old a q' new) (HappensBy step way terms q old a q' new)

    abbrev pub Flies : Option Sight → BlockQueueState → H → Option RingEvent → BlockQueueState → H → Type 0
    Flies way q old a q' new = (mid_q : BlockQueueState) × (mid : H)
        × HappensFirst way q (next_again q.flight) old a mid_q mid × FliesBy a mid_q mid q' new

    -- what happens to a ring next in its turn
    abbrev pub HappensIn : Option Sight → BlockQueueState → H → Option RingEvent → BlockQueueState → H → Type 0
    HappensIn way q old a q' new = MatchBool (is_due way q) (Resumes q old a q' new) (Flies way q old a q' new)

  -- ---- returns

  -- a chain that was returned is in flight no longer
  abbrev pub Lands : GiveBack → BlockQueueState → Chain → H → H → Type 0
  Lands back.Done q chain old new =
      TracksAt q.flight.place (end_return_stores chain.id (next_used_of q.queue)) old new
  Lands (back.Broken e) q chain old new = new ≡ old

  abbrev pub LandsPacked : GiveBack → BlockQueueState → List PackedStore → H → H → Type 0
  LandsPacked back.Done q stores old new = TracksPackedAt step q.flight.place stores old new
  LandsPacked (back.Broken e) q stores old new = new ≡ old

  abbrev pub GivesPacked : BlockQueueState → Chain → ℕ → H → GiveBack → BlockQueueState → H → Type 0
  GivesPacked q chain len old a q' new = let stores = returns_by chain.id q.flight.packed in (one two : H)
      × TracksPackedAt step q.flight.place (before_of stores) old one
      × GivesBack step (with_flight q (returned_too q.flight chain.id)) chain len one a q' two
      × LandsPacked a q' (after_of stores) two new

  -- a chain is returned: the region names it before the ring does, and has it in flight until after that
  abbrev pub GivesIn : BlockQueueState → Chain → ℕ → H → GiveBack → BlockQueueState → H → Type 0
  GivesIn q chain len old a q' new = MatchOption q.flight.kept (GivesPacked q chain len old a q' new)
      (λ k. (one two : H) × TracksAt q.flight.place (begin_return_stores k chain.id) old one
      × GivesBack step (with_kept q (after_return k chain.id)) chain len one a q' two × Lands a q' chain two new)
