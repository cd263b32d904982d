-- The queue of a ring of a block device: what a pop and a return do, step by step, and what they leave.
use Rattle.std.specs.Prelude.{◌≡◌, ◌⊎◌, ℕ, ◌<◌, ◌^◌, Bool, true, false, not, ◌&&◌, nat_le, nat_lt, if◌then◌else◌, List, [], ◌∷◌, length, replicate, slice_get, slice_index_or, slice_set, Option, Some, None, is_some, Result, Ok, Err, MatchBool, MatchOption, MatchResult}
use Rattle.vm_memory_guest.specs.declared.region.error.GuestMemoryError.{GuestMemoryError}
use Rattle.vm_memory_device.specs.declared.chain.Segment.{Segment}
use Rattle.virtio_queue.specs.Any.{after_used, past, with_ready}
use Rattle.virtio_queue.specs.State.{Virtqueue}
use Rattle.virtio_queue.specs.declared.any.AnyQueue.{AnyQueue}
use Rattle.virtio_queue.specs.declared.any.AnyQueue.TheVariants.{Split, Packed}
use Rattle.virtio_queue.specs.declared.error.QueueError.{QueueError}
use Rattle.virtio_queue.specs.declared.error.QueueError.TheVariants as errors
use Rattle.virtio_queue.specs.declared.packed.state.PackedBuffer.{PackedBuffer}
use Rattle.virtio_blk.specs.declared.request.Request.{Request}
use Rattle.virtio_blk.specs.declared.request.Request.TheVariants.{Refused}
use Rattle.virtio_blk.specs.declared.request.DeviceLimits.{DeviceLimits}
use Rattle.vhost_backend.specs.Block.{Short, block_parts, len_of, status_of, written_of}
use Rattle.vhost_backend.specs.Fetch.{is_same_place}
use Rattle.vhost_backend.specs.PackedFlight.{PackedFlightState}
use Rattle.vhost_backend.specs.Marks.{Marks, MarksRing, asking_marks, chain_marks, return_marks}
use Rattle.vhost_backend.specs.Ring.{RingState, Step}
use Rattle.vhost_backend.specs.Reach.{ReachState, moved_to, same_log, unreached}
use Rattle.vhost_backend.specs.RingMemory.{MemoryStep, Returned, adds_used, begins, enables, finds_copies, finishes, pops, reads_used}
use Rattle.vhost_backend.specs.SetUp.{is_split}
use Rattle.vhost_backend.specs.Story.{busy, of_id, returned}
use Rattle.vhost_inflight.specs.declared.split.SplitInFlight.{SplitInFlight}
use Rattle.vhost_backend.specs.declared.block_queue.Asked.{Asked}
use Rattle.vhost_backend.specs.declared.block_queue.Finished.{Finished}
use Rattle.vhost_backend.specs.declared.block_queue.Finished.TheVariants as finished
use Rattle.vhost_backend.specs.declared.block_queue.GiveBack.{GiveBack}
use Rattle.vhost_backend.specs.declared.block_queue.GiveBack.TheVariants as back
use Rattle.vhost_backend.specs.declared.block_queue.Pop.{Pop}
use Rattle.vhost_backend.specs.declared.block_queue.Pop.TheVariants as pop
use Rattle.vhost_backend.specs.declared.flight.FlightPlace.{FlightPlace}
use Rattle.vhost_backend.specs.declared.request.Chain.{Chain}
use Rattle.vhost_backend.specs.declared.ring.RingEvent.{RingEvent}
use Rattle.vhost_backend.specs.declared.ring.RingEvent.TheVariants.{Break, Popped, Emptied}

-- what a ring has of a region that outlives the back end
pub record FlightState : Type 0 where
  -- its part of the region, if there is one
  pub place : Option FlightPlace
  -- the ring was started, and that part was not read since
  pub is_unread : Bool
  -- what is kept of it, if the ring stores there
  pub kept : Option SplitInFlight
  -- the heads that were in flight when the ring was started, and are popped again, in order
  pub again : List ℕ
  -- what a packed ring keeps and pops again in place of these
  pub packed : Option PackedFlightState

-- of a ring that nobody started on its part, if it has one
abbrev pub landed : Option FlightPlace → FlightState
landed place = record { place = place; is_unread = false; kept = None; again = []; packed = None }

-- of one that was started
abbrev pub flight_started : Option FlightPlace → FlightState
flight_started place = record (landed place) { is_unread = is_some place }

pub record BlockQueueState : Type 0 where
  pub queue : AnyQueue
  -- the split queue of a ring that was started did not have its turn: where it returns its next chain is not known
  pub is_unread : Bool
  -- for each id the request that is under way, if one is
  pub asked : List (Option Asked)
  -- what is kept for its ring, and what is fetched
  pub reach : ReachState
  -- what it has of the region of requests in flight
  pub flight : FlightState

abbrev pub new_queue : AnyQueue → ℕ → BlockQueueState
new_queue queue ids = record { queue = queue; is_unread = false; asked = replicate ids None; reach = unreached; flight = landed None }

abbrev pub asked_at : BlockQueueState → ℕ → Option Asked
asked_at q id = slice_index_or q.asked id None

abbrev pub with_asked : BlockQueueState → ℕ → Option Asked → BlockQueueState
with_asked q id asked = record q { asked = slice_set q.asked id asked }

abbrev pub with_queue : BlockQueueState → AnyQueue → BlockQueueState
with_queue q queue = record q { queue = queue }

-- the queue of a ring that was started
abbrev pub started : BlockQueueState → AnyQueue → Option ℕ → Option FlightPlace → BlockQueueState
started q queue log place =
    record q {
      queue = queue;
      is_unread = is_split queue;
      reach = moved_to q.reach log;
      flight = flight_started place;
    }

-- one that may lie elsewhere
abbrev pub moved : BlockQueueState → AnyQueue → Option ℕ → BlockQueueState
moved q queue log = record q {
  queue = queue;
  reach = if is_same_place q.queue queue && same_log q.reach.log log then q.reach else moved_to q.reach log;
}

-- one that is not set up from then on
abbrev pub unset : BlockQueueState → BlockQueueState
unset q = record q {
  queue = with_ready q.queue false;
  reach = record q.reach { fetch = None };
  flight = landed q.flight.place;
}

abbrev pub with_flight : BlockQueueState → FlightState → BlockQueueState
with_flight q flight = record q { flight = flight }

-- a chain can be under way if its id has a place, and no other of this id is
abbrev pub has_place : BlockQueueState → ℕ → Bool
has_place q id = nat_lt id (length q.asked) && not (is_some (asked_at q id))

-- each request that is under way has the data of one chain
abbrev pub AllShort : List (Option Asked) → Type 0
AllShort asked = (i : ℕ) (a : Asked) → slice_get asked i ≡ Some (Some a) → Short a.request

-- one with more data than a chain can have, or with more segments than there may be, is refused
abbrev pub shortened : ℕ → ℕ → Request → Request
shortened most segments request =
    if nat_lt (len_of request) (2 ^ 32) && nat_le segments most then request else Refused 1

-- ---- where chains are returned

-- a split queue returns its next chain where its used ring says
abbrev pub returns_at : Virtqueue → ℕ → Virtqueue
returns_at q next = record { state = record q.state { next_used = next }; added = None }

abbrev pub read_by : BlockQueueState → Virtqueue → Result ℕ QueueError → BlockQueueState × Result (Unit {0}) QueueError
read_by q u (Ok next) = (record q { queue = Split (returns_at u next); is_unread = false }, Ok tt)
read_by q u (Err e) = (q, Err e)

-- ---- pops

abbrev pub chain_by : PackedBuffer → Chain
chain_by buffer = record { id = buffer.id; slots = buffer.slots }

abbrev pub buffer_by : Chain → PackedBuffer
buffer_by chain = record { id = chain.id; slots = chain.slots }

-- a chain whose queue is refused is popped later, if there was no memory. Else its ring breaks
abbrev pub refused : QueueError → Pop
refused errors.Memory = pop.Later
refused e = pop.Broken e

abbrev pub popped : PackedBuffer → Request → Pop
popped buffer request = pop.Chain (chain_by buffer) (block_parts request) (len_of request)

-- what a chain that was popped leaves: its request is under way. If its header was not read, it is the next one again
abbrev pub begun : AnyQueue → BlockQueueState → PackedBuffer → List Segment → Result Request GuestMemoryError
    → Pop × BlockQueueState
begun back q buffer chain (Ok request) = let short = shortened (length q.asked) (length chain) request in
    (popped buffer short, with_asked q buffer.id (Some (record { chain = chain; request = short; kept = []; gap = false })))
begun back q buffer chain (Err e) = (pop.Later, with_queue q back)

-- what happens to the ring by that
abbrev pub event_of : Pop → Option RingEvent
event_of (pop.Chain chain parts bytes) = Some (Popped chain parts bytes)
event_of pop.None = Some Emptied
event_of (pop.Broken e) = Some Break
event_of pop.Later = None

-- ---- returns

-- the bytes before its status were not found of a chain with a gap, so none were written there
abbrev pub len_left : Asked → ℕ → ℕ
len_left asked len = if asked.gap then 0 else len

abbrev pub gave : Result (Unit {0}) QueueError → GiveBack
gave (Ok done) = back.Done
gave (Err e) = back.Broken e

module _ {H : Type 0} (step : H → (s : MemoryStep) → Returned s → H → Type 0) where
  abbrev pub ReadsBy : BlockQueueState → Bool → AnyQueue → H → Result (Unit {0}) QueueError → BlockQueueState → H → Type 0
  ReadsBy q true (Split u) old r q' new =
      (next : Result ℕ QueueError) × step old (reads_used u) next new × ((q', r) ≡ read_by q u next)
  ReadsBy q true (Packed u) old r q' new = (r ≡ Ok tt) × (q' ≡ record q { is_unread = false }) × (new ≡ old)
  ReadsBy q false u old r q' new = (r ≡ Ok tt) × (q' ≡ q) × (new ≡ old)

  -- where a queue returns its next chain is read, if it was not
  abbrev pub Reads : BlockQueueState → H → Result (Unit {0}) QueueError → BlockQueueState → H → Type 0
  Reads q = ReadsBy q q.is_unread q.queue

  -- a chain was popped: its header is read, if it can be under way. If not, it breaks the ring, which the event says
  abbrev pub Begins : DeviceLimits → AnyQueue → BlockQueueState → PackedBuffer → List Segment → H → Pop → BlockQueueState → H
      → Type 0
  Begins terms back q buffer chain old a q' new = MatchBool (has_place q buffer.id)
      ((r : Result Request GuestMemoryError) × step old (begins terms chain) r new
      × ((a, q') ≡ begun back q buffer chain r))
      ((a ≡ popped buffer (Refused 1)) × (q' ≡ q) × (new ≡ old))

  abbrev pub PopsBy : DeviceLimits → BlockQueueState → Result (Option (PackedBuffer × List Segment)) QueueError → H → Pop
      → BlockQueueState → H → Type 0
  PopsBy terms q (Ok (Some p)) old a q' new =
      Begins terms q.queue (with_queue q (past q.queue p.0)) p.0 p.1 old a q' new
  PopsBy terms q (Ok None) old a q' new = (a ≡ pop.None) × (q' ≡ q) × (new ≡ old)
  PopsBy terms q (Err e) old a q' new = (a ≡ refused e) × (q' ≡ q) × (new ≡ old)

  -- the next chain is popped, if there is one
  abbrev pub Pops : DeviceLimits → BlockQueueState → H → Pop → BlockQueueState → H → Type 0
  Pops terms q old a q' new = (r : Result (Option (PackedBuffer × List Segment)) QueueError) × (mid : H)
      × step old (pops q.queue) r mid × PopsBy terms q r mid a q' new

  -- the driver is asked to notify, and the ring looked at again; and then its pages are marked
  abbrev pub Asks : BlockQueueState → H → Result Bool QueueError → H → Type 0
  Asks q old r new = (mid : H) × step old (enables q.queue) r mid
      × MarksRing step (asking_marks q.queue q.reach.log) mid new

  -- a look at a packed ring found no descriptors of a chain
  abbrev pub CopiesNone : AnyQueue → H → H → Type 0
  CopiesNone (Split u) old new = ⊥
  CopiesNone (Packed u) old new = step old (finds_copies u) (Ok None) new

  -- the driver was asked to notify, and a look after that found no chain
  abbrev pub FoundNone : BlockQueueState → H → Type 0
  FoundNone q new = (before : H) × (r : Result Bool QueueError) × (asked : H) × Asks q before r asked
      × (((r ≡ Ok false) × (new ≡ asked))
      ⊎ ((r ≡ Ok true) × (step asked (pops q.queue) (Ok None) new ⊎ CopiesNone q.queue asked new)))

  -- if there is none, the driver is asked to notify. If there is one by then, it is popped
  abbrev pub AfterAsk : DeviceLimits → BlockQueueState → Result Bool QueueError → H → Option RingEvent → BlockQueueState → H
      → Type 0
  AfterAsk terms q (Ok true) old a q' new = (found : Pop) × Pops terms q old found q' new × (a ≡ event_of found)
  AfterAsk terms q (Ok false) old a q' new = (a ≡ Some Emptied) × (q' ≡ q) × (new ≡ old)
  AfterAsk terms q (Err e) old a q' new = (a ≡ event_of (refused e)) × (q' ≡ q) × (new ≡ old)

  abbrev pub Waits : DeviceLimits → BlockQueueState → H → Option RingEvent → BlockQueueState → H → Type 0
  Waits terms q old a q' new = (r : Result Bool QueueError) × (mid : H) × Asks q old r mid
      × AfterAsk terms q r mid a q' new

  abbrev pub AfterPop : DeviceLimits → Pop → BlockQueueState → H → Option RingEvent → BlockQueueState → H → Type 0
  AfterPop terms pop.None q old a q' new = Waits terms q old a q' new
  AfterPop terms found q old a q' new = (a ≡ event_of found) × (q' ≡ q) × (new ≡ old)

  abbrev pub PopsOrWaits : DeviceLimits → BlockQueueState → H → Option RingEvent → BlockQueueState → H → Type 0
  PopsOrWaits terms q old a q' new = (found : Pop) × (mid_q : BlockQueueState) × (mid : H)
      × Pops terms q old found mid_q mid × AfterPop terms found mid_q mid a q' new

  abbrev pub AfterRead : DeviceLimits → Result (Unit {0}) QueueError → BlockQueueState → H → Option RingEvent
      → BlockQueueState → H → Type 0
  AfterRead terms (Ok done) q old a q' new = PopsOrWaits terms q old a q' new
  AfterRead terms (Err e) q old a q' new = (a ≡ event_of (refused e)) × (q' ≡ q) × (new ≡ old)

  -- what happens to a ring next in its turn
  abbrev pub HappensNext : DeviceLimits → BlockQueueState → H → Option RingEvent → BlockQueueState → H → Type 0
  HappensNext terms q old a q' new = (read : Result (Unit {0}) QueueError) × (mid_q : BlockQueueState) × (mid : H)
      × Reads q old read mid_q mid × AfterRead terms read mid_q mid a q' new

  -- a request is over: its status is written, and then the pages that it may have changed are marked. If an allocation
  -- fails, the request is forgotten
  abbrev pub FinishesRequest : BlockQueueState → Chain → ℕ → Bool → H → Finished → BlockQueueState → H → Type 0
  FinishesRequest q chain moved failed old r q' new = MatchOption (asked_at q chain.id)
      ((r ≡ finished.NotUnderWay) × (q' ≡ q) × (new ≡ old))
      (λ asked. (w : Result ℕ GuestMemoryError) × (mid : H) × step old (finishes asked.chain
      (status_of asked.request failed) (written_of asked.request moved)) w mid
      × MatchResult w (λ len. (r ≡ finished.Done (len_left asked len)) × (q' ≡ q) × Marks step (chain_marks asked.chain) mid new)
      (λ e. (r ≡ finished.Forgotten) × (q' ≡ with_asked q chain.id None) × (new ≡ mid)))

  -- a chain is returned, and then the pages of its ring are marked
  abbrev pub Publishes : AnyQueue → Option ℕ → PackedBuffer → ℕ → H → GiveBack → AnyQueue → H → Type 0
  Publishes q log buffer len old a q' new = (r : Result (Unit {0}) QueueError) × (stored : H)
      × step old (adds_used q buffer len) r stored
      × MarksRing step (return_marks q log) stored new × (a ≡ gave r) × (q' ≡ after_used q buffer r)

  abbrev pub GivesBack : BlockQueueState → Chain → ℕ → H → GiveBack → BlockQueueState → H → Type 0
  GivesBack q chain len old a q' new = Publishes q.queue q.reach.log (buffer_by chain) len old a q'.queue new
      × (q' ≡ with_asked (with_queue q q'.queue) chain.id None)

-- ---- beside the state machine

-- whether a request of an id is under way, as a number
abbrev pub asked_count : BlockQueueState → ℕ → ℕ
asked_count q id = if is_some (asked_at q id) then 1 else 0

-- the requests that are under way are those of a ring
abbrev pub Agrees : BlockQueueState → RingState → Type 0
Agrees q r = (id : ℕ) → asked_count q id ≡ busy r id

-- what is left after these chains were given back
abbrev pub given : BlockQueueState → List Chain → BlockQueueState
given q [] = q
given q (chain ∷ rest) = given (with_asked q chain.id None) rest

-- each chain that a step returns is found, and after they were given back the requests are those of the ring
abbrev pub FindsAll : BlockQueueState → Step → Type 0
FindsAll q t = Agrees (given q (returned t.1)) t.0
    × ((id : ℕ) → 0 < length (of_id id (returned t.1)) → is_some (asked_at q id) ≡ true)
