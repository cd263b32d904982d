-- The queue of a ring whose addresses a table translates: what is read and written is fetched first, stage by stage. A
-- chain is popped when all of it is found, as a chain of guest addresses.
use Rattle.std.specs.Prelude.{◌≡◌, ℕ, Bool, true, false, ◌&&◌, ◌||◌, nat_lt, List, [], ◌∷◌, length, Option, Some, None, option_to_list, Result, Ok, Err, IfOk, MatchBool, MatchOption, MatchResult}
use Rattle.std.specs.List.{list_any}
use Rattle.std.specs.declared.alloc.AllocError.{AllocError}
use Rattle.vm_memory_base.specs.Table.{Says, says}
use Rattle.vm_memory_base.specs.declared.iotlb.IommuError.TheVariants.{CannotResolve}
use Rattle.vm_memory_base.specs.declared.iotlb.IovaRange.{IovaRange}
use Rattle.vm_memory_base.specs.declared.iotlb.Permissions.TheVariants.{Read}
use Rattle.vm_memory_base.specs.declared.iotlb.Reason.TheVariants.{MissingMapping}
use Rattle.vm_memory_guest.specs.declared.region.error.GuestMemoryError.{GuestMemoryError}
use Rattle.vm_memory_guest.specs.declared.region.error.GuestMemoryError.TheVariants.{IommuError}
use Rattle.vm_memory_device.specs.declared.chain.Segment.{Segment}
use Rattle.virtio_queue.specs.Any.{at_next, next_avail_of, past}
use Rattle.virtio_queue.specs.declared.any.AnyQueue.{AnyQueue}
use Rattle.virtio_queue.specs.declared.error.QueueError.{QueueError}
use Rattle.virtio_queue.specs.declared.error.QueueError.TheVariants.{GuestMemory}
use Rattle.virtio_queue.specs.declared.packed.state.PackedBuffer.{PackedBuffer}
use Rattle.virtio_blk.specs.Steps.{breaks_limits}
use Rattle.virtio_blk.specs.declared.request.DeviceLimits.{DeviceLimits}
use Rattle.virtio_blk.specs.declared.request.Request.{Request}
use Rattle.virtio_blk.specs.declared.request.Request.TheVariants.{Refused}
use Rattle.vhost_iotlb.specs.Kept.{differs}
use Rattle.vhost_iotlb.specs.declared.kept.Change.{Change}
use Rattle.vhost_iotlb.specs.declared.kept.Kept.{Kept}
use Rattle.vhost_backend.specs.BlockQueue.{Asks, BlockQueueState, HappensNext, Reads, event_of, has_place, popped, refused, shortened, with_asked}
use Rattle.vhost_backend.specs.Fetch.{FetchState, GoesOn, begun, chain_wants, guest_chain, has_gap, ring_wants, status_want, want}
use Rattle.vhost_backend.specs.KeptRanges.{ForgetsAll, KeepsAll}
use Rattle.vhost_backend.specs.Reach.{ForgetsBoth, ReachState, areas_kept, forgotten, is_waiting, most_for, rows_added, rows_forgotten}
use Rattle.vhost_backend.specs.RingMemory.{MemoryStep, Returned, begins, pops}
use Rattle.vhost_backend.specs.declared.block_queue.Asked.{Asked}
use Rattle.vhost_backend.specs.declared.block_queue.behind.Origin.{Origin}
use Rattle.vhost_backend.specs.Sight.{Sight}
use Rattle.vhost_backend.specs.declared.fetch.Found.{Found}
use Rattle.vhost_backend.specs.declared.fetch.Goal.{Goal}
use Rattle.vhost_backend.specs.declared.fetch.Goal.TheVariants as goal
use Rattle.vhost_backend.specs.declared.fetch.State.{State}
use Rattle.vhost_backend.specs.declared.fetch.State.TheVariants.{Begun, Waits, Stops, Whole}
use Rattle.vhost_backend.specs.declared.ring.RingEvent.{RingEvent}
use Rattle.vhost_backend.specs.declared.ring.RingEvent.TheVariants.{Break, Emptied, Kick}

-- ---- without memory

abbrev pub with_reach : BlockQueueState → ReachState → BlockQueueState
with_reach q reach = record q { reach = reach }

-- nothing is fetched, or this is
abbrev pub with_fetch : BlockQueueState → Option FetchState → BlockQueueState
with_fetch q fetch = with_reach q (record q.reach { fetch = fetch })

-- a fetch begins, and the ring goes on. A range that cannot be fetched breaks it
abbrev pub fetching : BlockQueueState → Result (Option FetchState) AllocError → Option RingEvent × BlockQueueState
fetching q (Ok (Some f)) = (Some Kick, with_fetch q (Some f))
fetching q (Ok None) = (Some Break, with_fetch q None)
fetching q (Err e) = (None, with_fetch q None)

-- the ring goes on. If an allocation failed, it does so by another try
abbrev pub gone_on : Result (Unit {0}) AllocError → Option RingEvent
gone_on (Ok done) = Some Kick
gone_on (Err e) = None

abbrev pub read_on : Result (Unit {0}) QueueError → Option RingEvent
read_on (Ok done) = Some Kick
read_on (Err e) = event_of (refused e)

-- a mapping is waited for
abbrev pub IsWaiting : BlockQueueState → Type 0
IsWaiting q = is_waiting q.reach.fetch ≡ true

-- ---- chains

-- the next chain of a ring: it stays the next one until all of it is found
abbrev pub found_by : AnyQueue → Result (Option (PackedBuffer × List Segment)) QueueError → Result (Option Found) QueueError
found_by q (Ok (Some p)) = Ok (Some (record { chain = p.1; buffer = p.0; after = next_avail_of (past q p.0) }))
found_by q (Ok None) = Ok None
found_by q (Err e) = Err e

-- of a chain that breaks a limit, or has more segments than there may be, the status alone is fetched
abbrev pub is_refused : DeviceLimits → ℕ → List Segment → Bool
is_refused terms most chain = breaks_limits terms chain || nat_lt most (length chain)

abbrev pub status_begun : Found → Option FetchState
status_begun found = begun (goal.Status found) (option_to_list (status_want found.chain))

abbrev pub chain_begun : Bool → Found → Option FetchState
chain_begun true found = status_begun found
chain_begun false found = begun (goal.Chain found) (chain_wants found.chain)

abbrev pub origin_of : Found → Bool → Origin
origin_of found gap = record { buffer = found.buffer; after = found.after; gap = gap }

-- its bytes are those that were found. What is no chain has none
abbrev pub or_empty : Option (List Segment) → List Segment
or_empty (Some chain) = chain
or_empty None = []

-- limits are of the driver's chain
abbrev pub open_terms : DeviceLimits → DeviceLimits
open_terms terms = record terms { seg_max = None; size_max = None }

-- the queue goes on after a chain
abbrev pub past_found : BlockQueueState → Origin → BlockQueueState
past_found q o = record q { queue = at_next q.queue o.after }

-- its request is under way, if its header was read. If not, it is fetched again
abbrev pub begun_behind : BlockQueueState → Origin → List Segment → List Kept → Result Request GuestMemoryError
    → Option RingEvent × BlockQueueState
begun_behind q o chain kept (Ok request) = let short = shortened 0 0 request in (
  event_of (popped o.buffer short),
  with_asked (past_found q o) o.buffer.id (Some (record { chain = chain; request = short; kept = kept; gap = o.gap })),
)
begun_behind q o chain kept (Err e) = (None, q)

-- ---- rows that are missed

-- the row that a pop missed, if it did. The ring's areas are kept
abbrev pub missed_by : QueueError → Option IovaRange
missed_by (GuestMemory (IommuError (CannotResolve range MissingMapping))) = Some range
missed_by _ = None

-- a row that was missed is fetched. Another error is as that of a pop
abbrev pub FetchesRow : BlockQueueState → QueueError → Option RingEvent → BlockQueueState → Type 0
FetchesRow q e a q' = MatchOption (missed_by e) ((a ≡ event_of (refused e)) × (q' ≡ q))
    (λ range. (r : Result (Option FetchState) AllocError)
    × IfOk r (λ g. g ≡ begun goal.Rows (want range.base.0 range.length Read ∷ [])) × ((a, q') ≡ fetching q r))

-- ---- changes of what the front end says

-- what is kept for a request that is under way leads elsewhere after a change, or nowhere
abbrev pub asked_uses : Change → Option Asked → Bool
asked_uses c None = false
asked_uses c (Some asked) = list_any (differs c) asked.kept

-- so do the areas of a ring that is busy
abbrev pub uses : Change → Bool → BlockQueueState → Bool
uses c busy q = list_any (asked_uses c) q.asked || (busy && list_any (differs c) q.reach.pages)

-- ---- what is looked up

-- what is fetched is looked up, unless it stopped
abbrev pub LooksUp : Says → ℕ → State → FetchState → FetchState → Type 0
LooksUp f most Begun old new = GoesOn f most old new
LooksUp f most (Waits iova access) old new = GoesOn f most old new
LooksUp f most Stops old new = new ≡ old
LooksUp f most Whole old new = new ≡ old

-- ---- on memory

module _ {H : Type 0} (step : H → (s : MemoryStep) → Returned s → H → Type 0) where
  -- the next chain is looked at, and stays the next one
  abbrev pub Finds : AnyQueue → H → Result (Option Found) QueueError → H → Type 0
  Finds q old r new = (p : Result (Option (PackedBuffer × List Segment)) QueueError) × step old (pops q) p new
      × (r ≡ found_by q p)

  -- ---- a fetch that is whole

  -- the ring's areas are kept from then on
  abbrev pub KeepsAreas : BlockQueueState → List Kept → H → Option RingEvent → BlockQueueState → H → Type 0
  KeepsAreas q kept old a q' new = (r : Result (Unit {0}) AllocError) × KeepsAll step kept old r new × (a ≡ gone_on r)
      × (q' ≡ with_reach q (areas_kept q.reach kept r))

  -- so are rows, until the pop that reads them
  abbrev pub KeepsRows : BlockQueueState → List Kept → H → Option RingEvent → BlockQueueState → H → Type 0
  KeepsRows q kept old a q' new = (one : Result (Unit {0}) AllocError)
      × (q' ≡ with_reach q (rows_added q.reach kept one)) × MatchResult one
      (λ done. (r : Result (Unit {0}) AllocError) × KeepsAll step kept old r new × (a ≡ gone_on r))
      (λ e. (a ≡ None) × (new ≡ old))

  -- the request of a chain begins, if it can be under way. If not, it breaks the ring, which the event says
  abbrev pub BeginsFetched : DeviceLimits → BlockQueueState → Origin → List Segment → List Kept → H → Option RingEvent
      → BlockQueueState → H → Type 0
  BeginsFetched terms q o chain kept old a q' new = MatchBool (has_place q o.buffer.id)
      ((r : Result Request GuestMemoryError) × step old (begins (open_terms terms) chain) r new
      × ((a, q') ≡ begun_behind q o chain kept r))
      ((a ≡ event_of (popped o.buffer (Refused 1))) × (q' ≡ past_found q o) × (new ≡ old))

  -- its bytes are those that were found
  abbrev pub TakesFetched : DeviceLimits → BlockQueueState → Origin → List Kept → H → Option RingEvent → BlockQueueState
      → H → Type 0
  TakesFetched terms q o kept old a q' new = (made : Result (Unit {0}) AllocError) × MatchResult made
      (λ done. BeginsFetched terms q o (or_empty (guest_chain kept)) kept old a q' new)
      (λ e. (a ≡ None) × (q' ≡ q) × (new ≡ old))

  abbrev pub Uses : DeviceLimits → BlockQueueState → Goal → List Kept → H → Option RingEvent → BlockQueueState → H
      → Type 0
  Uses terms q goal.Ring kept old a q' new = KeepsAreas q kept old a q' new
  Uses terms q goal.Rows kept old a q' new = KeepsRows q kept old a q' new
  Uses terms q (goal.Chain found) kept old a q' new = TakesFetched terms q (origin_of found false) kept old a q' new
  Uses terms q (goal.Status found) kept old a q' new =
      TakesFetched terms q (origin_of found (has_gap found.chain)) kept old a q' new

  -- ---- a fetch that stops

  -- a ring breaks whose memory cannot be found. Of a chain the status alone is fetched, and if that cannot be found, the
  -- chain is returned without it
  abbrev pub GivesUp : DeviceLimits → BlockQueueState → Goal → H → Option RingEvent → BlockQueueState → H → Type 0
  GivesUp terms q goal.Ring old a q' new = (a ≡ Some Break) × (q' ≡ q) × (new ≡ old)
  GivesUp terms q goal.Rows old a q' new = (a ≡ Some Break) × (q' ≡ q) × (new ≡ old)
  GivesUp terms q (goal.Chain found) old a q' new = (r : Result (Option FetchState) AllocError)
      × IfOk r (λ f. f ≡ status_begun found) × ((a, q') ≡ fetching q r) × (new ≡ old)
  GivesUp terms q (goal.Status found) old a q' new = TakesFetched terms q (origin_of found false) [] old a q' new

  -- ---- what is fetched

  -- a ring that waits for a mapping has no turn until that may be there. One that cannot be asked for does not come
  abbrev pub AfterLookUp : Bool → DeviceLimits → BlockQueueState → FetchState → State → H → Option RingEvent
      → BlockQueueState → H → Type 0
  AfterLookUp can_ask terms q g Begun old a q' new = (a ≡ None) × (q' ≡ with_fetch q (Some g)) × (new ≡ old)
  AfterLookUp can_ask terms q g (Waits iova access) old a q' new = MatchBool can_ask
      ((a ≡ Some Emptied) × (q' ≡ with_fetch q (Some g)) × (new ≡ old)) (GivesUp terms q g.goal old a q' new)
  AfterLookUp can_ask terms q g Stops old a q' new = GivesUp terms q g.goal old a q' new
  AfterLookUp can_ask terms q g Whole old a q' new = Uses terms q g.goal g.kept old a q' new

  abbrev pub Fetches : Says → Bool → DeviceLimits → BlockQueueState → FetchState → H → Option RingEvent
      → BlockQueueState → H → Type 0
  Fetches f can_ask terms q g old a q' new = (g' : FetchState) × LooksUp f (most_for q.reach (length q.asked) g.goal) g.state g g'
      × AfterLookUp can_ask terms q g' g'.state old a q' new

  -- ---- what is fetched next

  -- what was kept at the ring's last place is forgotten, and its areas are fetched
  abbrev pub ReachesRing : BlockQueueState → H → Option RingEvent → BlockQueueState → H → Type 0
  ReachesRing q old a q' new = (one : Result (Unit {0}) AllocError) × ForgetsBoth step q.reach old one new
      × (let v = with_reach q (forgotten q.reach one) in MatchResult one
      (λ done. (r : Result (Option FetchState) AllocError)
      × IfOk r (λ g. g ≡ begun goal.Ring (ring_wants q.queue q.reach.log)) × ((a, q') ≡ fetching v r))
      (λ e. (a ≡ None) × (q' ≡ v)))

  -- it is read where chains are returned
  abbrev pub ReadsBehind : BlockQueueState → H → Option RingEvent → BlockQueueState → H → Type 0
  ReadsBehind q old a q' new = (r : Result (Unit {0}) QueueError) × Reads step q old r q' new × (a ≡ read_on r)

  -- the rows are forgotten that led to a chain, and its bytes are fetched
  abbrev pub FetchesChain : DeviceLimits → BlockQueueState → Found → H → Option RingEvent → BlockQueueState → H → Type 0
  FetchesChain terms q found old a q' new = (one : Result (Unit {0}) AllocError) × ForgetsAll step q.reach.rows old one new
      × (let v = with_reach q (rows_forgotten q.reach one) in MatchResult one
      (λ done. (r : Result (Option FetchState) AllocError)
      × IfOk r (λ g. g ≡ chain_begun (is_refused terms (length q.asked) found.chain) found) × ((a, q') ≡ fetching v r))
      (λ e. (a ≡ None) × (q' ≡ v)))

  module _ (terms : DeviceLimits) where
    -- none was found after the driver was asked to notify
    abbrev pub AfterLook : BlockQueueState → Result (Option Found) QueueError → H → Option RingEvent → BlockQueueState → H
        → Type 0
    AfterLook q (Ok (Some found)) old a q' new = FetchesChain terms q found old a q' new
    AfterLook q (Ok None) old a q' new = (a ≡ Some Emptied) × (q' ≡ q) × (new ≡ old)
    AfterLook q (Err e) old a q' new = FetchesRow q e a q' × (new ≡ old)

    abbrev pub AfterAskBehind : BlockQueueState → Result Bool QueueError → H → Option RingEvent → BlockQueueState → H
        → Type 0
    AfterAskBehind q (Ok true) old a q' new = (r : Result (Option Found) QueueError) × (mid : H) × Finds q.queue old r mid
        × AfterLook q r mid a q' new
    AfterAskBehind q (Ok false) old a q' new = (a ≡ Some Emptied) × (q' ≡ q) × (new ≡ old)
    AfterAskBehind q (Err e) old a q' new = (a ≡ event_of (refused e)) × (q' ≡ q) × (new ≡ old)

    -- if there is none, the driver is asked to notify, and it is looked for again
    abbrev pub WaitsBehind : BlockQueueState → H → Option RingEvent → BlockQueueState → H → Type 0
    WaitsBehind q old a q' new = (r : Result Bool QueueError) × (mid : H) × Asks step q old r mid
        × AfterAskBehind q r mid a q' new

    abbrev pub AfterFind : BlockQueueState → Result (Option Found) QueueError → H → Option RingEvent → BlockQueueState → H
        → Type 0
    AfterFind q (Ok (Some found)) old a q' new = FetchesChain terms q found old a q' new
    AfterFind q (Ok None) old a q' new = WaitsBehind q old a q' new
    AfterFind q (Err e) old a q' new = FetchesRow q e a q' × (new ≡ old)

    abbrev pub FindsNext : BlockQueueState → H → Option RingEvent → BlockQueueState → H → Type 0
    FindsNext q old a q' new = (r : Result (Option Found) QueueError) × (mid : H) × Finds q.queue old r mid
        × AfterFind q r mid a q' new

    -- the ring's areas, then where chains are returned, then chain by chain
    abbrev pub FetchesNext : BlockQueueState → H → Option RingEvent → BlockQueueState → H → Type 0
    FetchesNext q old a q' new = MatchBool q.reach.is_reached
        (MatchBool q.is_unread (ReadsBehind q old a q' new) (FindsNext q old a q' new))
        (ReachesRing q old a q' new)

  -- what happens next to a ring in its turn: one stage of that
  abbrev pub HappensBehind : Says → Bool → DeviceLimits → BlockQueueState → H → Option RingEvent → BlockQueueState → H
      → Type 0
  HappensBehind f can_ask terms q old a q' new = MatchOption q.reach.fetch (FetchesNext terms q old a q' new)
      (λ g. Fetches f can_ask terms (with_fetch q None) g old a q' new)

  -- whether a table translates its addresses or none does
  abbrev pub HappensBy : Option Sight → DeviceLimits → BlockQueueState → H → Option RingEvent → BlockQueueState → H → Type 0
  HappensBy None terms q old a q' new = HappensNext step terms q old a q' new
  HappensBy (Some way) terms q old a q' new = HappensBehind (says way.table) way.can_ask terms q old a q' new
