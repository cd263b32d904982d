-- What each call on memory keeps is kept by a step and by a look: whatever leads from one memory to another.
use Rattle.std.proofs.Common.{◌≡◌, ℕ, Bool, true, false, List, [], ◌∷◌, drop, Option, Some, None, Result, Ok, Err, MatchBool, MatchOption, MatchResult, sym, subst, zero, suc, length, is_some, IsSomeAnd}
use Rattle.std.specs.List.{slice_get, slice_set, list_any}
use Rattle.std.specs.declared.alloc.AllocError.{AllocError}
use Rattle.vm_memory_base.specs.Table.{Says, Table, says}
use Rattle.vm_memory_guest.specs.declared.region.error.GuestMemoryError.{GuestMemoryError}
use Rattle.vm_memory_device.specs.declared.chain.Segment.{Segment}
use Rattle.virtio_blk.specs.declared.request.DeviceLimits.{DeviceLimits}
use Rattle.virtio_blk.specs.declared.request.Request.{Request}
use Rattle.virtio_blk.specs.declared.request.Request.TheVariants.{Refused}
use Rattle.virtio_queue.specs.Any.{at_next, next_avail_of, past}
use Rattle.virtio_queue.specs.Packed.{PackedVirtqueue}
use Rattle.virtio_queue.specs.declared.any.AnyQueue.{AnyQueue}
use Rattle.virtio_queue.specs.declared.any.AnyQueue.TheVariants.{Split, Packed}
use Rattle.virtio_queue.specs.declared.error.QueueError.{QueueError}
use Rattle.virtio_queue.specs.declared.packed.descriptor.PackedDescriptor.{PackedDescriptor}
use Rattle.virtio_queue.specs.declared.packed.state.PackedBuffer.{PackedBuffer}
use Rattle.std.specs.Prelude.{map}
use Rattle.vhost_inflight.specs.Packed.{PackedKept, add_stores, after_add, after_begin_pop, begin_pop_stores, can_add, can_begin_pop, can_end_pop, end_pop_stores}
use Rattle.vhost_inflight.specs.PackedBytes.{old_slot}
use Rattle.vhost_inflight.specs.PackedCrash.{after_adds}
use Rattle.vhost_inflight.specs.declared.packed.PackedReturn.{PackedReturn}
use Rattle.vhost_inflight.specs.declared.packed.PackedStore.{PackedStore}
use Rattle.vhost_inflight.specs.declared.packed_error.PackedStartError.{PackedStartError}
use Rattle.vhost_inflight.specs.declared.packed_region.PackedCopy.{PackedCopy}
use Rattle.vhost_inflight.specs.declared.packed_region.PackedPosition.{PackedPosition}
use Rattle.vhost_inflight.specs.declared.packed_start.PackedStart.{PackedStart}
use Rattle.vhost_inflight.specs.Split.{after_pop, after_return, begin_return_stores, end_return_stores, pop_stores}
use Rattle.vhost_inflight.specs.declared.split.SplitInFlight.{SplitInFlight}
use Rattle.vhost_inflight.specs.declared.split.SplitStore.{SplitStore}
use Rattle.vhost_inflight.specs.declared.split_start.SplitStart.{SplitStart}
use Rattle.vhost_inflight.specs.declared.split_start.StartError.{StartError}
use Rattle.vhost_iotlb.specs.Kept.{differs}
use Rattle.vhost_iotlb.specs.declared.kept.Change.{Change}
use Rattle.vhost_iotlb.specs.declared.kept.Kept.{Kept}
use Rattle.vhost_backend.specs.Backend.{BackendState}
use Rattle.vhost_backend.specs.Behind.{AfterAskBehind, AfterFind, AfterLook, AfterLookUp, BeginsFetched, Fetches, FetchesChain, FetchesNext, Finds, FindsNext, GivesUp, HappensBehind, HappensBy, KeepsRows, ReachesRing, ReadsBehind, TakesFetched, Uses, WaitsBehind, begun_behind, open_terms, or_empty, origin_of, past_found, with_fetch, with_reach}
use Rattle.vhost_backend.specs.Block.{status_of, written_of}
use Rattle.vhost_backend.specs.BlockBackend.{Acts, ActsFirst, GivesBackAt, Looks, Returns, Steps, StepsFrom, TakesTurn, terms_of}
use Rattle.vhost_backend.specs.BlockQueue.{AfterAsk, AfterPop, AfterRead, Asks, Begins, BlockQueueState, FlightState, GivesBack, HappensNext, Pops, PopsBy, PopsOrWaits, ReadsBy, Waits, asked_at, begun, buffer_by, event_of, has_place, len_left, popped, with_asked, with_flight, with_queue}
use Rattle.vhost_backend.specs.BlockQueues as queues
use Rattle.vhost_backend.specs.BlockTable.{AfterChange, ChangesBy, ChangesTable}
use Rattle.vhost_backend.specs.BlockTurn as turn
use Rattle.vhost_backend.specs.Fetch.{FetchState, after_drop, guest_chain, has_gap, is_dropped}
use Rattle.vhost_backend.specs.Flight.{AfterAskCopies, AfterCopies, AfterFirst, AfterKnown, AfterOld, AfterPackedStart, AfterRegion, AfterStart, AfterUsed, Flies, FliesAt, FliesBy, FliesIn, FliesPacked, GivesPacked, GoesOnFrom, HappensFirst, HappensIn, HappensNew, Lands, LandsPacked, PopsAgain, PopsCopies, ReadsOld, ReadsRegion, Resumes, Tracks, TracksAt, after_of, base_in, before_of, found_as, gone_to, is_due, is_open, next_again, next_used_of, returned_too, returns_by, store_at, used_ring_of, with_kept}
use Rattle.vhost_backend.specs.PackedFlight.{AddsAll, PackedFlightState, StoresPop, TracksPacked, TracksPackedAt, buffer_of, copy_by, packed_store_at, stores_if}
use Rattle.vhost_backend.specs.KeptRanges.{ForgetsAll, KeepsAll}
use Rattle.vhost_backend.specs.Marks.{Marks, MarksRing, asking_marks, chain_marks, logged_at, return_marks}
use Rattle.vhost_backend.specs.Reach.{Changes, ChangesOthers, ForgetsBoth, ReachState, changed_by, dropped, forgotten, rows_forgotten}
use Rattle.vhost_backend.specs.RingMemory.{MemoryStep, Returned, adds_used, begins, enables, finds_copies, finishes, forgets, keeps, marks, marks_ring, needs, pops, pops_again, reads_flags, reads_region, reads_used, tracks}
use Rattle.vhost_backend.specs.Rings.{may_pop}
use Rattle.vhost_backend.specs.TableUse.{ChangesAll, ChangesAt, ChangesTo, in_use, kicked_if}
use Rattle.vhost_backend.specs.declared.backend.Place.{Place}
use Rattle.vhost_backend.specs.declared.backend.Todo.{Todo}
use Rattle.vhost_backend.specs.declared.block_backend.BlockBackend.{BlockBackend}
use Rattle.vhost_backend.specs.declared.block_backend.Returning.{Returning}
use Rattle.vhost_backend.specs.declared.block_queue.behind.Origin.{Origin}
use Rattle.vhost_backend.specs.Sight.{Sight}
use Rattle.vhost_backend.specs.declared.block_queue.Asked.{Asked}
use Rattle.vhost_backend.specs.declared.block_queue.Finished.{Finished}
use Rattle.vhost_backend.specs.declared.block_queue.Finished.TheVariants as finished
use Rattle.vhost_backend.specs.declared.block_queue.GiveBack.{GiveBack}
use Rattle.vhost_backend.specs.declared.block_queue.GiveBack.TheVariants as back
use Rattle.vhost_backend.specs.declared.block_queue.Pop.{Pop}
use Rattle.vhost_backend.specs.declared.block_queue.Pop.TheVariants as pop
use Rattle.vhost_backend.specs.declared.block_queues.Reached.{Reached}
use Rattle.vhost_backend.specs.declared.block_queues.Reached.TheVariants as reached
use Rattle.vhost_backend.specs.declared.deeds.Made.{Made}
use Rattle.vhost_backend.specs.declared.fetch.Found.{Found}
use Rattle.vhost_backend.specs.declared.fetch.Goal.{Goal}
use Rattle.vhost_backend.specs.declared.fetch.Goal.TheVariants as goal
use Rattle.vhost_backend.specs.declared.fetch.State.{State}
use Rattle.vhost_backend.specs.declared.fetch.State.TheVariants as state
use Rattle.vhost_backend.specs.declared.flight.FlightPlace.{FlightPlace}
use Rattle.vhost_backend.specs.declared.pieces.Piece.{Piece}
use Rattle.vhost_backend.specs.declared.request.Chain.{Chain}
use Rattle.vhost_backend.specs.declared.ring.RingEvent.{RingEvent}
use Rattle.vhost_backend.specs.declared.ring.RingEvent.TheVariants.{Start, Stop, Enable, Break, Kick, Popped, Emptied, Ended}
use Rattle.vhost_backend.specs.declared.ring.actions.RingAction.{RingAction}
use Rattle.vhost_backend.specs.declared.ring.actions.RingAction.TheVariants as action

-- it changes no table
abbrev pub IsPlain : MemoryStep → Type 0
IsPlain (keeps k) = ⊥
IsPlain (forgets k) = ⊥
IsPlain _ = Unit {0}

module _ {H : Type 0} (step : H → (s : MemoryStep) → Returned s → H → Type 0) (K : H → H → Type 0)
    (stays : (h : H) → K h h) (then : (a b c : H) → K a b → K b c → K a c)
    (plain : (old : H) (s : MemoryStep) (r : Returned s) (new : H) → IsPlain s → step old s r new → K old new) where
  same : (old new : H) → new ≡ old → K old new
  same old new is = subst (K old) (sym is) (stays old)

  marks_keep : (ms : List Piece) (old new : H) → Marks step ms old new → K old new
  marks_keep [] old new is = same old new is
  marks_keep (m ∷ ms) old new (mid, first, rest) =
      then old mid new (plain old (marks m.base m.offset m.len) tt mid tt first) (marks_keep ms mid new rest)

  ring_keeps : (ms : List Piece) (old new : H) → MarksRing step ms old new → K old new
  ring_keeps [] old new is = same old new is
  ring_keeps (m ∷ ms) old new (mid, first, rest) =
      then old mid new (plain old (marks_ring m.base m.offset m.len) tt mid tt first) (ring_keeps ms mid new rest)

  -- ---- one of the queues

  queue_keeps : {T : Type 0} (qs : List BlockQueueState) (ring : ℕ) (none : T) (old : H) (r : T)
      (qs' : List BlockQueueState) (new : H) (P : BlockQueueState → T → BlockQueueState → Type 0)
      → ((q q' : BlockQueueState) → P q r q' → K old new) → queues.WithQueue qs ring none old r qs' new P → K old new
  queue_keeps qs ring none old r qs' new P on = go (slice_get qs ring)
    where
      go : (o : Option BlockQueueState) → MatchOption o ((r ≡ none) × (qs' ≡ qs) × (new ≡ old))
          (λ q. (q' : BlockQueueState) × P q r q' × (qs' ≡ slice_set qs ring q')) → K old new
      go None p = same old new p.2
      go (Some q) (q', p, is) = on q q' p

  -- ---- returns

  request_keeps : (chain : Chain) (moved : ℕ) (failed : Bool) (old new : H) (q : BlockQueueState) (r : Finished)
      (q' : BlockQueueState) → queues.Finishes step chain moved failed old new q r q' → K old new
  request_keeps chain moved failed old new q r q' = go (asked_at q chain.id)
    where
      after : (asked : Asked) (mid : H) (w : Result ℕ GuestMemoryError) → MatchResult w
          (λ len. (r ≡ finished.Done (len_left asked len)) × (q' ≡ q) × Marks step (chain_marks asked.chain) mid new)
          (λ e. (r ≡ finished.Forgotten) × (q' ≡ with_asked q chain.id None) × (new ≡ mid)) → K mid new
      after asked mid (Ok len) p = marks_keep (chain_marks asked.chain) mid new p.2
      after asked mid (Err e) p = same mid new p.2

      go : (o : Option Asked) → MatchOption o ((r ≡ finished.NotUnderWay) × (q' ≡ q) × (new ≡ old))
          (λ asked. (w : Result ℕ GuestMemoryError) × (mid : H) × step old (finishes asked.chain
          (status_of asked.request failed) (written_of asked.request moved)) w mid × MatchResult w
          (λ len. (r ≡ finished.Done (len_left asked len)) × (q' ≡ q) × Marks step (chain_marks asked.chain) mid new)
          (λ e. (r ≡ finished.Forgotten) × (q' ≡ with_asked q chain.id None) × (new ≡ mid))) → K old new
      go None p = same old new p.2
      go (Some asked) (w, mid, first, rest) = then old mid new (plain old (finishes asked.chain
          (status_of asked.request failed) (written_of asked.request moved)) w mid tt first) (after asked mid w rest)

  tracks_keep : (p : FlightPlace) (ss : List SplitStore) (old new : H) → Tracks step p ss old new → K old new
  tracks_keep p [] old new is = same old new is
  tracks_keep p (s ∷ ss) old new (mid, first, rest) =
      then old mid new (plain old (tracks (store_at p s)) tt mid tt first) (tracks_keep p ss mid new rest)

  packed_keep : (p : FlightPlace) (ss : List PackedStore) (old new : H) → TracksPacked step p ss old new → K old new
  packed_keep p [] old new is = same old new is
  packed_keep p (s ∷ ss) old new (mid, first, rest) =
      then old mid new (plain old (tracks (packed_store_at p s)) tt mid tt first) (packed_keep p ss mid new rest)

  packed_at_keep : (o : Option FlightPlace) (ss : List PackedStore) (old new : H) → TracksPackedAt step o ss old new
      → K old new
  packed_at_keep None ss old new is = same old new is
  packed_at_keep (Some p) ss old new all = packed_keep p ss old new all

  adds_keep : (o : Option FlightPlace) (k : PackedKept) (ds : List PackedCopy) (old new : H)
      → AddsAll step o k ds old new → K old new
  adds_keep o k [] old new is = same old new is
  adds_keep o k (d ∷ ds) old new (mid, first, rest) =
      then old mid new (packed_at_keep o (stores_if (can_add k) (add_stores k d)) old mid first)
      (adds_keep o (after_add k d) ds mid new rest)

  pop_stores_keep : (o : Option FlightPlace) (k : PackedKept) (ds : List PackedCopy) (old new : H)
      → StoresPop step o k ds old new → K old new
  pop_stores_keep o k ds old new (one, two, first, adds, last) =
      let ended : PackedKept = after_adds (after_begin_pop k) ds in then old one new
      (packed_at_keep o (stores_if (can_begin_pop k) (begin_pop_stores k)) old one first)
      (then one two new (adds_keep o (after_begin_pop k) ds one two adds)
      (packed_at_keep o (stores_if (can_end_pop ended) (end_pop_stores ended)) two new last))

  tracks_at_keep : (o : Option FlightPlace) (ss : List SplitStore) (old new : H) → TracksAt step o ss old new → K old new
  tracks_at_keep None ss old new is = same old new is
  tracks_at_keep (Some p) ss old new all = tracks_keep p ss old new all

  back_keep : (q : BlockQueueState) (chain : Chain) (len : ℕ) (old : H) (a : GiveBack) (q' : BlockQueueState) (new : H)
      → GivesBack step q chain len old a q' new → K old new
  back_keep q chain len old a q' new ((e, stored, first, rest, made, after), asked) =
      then old stored new (plain old (adds_used q.queue (buffer_by chain) len) e stored tt first)
      (ring_keeps (return_marks q.queue q.reach.log) stored new rest)

  lands_keep : (a : GiveBack) (q : BlockQueueState) (chain : Chain) (old new : H) → Lands step a q chain old new
      → K old new
  lands_keep back.Done q chain old new all =
      tracks_at_keep q.flight.place (end_return_stores chain.id (next_used_of q.queue)) old new all
  lands_keep (back.Broken e) q chain old new is = same old new is

  lands_packed_keep : (a : GiveBack) (q : BlockQueueState) (ss : List PackedStore) (old new : H)
      → LandsPacked step a q ss old new → K old new
  lands_packed_keep back.Done q ss old new all = packed_at_keep q.flight.place ss old new all
  lands_packed_keep (back.Broken e) q ss old new is = same old new is

  gives_packed_keep : (q : BlockQueueState) (chain : Chain) (len : ℕ) (old : H) (a : GiveBack) (q' : BlockQueueState)
      (new : H) → GivesPacked step q chain len old a q' new → K old new
  gives_packed_keep q chain len old a q' new (one, two, before, gives, after) =
      let stores : Option PackedReturn = returns_by chain.id q.flight.packed in then old one new
      (packed_at_keep q.flight.place (before_of stores) old one before)
      (then one two new (back_keep (with_flight q (returned_too q.flight chain.id)) chain len one a q' two gives)
      (lands_packed_keep a q' (after_of stores) two new after))

  gives_keep : (chain : Chain) (len : ℕ) (old new : H) (q : BlockQueueState) (r : Reached) (q' : BlockQueueState)
      → queues.Gives step chain len old new q r q' → K old new
  gives_keep chain len old new q r q' (a, gives, is) = go q.flight.kept gives
    where
      go : (o : Option SplitInFlight) → MatchOption o (GivesPacked step q chain len old a q' new)
          (λ k. (one two : H) × TracksAt step q.flight.place (begin_return_stores k chain.id) old one
          × GivesBack step (with_kept q (after_return k chain.id)) chain len one a q' two
          × Lands step a q' chain two new) → K old new
      go None p = gives_packed_keep q chain len old a q' new p
      go (Some k) (one, two, before, gives, after) = then old one new
          (tracks_at_keep q.flight.place (begin_return_stores k chain.id) old one before)
          (then one two new (back_keep (with_kept q (after_return k chain.id)) chain len one a q' two gives)
          (lands_keep a q' chain two new after))

  back_keeps : (w : BlockBackend) (t : Returning) (old : H) (w' : BlockBackend) (new : H)
      → GivesBackAt step w t old w' new → K old new
  back_keeps w t old w' new (r, qs, gives, is) =
      queue_keeps w.queues t.ring reached.Fine old r qs new (queues.Gives step t.chain t.len old new)
      (λ q q' p. gives_keep t.chain t.len old new q r q' p) gives

  -- ---- steps

  acts_keep : (w : BlockBackend) (ring : ℕ) (a : RingAction) (old : H) (m : Made) (w' : BlockBackend) (new : H)
      → Acts step w ring a old m w' new → K old new
  acts_keep w ring action.Pop old m w' new p = same old new p.2
  acts_keep w ring (action.Serve id left) old m w' new p = same old new p.2
  acts_keep w ring (action.Return chain moved failed) old m w' new (r, qs, ends, is, made) =
      queue_keeps w.queues ring finished.NotUnderWay old r qs new (queues.Finishes step chain moved failed old new)
      (λ q q' p. request_keeps chain moved failed old new q r q' p) ends
  acts_keep w ring action.Notify old m w' new (r, qs, asks, is, made) =
      queue_keeps w.queues ring (Ok false) old r qs new (queues.Asks step old new)
      (λ q q' p. plain old (needs q.queue) r new tt p.0) asks
  acts_keep w ring action.Broke old m w' new p = same old new p.2
  acts_keep w ring action.Stopped old m w' new p = same old new p.2

  first_keeps : (w : BlockBackend) (o : Option RingAction) (old : H) (m : Made) (w' : BlockBackend) (new : H)
      → ActsFirst step w o old m w' new → K old new
  first_keeps w None old m w' new p = same old new p.1
  first_keeps w (Some a) old m w' new p = acts_keep w w.todo.ring a old m w' new p

  returns_keep : (w : BlockBackend) (o : Option Returning) (old : H) (m : Made) (w' : BlockBackend) (new : H)
      → Returns step w o old m w' new → K old new
  returns_keep w None old m w' new p = first_keeps
      (record w { todo = record w.todo { actions = drop 1 w.todo.actions } })
      (slice_get w.todo.actions 0) old m w' new p
  returns_keep w (Some t) old m w' new p = back_keeps (record w { returning = None }) t old w' new p.0

  pub steps_keep : (w : BlockBackend) (old : H) (m : Made) (w' : BlockBackend) (new : H) → Steps step w old m w' new
      → K old new
  steps_keep w old m w' new = go w.todo.place
    where
      go : (o : Option Place) → StepsFrom step w o old m w' new → K old new
      go None p = returns_keep w w.returning old m w' new p
      go (Some place) p = same old new p.2

  -- ---- turns

  begins_keep : (terms : DeviceLimits) (back : AnyQueue) (q : BlockQueueState) (buffer : PackedBuffer)
      (chain : List Segment) (old : H) (a : Pop) (q' : BlockQueueState) (new : H)
      → Begins step terms back q buffer chain old a q' new → K old new
  begins_keep terms back q buffer chain old a q' new = go (has_place q buffer.id)
    where
      go : (v : Bool) → MatchBool v ((r : Result Request GuestMemoryError) × step old (begins terms chain) r new
          × ((a, q') ≡ begun back q buffer chain r)) ((a ≡ popped buffer (Refused 1)) × (q' ≡ q) × (new ≡ old))
          → K old new
      go true (r, first, is) = plain old (begins terms chain) r new tt first
      go false p = same old new p.2

  pops_keep : (terms : DeviceLimits) (q : BlockQueueState) (old : H) (a : Pop) (q' : BlockQueueState) (new : H)
      → Pops step terms q old a q' new → K old new
  pops_keep terms q old a q' new (r, mid, first, rest) =
      then old mid new (plain old (pops q.queue) r mid tt first) (go r rest)
    where
      go : (r : Result (Option (PackedBuffer × List Segment)) QueueError) → PopsBy step terms q r mid a q' new → K mid new
      go (Ok (Some p)) is = begins_keep terms q.queue (with_queue q (past q.queue p.0)) p.0 p.1 mid a q' new is
      go (Ok None) is = same mid new is.2
      go (Err e) is = same mid new is.2

  pub asks_keep : (q : BlockQueueState) (old : H) (r : Result Bool QueueError) (new : H) → Asks step q old r new → K old new
  asks_keep q old r new (asked, first, rest) = then old asked new (plain old (enables q.queue) r asked tt first)
      (ring_keeps (asking_marks q.queue q.reach.log) asked new rest)

  waits_keep : (terms : DeviceLimits) (q : BlockQueueState) (old : H) (a : Option RingEvent) (q' : BlockQueueState)
      (new : H) → Waits step terms q old a q' new → K old new
  waits_keep terms q old a q' new (r, mid, asks, after) = then old mid new (asks_keep q old r mid asks) (go r after)
    where
      go : (r : Result Bool QueueError) → AfterAsk step terms q r mid a q' new → K mid new
      go (Ok true) (found, is, what) = pops_keep terms q mid found q' new is
      go (Ok false) p = same mid new p.2
      go (Err e) p = same mid new p.2

  pop_or_wait_keeps : (terms : DeviceLimits) (q : BlockQueueState) (old : H) (a : Option RingEvent) (q' : BlockQueueState)
      (new : H) → PopsOrWaits step terms q old a q' new → K old new
  pop_or_wait_keeps terms q old a q' new (found, mid_q, mid, first, rest) =
      then old mid new (pops_keep terms q old found mid_q mid first) (go found rest)
    where
      go : (found : Pop) → AfterPop step terms found mid_q mid a q' new → K mid new
      go pop.None p = waits_keep terms mid_q mid a q' new p
      go (pop.Chain chain parts bytes) p = same mid new p.2
      go (pop.Broken e) p = same mid new p.2
      go pop.Later p = same mid new p.2

  reads_keep : (q : BlockQueueState) (v : Bool) (u : AnyQueue) (old : H) (r : Result (Unit {0}) QueueError)
      (q' : BlockQueueState) (new : H) → ReadsBy step q v u old r q' new → K old new
  reads_keep q true (Split u) old r q' new (next, first, is) = plain old (reads_used u) next new tt first
  reads_keep q true (Packed u) old r q' new p = same old new p.2
  reads_keep q false u old r q' new p = same old new p.2

  pub next_keeps : (terms : DeviceLimits) (q : BlockQueueState) (old : H) (a : Option RingEvent) (q' : BlockQueueState)
      (new : H) → HappensNext step terms q old a q' new → K old new
  next_keeps terms q old a q' new (read, mid_q, mid, first, rest) =
      then old mid new (reads_keep q q.is_unread q.queue old read mid_q mid first) (go read rest)
    where
      go : (r : Result (Unit {0}) QueueError) → AfterRead step terms r mid_q mid a q' new → K mid new
      go (Ok done) p = pop_or_wait_keeps terms mid_q mid a q' new p
      go (Err e) p = same mid new p.2

  -- ---- what was in flight

  after_start_keeps : (q : BlockQueueState) (p : FlightPlace) (r : Result SplitStart StartError) (old : H)
      (a : Option RingEvent) (q' : BlockQueueState) (new : H) → AfterStart step q p r old a q' new → K old new
  after_start_keeps q p (Ok s) old a q' new (mid, all, marked, is, becomes) =
      then old mid new (tracks_keep p s.stores.items old mid all)
      (ring_keeps (logged_at q.reach.log (used_ring_of q.queue)) mid new marked)
  after_start_keeps q p (Err e) old a q' new (is, becomes, still) = same old new still

  after_packed_keeps : (q : BlockQueueState) (p : FlightPlace) (r : Result PackedStart PackedStartError) (old : H)
      (a : Option RingEvent) (q' : BlockQueueState) (new : H) → AfterPackedStart step q p r old a q' new → K old new
  after_packed_keeps q p (Ok s) old a q' new (Ok k, made, (mid, all, marked, is, becomes)) =
      then old mid new (packed_keep p s.stores.items old mid all)
      (ring_keeps (logged_at q.reach.log (used_ring_of q.queue)) mid new marked)
  after_packed_keeps q p (Ok s) old a q' new (Err e, made, (is, becomes, still)) = same old new still
  after_packed_keeps q p (Err e) old a q' new (is, becomes, still) = same old new still

  reads_old_keeps : (u : PackedVirtqueue) (o : Option ℕ) (old : H) (r : Result ℕ QueueError) (new : H)
      → ReadsOld step u o old r new → K old new
  reads_old_keeps u None old r new p = same old new p.1
  reads_old_keeps u (Some slot) old r new p = plain old (reads_flags u slot) r new tt p

  after_old_keeps : (size : ℕ) (base : PackedPosition) (q : BlockQueueState) (p : FlightPlace) (bytes : List ℕ)
      (r : Result ℕ QueueError) (old : H) (a : Option RingEvent) (q' : BlockQueueState) (new : H)
      → AfterOld step size base q p bytes r old a q' new → K old new
  after_old_keeps size base q p bytes (Ok flags) old a q' new (r, starts, after) =
      after_packed_keeps q p r old a q' new after
  after_old_keeps size base q p bytes (Err e) old a q' new (is, becomes, still) = same old new still

  from_keeps : (v : AnyQueue) (q : BlockQueueState) (p : FlightPlace) (bytes : List ℕ) (old : H) (a : Option RingEvent)
      (q' : BlockQueueState) (new : H) → GoesOnFrom step v q p bytes old a q' new → K old new
  from_keeps (Split u) q p bytes old a q' new (r, starts, after) = after_start_keeps q p r old a q' new after
  from_keeps (Packed u) q p bytes old a q' new (flags, mid, reads, after) =
      then old mid new (reads_old_keeps u (old_slot u.state.size bytes) old flags mid reads)
      (after_old_keeps u.state.size (base_in u.state) q p bytes flags mid a q' new after)

  after_region_keeps : (q : BlockQueueState) (p : FlightPlace) (r : Result (List ℕ) AllocError) (old : H)
      (a : Option RingEvent) (q' : BlockQueueState) (new : H) → AfterRegion step q p r old a q' new → K old new
  after_region_keeps q p (Ok bytes) old a q' new all = from_keeps q.queue q p bytes old a q' new all
  after_region_keeps q p (Err e) old a q' new (is, becomes, still) = same old new still

  region_keeps : (q : BlockQueueState) (o : Option FlightPlace) (old : H) (a : Option RingEvent)
      (q' : BlockQueueState) (new : H) → ReadsRegion step q o old a q' new → K old new
  region_keeps q None old a q' new (is, becomes, still) = same old new still
  region_keeps q (Some p) old a q' new (r, mid, first, after) =
      then old mid new (plain old (reads_region p.base p.len) r mid tt first)
      (after_region_keeps q p r mid a q' new after)

  pub resumes_keep : (q : BlockQueueState) (old : H) (a : Option RingEvent) (q' : BlockQueueState) (new : H)
      → Resumes step q old a q' new → K old new
  resumes_keep q old a q' new (r, mid_q, mid, reads, after) =
      then old mid new (reads_keep q q.is_unread q.queue old r mid_q mid reads) (go r after)
    where
      go : (r : Result (Unit {0}) QueueError) → AfterUsed step mid_q r mid a q' new → K mid new
      go (Ok done) p = region_keeps mid_q mid_q.flight.place mid a q' new p
      go (Err e) (is, becomes, still) = same mid new still

  pub known_here_keeps : (terms : DeviceLimits) (q : BlockQueueState) (r : Result (Option Found) QueueError) (old : H)
      (a : Option RingEvent) (q' : BlockQueueState) (new : H) → AfterKnown step terms None q r old a q' new → K old new
  known_here_keeps terms q (Ok (Some f)) old a q' new (found, began, is) =
      begins_keep terms (at_next (at_next q.queue f.after) (next_avail_of q.queue)) (gone_to q f.after) f.buffer f.chain
      old found q' new began
  known_here_keeps terms q (Ok None) old a q' new (is, becomes, still) = same old new still
  known_here_keeps terms q (Err e) old a q' new (is, becomes, still) = same old new still

  flies_in_keep : (o : Option PackedFlightState) (id : ℕ) (f : FlightState) (old : H) (f' : FlightState) (new : H)
      → FliesIn step o id f old f' new → K old new
  flies_in_keep None id f old f' new (becomes, still) = same old new still
  flies_in_keep (Some k) id f old f' new (all, becomes) =
      pop_stores_keep f.place k.kept (map copy_by k.found) old new all

  flies_at_keep : (terms : DeviceLimits) (o : Option (PackedBuffer × List PackedDescriptor)) (chain : Chain)
      (q : BlockQueueState) (old : H) (q' : BlockQueueState) (new : H) → FliesAt step o chain q old q' new → K old new
  flies_at_keep terms (Some p) chain q old q' new (becomes, still) = same old new still
  flies_at_keep terms None chain q old q' new p = go q.flight.kept p
    where
      go : (o : Option SplitInFlight) → MatchOption o (FliesPacked step chain.id q old q' new)
          (λ k. TracksAt step q.flight.place (pop_stores k chain.id) old new × (q' ≡ with_kept q (after_pop k)))
          → K old new
      go None (flies, becomes) = flies_in_keep q.flight.packed chain.id q.flight old q'.flight new flies
      go (Some k) (all, becomes) = tracks_at_keep q.flight.place (pop_stores k chain.id) old new all

  pub flies_keep : (terms : DeviceLimits) (a : Option RingEvent) (q : BlockQueueState) (old : H) (q' : BlockQueueState)
      (new : H) → FliesBy step a q old q' new → K old new
  flies_keep terms (Some (Popped chain parts bytes)) q old q' new p =
      flies_at_keep terms (next_again q.flight) chain q old q' new p
  flies_keep terms None q old q' new p = same old new p.1
  flies_keep terms (Some Start) q old q' new p = same old new p.1
  flies_keep terms (Some Stop) q old q' new p = same old new p.1
  flies_keep terms (Some (Enable on)) q old q' new p = same old new p.1
  flies_keep terms (Some Break) q old q' new p = same old new p.1
  flies_keep terms (Some Kick) q old q' new p = same old new p.1
  flies_keep terms (Some Emptied) q old q' new p = same old new p.1
  flies_keep terms (Some (Ended id end)) q old q' new p = same old new p.1

  -- ---- turns of a ring whose addresses a table translates

  module _ (kept : (old : H) (k : Kept) (r : Result (Unit {0}) AllocError) (new : H) → step old (keeps k) r new → K old new)
      (forgot : (old : H) (k : Kept) (r : Result (Unit {0}) AllocError) (new : H) → step old (forgets k) r new → K old new)
    where
      all_kept : (ks : List Kept) (old : H) (r : Result (Unit {0}) AllocError) (new : H) → KeepsAll step ks old r new → K old new
      all_kept [] old r new p = same old new p.1
      all_kept (k ∷ ks) old r new (one, mid, first, rest) = then old mid new (kept old k one mid first)
          (go one (λ p. all_kept ks mid r new p) rest)
        where
          go : (o : Result (Unit {0}) AllocError) → (KeepsAll step ks mid r new → K mid new)
              → MatchResult o (λ done. KeepsAll step ks mid r new) (λ e. (r ≡ Err e) × (new ≡ mid)) → K mid new
          go (Ok done) on p = on p
          go (Err e) on p = same mid new p.1

      all_forgotten : (ks : List Kept) (old : H) (r : Result (Unit {0}) AllocError) (new : H) → ForgetsAll step ks old r new
          → K old new
      all_forgotten [] old r new p = same old new p.1
      all_forgotten (k ∷ ks) old r new (one, mid, first, rest) =
          then old mid new (forgot old k one mid first) (go one (λ p. all_forgotten ks mid r new p) rest)
        where
          go : (o : Result (Unit {0}) AllocError) → (ForgetsAll step ks mid r new → K mid new)
              → MatchResult o (λ done. ForgetsAll step ks mid r new) (λ e. (r ≡ Err e) × (new ≡ mid)) → K mid new
          go (Ok done) on p = on p
          go (Err e) on p = same mid new p.1

      both_forgotten : (l : ReachState) (old : H) (r : Result (Unit {0}) AllocError) (new : H) → ForgetsBoth step l old r new
          → K old new
      both_forgotten l old r new (one, mid, first, rest) =
          then old mid new (all_forgotten l.pages old one mid first) (go one rest)
        where
          go : (o : Result (Unit {0}) AllocError)
              → MatchResult o (λ done. ForgetsAll step l.rows mid r new) (λ e. (r ≡ Err e) × (new ≡ mid)) → K mid new
          go (Ok done) p = all_forgotten l.rows mid r new p
          go (Err e) p = same mid new p.1

      rows_keep : (q : BlockQueueState) (kept : List Kept) (old : H) (a : Option RingEvent) (q' : BlockQueueState) (new : H)
          → KeepsRows step q kept old a q' new → K old new
      rows_keep q kept old a q' new (Ok done, becomes, (r, them, is)) = all_kept kept old r new them
      rows_keep q kept old a q' new (Err e, becomes, p) = same old new p.1

      fetched_begins : (terms : DeviceLimits) (q : BlockQueueState) (o : Origin) (chain : List Segment) (kept : List Kept)
          (old : H) (a : Option RingEvent) (q' : BlockQueueState) (new : H)
          → BeginsFetched step terms q o chain kept old a q' new → K old new
      fetched_begins terms q o chain kept old a q' new = go (has_place q o.buffer.id)
        where
          go : (v : Bool) → MatchBool v
              ((r : Result Request GuestMemoryError) × step old (begins (open_terms terms) chain) r new
              × ((a, q') ≡ begun_behind q o chain kept r))
              ((a ≡ event_of (popped o.buffer (Refused 1))) × (q' ≡ past_found q o) × (new ≡ old)) → K old new
          go true (r, first, is) = plain old (begins (open_terms terms) chain) r new tt first
          go false p = same old new p.2

      fetched_keeps : (terms : DeviceLimits) (q : BlockQueueState) (o : Origin) (kept : List Kept) (old : H)
          (a : Option RingEvent) (q' : BlockQueueState) (new : H) → TakesFetched step terms q o kept old a q' new → K old new
      fetched_keeps terms q o kept old a q' new (Ok done, p) =
          fetched_begins terms q o (or_empty (guest_chain kept)) kept old a q' new p
      fetched_keeps terms q o kept old a q' new (Err e, p) = same old new p.2

      uses_keep : (terms : DeviceLimits) (q : BlockQueueState) (g : Goal) (kept : List Kept) (old : H) (a : Option RingEvent)
          (q' : BlockQueueState) (new : H) → Uses step terms q g kept old a q' new → K old new
      uses_keep terms q goal.Ring kept old a q' new (r, them, is, becomes) = all_kept kept old r new them
      uses_keep terms q goal.Rows kept old a q' new p = rows_keep q kept old a q' new p
      uses_keep terms q (goal.Chain found) kept old a q' new p =
          fetched_keeps terms q (origin_of found false) kept old a q' new p
      uses_keep terms q (goal.Status found) kept old a q' new p =
          fetched_keeps terms q (origin_of found (has_gap found.chain)) kept old a q' new p

      gives_up_keeps : (terms : DeviceLimits) (q : BlockQueueState) (g : Goal) (old : H) (a : Option RingEvent)
          (q' : BlockQueueState) (new : H) → GivesUp step terms q g old a q' new → K old new
      gives_up_keeps terms q goal.Ring old a q' new p = same old new p.2
      gives_up_keeps terms q goal.Rows old a q' new p = same old new p.2
      gives_up_keeps terms q (goal.Chain found) old a q' new (r, is, becomes, still) = same old new still
      gives_up_keeps terms q (goal.Status found) old a q' new p =
          fetched_keeps terms q (origin_of found false) [] old a q' new p

      module _ (f : Says) (can_ask : Bool) (terms : DeviceLimits) where
        looked_keeps : (q : BlockQueueState) (g : FetchState) (s : State) (old : H) (a : Option RingEvent)
            (q' : BlockQueueState) (new : H) → AfterLookUp step can_ask terms q g s old a q' new → K old new
        looked_keeps q g state.Begun old a q' new p = same old new p.2
        looked_keeps q g (state.Waits iova access) old a q' new p = go can_ask p
          where
            go : (v : Bool) → MatchBool v ((a ≡ Some Emptied) × (q' ≡ with_fetch q (Some g)) × (new ≡ old))
                (GivesUp step terms q g.goal old a q' new) → K old new
            go true p = same old new p.2
            go false p = gives_up_keeps terms q g.goal old a q' new p
        looked_keeps q g state.Stops old a q' new p = gives_up_keeps terms q g.goal old a q' new p
        looked_keeps q g state.Whole old a q' new p = uses_keep terms q g.goal g.kept old a q' new p

        chain_keeps : (q : BlockQueueState) (found : Found) (old : H) (a : Option RingEvent) (q' : BlockQueueState) (new : H)
            → FetchesChain step terms q found old a q' new → K old new
        chain_keeps q found old a q' new (one, them, rest) = all_forgotten q.reach.rows old one new them

        look_keeps : (q : BlockQueueState) (r : Result (Option Found) QueueError) (old : H) (a : Option RingEvent)
            (q' : BlockQueueState) (new : H) → AfterLook step terms q r old a q' new → K old new
        look_keeps q (Ok (Some found)) old a q' new p = chain_keeps q found old a q' new p
        look_keeps q (Ok None) old a q' new p = same old new p.2
        look_keeps q (Err e) old a q' new p = same old new p.1

        find_keeps : (u : AnyQueue) (old : H) (r : Result (Option Found) QueueError) (new : H) → Finds step u old r new
            → K old new
        find_keeps u old r new (p, first, is) = plain old (pops u) p new tt first

        wait_behind_keeps : (q : BlockQueueState) (old : H) (a : Option RingEvent) (q' : BlockQueueState) (new : H)
            → WaitsBehind step terms q old a q' new → K old new
        wait_behind_keeps q old a q' new (r, mid, asks, after) = then old mid new (asks_keep q old r mid asks) (go r after)
          where
            go : (r : Result Bool QueueError) → AfterAskBehind step terms q r mid a q' new → K mid new
            go (Ok true) (r, found, finds, after) =
                then mid found new (find_keeps q.queue mid r found finds) (look_keeps q r found a q' new after)
            go (Ok false) p = same mid new p.2
            go (Err e) p = same mid new p.2

        finds_keep : (q : BlockQueueState) (old : H) (a : Option RingEvent) (q' : BlockQueueState) (new : H)
            → FindsNext step terms q old a q' new → K old new
        finds_keep q old a q' new (r, mid, finds, after) =
            then old mid new (find_keeps q.queue old r mid finds) (go r after)
          where
            go : (r : Result (Option Found) QueueError) → AfterFind step terms q r mid a q' new → K mid new
            go (Ok (Some found)) p = chain_keeps q found mid a q' new p
            go (Ok None) p = wait_behind_keeps q mid a q' new p
            go (Err e) p = same mid new p.1

        fetches_next_keep : (q : BlockQueueState) (old : H) (a : Option RingEvent) (q' : BlockQueueState) (new : H)
            → FetchesNext step terms q old a q' new → K old new
        fetches_next_keep q old a q' new = go q.reach.is_reached
          where
            reads : (v : Bool) → MatchBool v (ReadsBehind step q old a q' new)
                (FindsNext step terms q old a q' new) → K old new
            reads true (r, done, is) = reads_keep q q.is_unread q.queue old r q' new done
            reads false p = finds_keep q old a q' new p

            go : (v : Bool) → MatchBool v (MatchBool q.is_unread (ReadsBehind step q old a q' new)
                (FindsNext step terms q old a q' new)) (ReachesRing step q old a q' new) → K old new
            go true p = reads q.is_unread p
            go false (one, them, rest) = both_forgotten q.reach old one new them

        behind_keeps : (q : BlockQueueState) (old : H) (a : Option RingEvent) (q' : BlockQueueState) (new : H)
            → HappensBehind step f can_ask terms q old a q' new → K old new
        behind_keeps q old a q' new = go q.reach.fetch
          where
            go : (o : Option FetchState) → MatchOption o (FetchesNext step terms q old a q' new)
                (λ g. Fetches step f can_ask terms (with_fetch q None) g old a q' new) → K old new
            go None p = fetches_next_keep q old a q' new p
            go (Some g) (g', looks, after) = looked_keeps (with_fetch q None) g' g'.state old a q' new after

      -- ---- changes of the table

      reach_changes_keep : (c : Change) (l : ReachState) (old : H) (done : Result Bool AllocError) (l' : ReachState) (new : H)
          → Changes step c l old done l' new → K old new
      reach_changes_keep c l old done l' new = go (list_any (differs c) l.pages)
        where
          others : (v : Bool) → MatchBool v
              ((one : Result (Unit {0}) AllocError) × ForgetsAll step l.rows old one new
              × (done ≡ changed_by (is_some l.fetch) one) × (l' ≡ rows_forgotten (record l { fetch = None }) one))
              ((done ≡ Ok (is_dropped c l.fetch)) × (l' ≡ record l { fetch = after_drop c l.fetch }) × (new ≡ old)) → K old new
          others true (one, them, is, becomes) = all_forgotten l.rows old one new them
          others false p = same old new p.2

          go : (v : Bool) → MatchBool v
              ((one : Result (Unit {0}) AllocError) × ForgetsBoth step l old one new
              × (done ≡ changed_by (is_some l.fetch) one) × (l' ≡ forgotten (dropped l) one))
              (ChangesOthers step c l old done l' new) → K old new
          go true (one, them, is, becomes) = both_forgotten l old one new them
          go false p = others (list_any (differs c) l.rows) p

      changes_at_keep : (c : Change) (n : ℕ) (qs : List BlockQueueState) (ks : List Bool) (old : H)
          (done : Result (Unit {0}) AllocError) (qs' : List BlockQueueState) (ks' : List Bool) (new : H)
          → ChangesAt step c n qs ks old done qs' ks' new → K old new
      changes_at_keep c n qs ks old (Ok done) qs' ks' new = go (slice_get qs n)
        where
          go : (o : Option BlockQueueState) → MatchOption o ((qs' ≡ qs) × (ks' ≡ ks) × (new ≡ old))
              (λ q. (had : Bool) × (r : ReachState) × Changes step c q.reach old (Ok had) r new
              × (qs' ≡ slice_set qs n (with_reach q r)) × (ks' ≡ kicked_if had ks n)) → K old new
          go None p = same old new p.2
          go (Some q) (had, r, changes, is, becomes) = reach_changes_keep c q.reach old (Ok had) r new changes
      changes_at_keep c n qs ks old (Err e) qs' ks' new = go (slice_get qs n)
        where
          go : (o : Option BlockQueueState) → IsSomeAnd o (λ q. (r : ReachState)
              × Changes step c q.reach old (Err e) r new × (qs' ≡ slice_set qs n (with_reach q r)) × (ks' ≡ ks)) → K old new
          go None p = absurd p
          go (Some q) (r, changes, is, becomes) = reach_changes_keep c q.reach old (Err e) r new changes

      changes_to_keep : (c : Change) (n : ℕ) (qs : List BlockQueueState) (ks : List Bool) (old : H)
          (qs' : List BlockQueueState) (ks' : List Bool) (new : H) → ChangesTo step c n qs ks old qs' ks' new → K old new
      changes_to_keep c zero qs ks old qs' ks' new p = same old new p.2
      changes_to_keep c (suc n) qs ks old qs' ks' new (mid, mid_kicks, between, first, rest) =
          then old between new (changes_to_keep c n qs ks old mid mid_kicks between first)
          (changes_at_keep c n mid mid_kicks between (Ok tt) qs' ks' new rest)

      changes_all_keep : (c : Change) (qs : List BlockQueueState) (ks : List Bool) (old : H)
          (done : Result (Unit {0}) AllocError) (qs' : List BlockQueueState) (ks' : List Bool) (new : H)
          → ChangesAll step c qs ks old done qs' ks' new → K old new
      changes_all_keep c qs ks old (Ok done) qs' ks' new p = changes_to_keep c (length qs) qs ks old qs' ks' new p
      changes_all_keep c qs ks old (Err e) qs' ks' new (n, mid, mid_kicks, between, first, rest) =
          then old between new (changes_to_keep c n qs ks old mid mid_kicks between first)
          (changes_at_keep c n mid mid_kicks between (Err e) qs' ks' new rest)

      pub changes_table_keep : (w : BlockBackend) (t : Table) (old : H) (is : Bool) (w' : BlockBackend) (t' : Table) (new : H)
          → ChangesTable step w t old is w' t' new → K old new
      changes_table_keep w t old is w' t' new = by w.change
        where
          by : (o : Option Change) → ChangesBy step o w t old is w' t' new → K old new
          by None p = same old new p.3
          by (Some c) p = go (in_use c w.queues) p
            where
              go : (v : Bool) → MatchBool v ((is ≡ false) × (w' ≡ w) × (t' ≡ t) × (new ≡ old))
                  ((done : Result (Unit {0}) AllocError) × (qs : List BlockQueueState) × (ks : List Bool)
                  × ChangesAll step c w.queues w.kicks old done qs ks new
                  × MatchResult done (λ it. AfterChange c (record w { queues = qs; kicks = ks }) t is w' t')
                  (λ e. (is ≡ false) × (w' ≡ record w { queues = qs; kicks = ks }) × (t' ≡ t))) → K old new
              go true p = same old new p.3
              go false (done, qs, ks, all, rest) = changes_all_keep c w.queues w.kicks old done qs ks new all

      known_keeps : (terms : DeviceLimits) (way : Option Sight) (q : BlockQueueState)
          (r : Result (Option Found) QueueError) (old : H) (a : Option RingEvent) (q' : BlockQueueState) (new : H)
          → AfterKnown step terms way q r old a q' new → K old new
      known_keeps terms None q r old a q' new p = known_here_keeps terms q r old a q' new p
      known_keeps terms (Some way) q r old a q' new p = look_keeps (says way.table) way.can_ask terms q r old a q' new p

      again_keeps : (terms : DeviceLimits) (way : Option Sight) (q : BlockQueueState) (buffer : PackedBuffer) (after : ℕ)
          (ds : List PackedDescriptor) (old : H) (a : Option RingEvent) (q' : BlockQueueState) (new : H)
          → PopsAgain step terms way q buffer after ds old a q' new → K old new
      again_keeps terms way q buffer after ds old a q' new (r, mid, first, rest) =
          then old mid new (plain old (pops_again q.queue buffer.id ds) r mid tt first)
          (known_keeps terms way q (found_as buffer after r) mid a q' new rest)

      -- ---- chains of a packed ring that keeps what is in flight

      after_copies_keep : (terms : DeviceLimits) (way : Option Sight)
          (r : Result (Option (List PackedDescriptor)) QueueError) (q : BlockQueueState) (old : H) (a : Option RingEvent)
          (q' : BlockQueueState) (new : H) → AfterCopies step terms way r q old a q' new → K old new
      after_copies_keep terms way (Ok (Some ds)) q old a q' new p =
          again_keeps terms way q (buffer_of ds) (next_avail_of (past q.queue (buffer_of ds))) ds old a q' new p
      after_copies_keep terms way (Ok None) q old a q' new p = known_keeps terms way q (Ok None) old a q' new p
      after_copies_keep terms way (Err e) q old a q' new p = known_keeps terms way q (Err e) old a q' new p

      ask_copies_keep : (terms : DeviceLimits) (way : Option Sight) (u : PackedVirtqueue) (k : PackedFlightState)
          (r : Result Bool QueueError) (q : BlockQueueState) (old : H) (a : Option RingEvent) (q' : BlockQueueState)
          (new : H) → AfterAskCopies step terms way u k r q old a q' new → K old new
      ask_copies_keep terms way u k (Ok true) q old a q' new (r, mid_q, mid, finds, after) =
          then old mid new (plain old (finds_copies u) r mid tt finds.0.0)
          (after_copies_keep terms way r mid_q mid a q' new after)
      ask_copies_keep terms way u k (Ok false) q old a q' new (is, becomes, still) = same old new still
      ask_copies_keep terms way u k (Err e) q old a q' new (is, becomes, still) = same old new still

      first_copies_keep : (terms : DeviceLimits) (way : Option Sight) (u : PackedVirtqueue) (k : PackedFlightState)
          (r : Result (Option (List PackedDescriptor)) QueueError) (q : BlockQueueState) (old : H) (a : Option RingEvent)
          (q' : BlockQueueState) (new : H) → AfterFirst step terms way u k r q old a q' new → K old new
      first_copies_keep terms way u k (Ok None) q old a q' new (r, mid, asks, after) =
          then old mid new (asks_keep q old r mid asks) (ask_copies_keep terms way u k r q mid a q' new after)
      first_copies_keep terms way u k (Ok (Some ds)) q old a q' new p =
          after_copies_keep terms way (Ok (Some ds)) q old a q' new p
      first_copies_keep terms way u k (Err e) q old a q' new p = after_copies_keep terms way (Err e) q old a q' new p

      pub copies_keep : (terms : DeviceLimits) (way : Option Sight) (u : PackedVirtqueue) (k : PackedFlightState)
          (q : BlockQueueState) (old : H) (a : Option RingEvent) (q' : BlockQueueState) (new : H)
          → PopsCopies step terms way u k q old a q' new → K old new
      copies_keep terms way u k q old a q' new (r, mid_q, mid, finds, after) =
          then old mid new (plain old (finds_copies u) r mid tt finds.0.0)
          (first_copies_keep terms way u k r mid_q mid a q' new after)

      -- ---- turns, by what translates the addresses of rings

      by_keeps : (way : Option Sight) (terms : DeviceLimits) (q : BlockQueueState) (old : H) (a : Option RingEvent)
          (q' : BlockQueueState) (new : H) → HappensBy step way terms q old a q' new → K old new
      by_keeps None terms q old a q' new p = next_keeps terms q old a q' new p
      by_keeps (Some way) terms q old a q' new p = behind_keeps (says way.table) way.can_ask terms q old a q' new p

      new_keeps : (way : Option Sight) (terms : DeviceLimits) (v : AnyQueue) (o : Option PackedFlightState)
          (q : BlockQueueState) (old : H) (a : Option RingEvent) (q' : BlockQueueState) (new : H)
          → HappensNew step terms way v o q old a q' new → K old new
      new_keeps way terms (Packed u) (Some k) q old a q' new p = go (is_open way q) p
        where
          go : (v : Bool) → MatchBool v (PopsCopies step terms way u k q old a q' new)
              (HappensBy step way terms q old a q' new) → K old new
          go true p = copies_keep terms way u k q old a q' new p
          go false p = by_keeps way terms q old a q' new p
      new_keeps way terms (Packed u) None q old a q' new p = by_keeps way terms q old a q' new p
      new_keeps way terms (Split u) o q old a q' new p = by_keeps way terms q old a q' new p

      first_of_keeps : (way : Option Sight) (terms : DeviceLimits) (q : BlockQueueState)
          (o : Option (PackedBuffer × List PackedDescriptor)) (old : H) (a : Option RingEvent) (q' : BlockQueueState)
          (new : H) → HappensFirst step terms way q o old a q' new → K old new
      first_of_keeps way terms q None old a q' new p = new_keeps way terms q.queue q.flight.packed q old a q' new p
      first_of_keeps way terms q (Some t) old a q' new p = go (is_open way q) p
        where
          go : (v : Bool) → MatchBool v (PopsAgain step terms way q t.0 (next_avail_of q.queue) t.1 old a q' new)
              (HappensBy step way terms q old a q' new) → K old new
          go true p = again_keeps terms way q t.0 (next_avail_of q.queue) t.1 old a q' new p
          go false p = by_keeps way terms q old a q' new p

      pub in_keeps : (way : Option Sight) (terms : DeviceLimits) (q : BlockQueueState) (old : H) (a : Option RingEvent)
          (q' : BlockQueueState) (new : H) → HappensIn step terms way q old a q' new → K old new
      in_keeps way terms q old a q' new p = go (is_due way q) p
        where
          go : (v : Bool) → MatchBool v (Resumes step q old a q' new) (Flies step terms way q old a q' new) → K old new
          go true p = resumes_keep q old a q' new p
          go false (mid_q, mid, first, flies) =
              then old mid new (first_of_keeps way terms q (next_again q.flight) old a mid_q mid first)
              (flies_keep terms a mid_q mid q' new flies)

      turn_keeps : (way : Option Sight) (w : BlockBackend) (b : BackendState) (old new : H) (q : BlockQueueState) (r : Option Todo)
          (q' : BlockQueueState) → queues.Turns step way (terms_of w) w.turn w.backend b old new q r q' → K old new
      turn_keeps way w b old new q r q' = go (may_pop w.backend.rings w.turn)
        where
          go : (v : Bool) → MatchBool v
              ((e : Option RingEvent) × HappensIn step (terms_of w) way q old e q' new × ((b, r) ≡ turn.told w.backend w.turn e))
              ((r ≡ None) × (b ≡ w.backend) × (q' ≡ q) × (new ≡ old)) → K old new
          go true (e, next, is) = in_keeps way (terms_of w) q old e q' new next
          go false p = same old new p.3

      takes_keep : (way : Option Sight) (w : BlockBackend) (old : H) (is : Bool) (w' : BlockBackend) (new : H)
          → TakesTurn step way w old is w' new
          → K old new
      takes_keep way w old is w' new (r, b, qs, with, none, was, becomes) =
          queue_keeps w.queues w.turn None old r qs new (queues.Turns step way (terms_of w) w.turn w.backend b old new)
          (λ q q' p. turn_keeps way w b old new q r q' p) with

      pub looks_keep : (way : Option Sight) (w : BlockBackend) (old : H) (is : Bool) (w' : BlockBackend) (new : H)
          → Looks step way w old is w' new
          → K old new
      looks_keep way w old is w' new (None, kicks, takes, turns) = takes_keep way (record w { kicks = kicks }) old is w' new turns
      looks_keep way w old is w' new (Some ring, kicks, takes, (was, becomes, is_same)) = same old new is_same
