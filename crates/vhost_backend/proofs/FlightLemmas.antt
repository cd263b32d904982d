-- What a step of a turn leaves of its queue, if the ring's requests in flight are stored in a region.
use Rattle.std.proofs.Common.{◌≡◌, ◌⊎◌, ◌∙◌, ℕ, zero, suc, Bool, true, false, ◌&&◌, List, [], ◌∷◌, drop, length, Option, Some, None, is_none, Result, Ok, Err, MatchBool, MatchOption, refl, ap, sym, subst, inl, inr}
use Rattle.vm_memory_base.specs.Table.{says}
use Rattle.vm_memory_guest.specs.declared.region.error.GuestMemoryError.{GuestMemoryError}
use Rattle.vm_memory_device.specs.declared.chain.Segment.{Segment}
use Rattle.virtio_blk.specs.declared.request.DeviceLimits.{DeviceLimits}
use Rattle.virtio_blk.specs.declared.request.Request.{Request}
use Rattle.virtio_blk.specs.declared.request.Request.TheVariants.{Refused}
use Rattle.virtio_queue.specs.Any.{at_next, next_avail_of, past}
use Rattle.virtio_queue.specs.Packed.{PackedVirtqueue}
use Rattle.virtio_queue.specs.declared.any.AnyQueue.{AnyQueue}
use Rattle.virtio_queue.specs.declared.any.AnyQueue.TheVariants.{Split, Packed}
use Rattle.virtio_queue.specs.declared.packed.descriptor.PackedDescriptor.{PackedDescriptor}
use Rattle.virtio_queue.specs.declared.packed.state.PackedBuffer.{PackedBuffer}
use Rattle.vhost_inflight.specs.declared.packed_error.PackedStartError.{PackedStartError}
use Rattle.vhost_inflight.specs.declared.packed_error.PackedStartError.TheVariants as packed
use Rattle.vhost_inflight.specs.declared.packed_region.PackedPosition.{PackedPosition}
use Rattle.vhost_inflight.specs.declared.packed_start.PackedStart.{PackedStart}
use Rattle.vhost_backend.specs.PackedFlight.{PackedFlightState, buffer_of}
use Rattle.vhost_backend.specs.declared.fetch.Found.{Found}
use Rattle.virtio_queue.specs.declared.error.QueueError.{QueueError}
use Rattle.vhost_inflight.specs.Split.{after_pop, after_return, begin_return_stores, pop_stores}
use Rattle.vhost_inflight.specs.declared.split.SplitInFlight.{SplitInFlight}
use Rattle.vhost_inflight.specs.declared.split_start.SplitStart.{SplitStart}
use Rattle.vhost_inflight.specs.declared.split_start.StartError.{StartError}
use Rattle.vhost_inflight.specs.declared.split_start.StartError.TheVariants as start
use Rattle.vhost_backend.proofs.MissLemmas.{chain_begins, read_waits, row_begins}
use Rattle.vhost_backend.proofs.StageLemmas.{IsQuiet, Stage, behind_ends, behind_stage, chain_stage, quiet, refused_quiet, row_stage}
use Rattle.vhost_backend.proofs.TurnLemmas.{emptied_stays, found_none, read_asked}
use Rattle.vhost_backend.specs.Behind.{HappensBy, IsWaiting}
use Rattle.vhost_backend.specs.BlockQueue.{Asks, Begins, BlockQueueState, CopiesNone, FlightState, FoundNone, GivesBack, begun, event_of, has_place, popped, refused, shortened, with_asked, with_flight}
use Rattle.vhost_backend.specs.Fetch.{FetchState}
use Rattle.vhost_backend.specs.Flight.{AfterAskCopies, AfterCopies, AfterFirst, AfterKnown, AfterOld, AfterPackedStart, AfterStart, AfterUsed, Flies, FliesAt, FliesBy, FliesPacked, GivesIn, GivesPacked, GoesOnFrom, HappensFirst, HappensIn, HappensNew, Lands, PopsAgain, PopsCopies, ReadsRegion, Resumes, TracksAt, WaitsCopies, base_in, found_as, gone_to, is_due, is_open, next_again, packed_refused, start_refused, with_kept}
use Rattle.vhost_backend.specs.Reach.{waited_for}
use Rattle.vhost_backend.specs.RingMemory.{MemoryStep, Returned, begins, finds_copies}
use Rattle.vhost_backend.specs.Sight.{Sight}
use Rattle.vhost_backend.specs.declared.block_queue.GiveBack.{GiveBack}
use Rattle.vhost_backend.specs.declared.block_queue.Pop.{Pop}
use Rattle.vhost_backend.specs.declared.flight.FlightPlace.{FlightPlace}
use Rattle.vhost_backend.specs.declared.request.Chain.{Chain}
use Rattle.vhost_backend.specs.declared.ring.RingEvent.{RingEvent}
use Rattle.vhost_backend.specs.declared.ring.RingEvent.TheVariants.{Start, Stop, Enable, Break, Kick, Popped, Emptied, Ended}

-- one more is left out
pub next_drop : {X : Type 0} (p : ℕ) (xs : List X) → drop (suc p) xs ≡ drop 1 (drop p xs)
next_drop zero xs = refl
next_drop (suc p) [] = refl
next_drop (suc p) (x ∷ xs) = next_drop p xs

-- a queue is as it was, but for what it has of the region
abbrev pub IsElse : BlockQueueState → BlockQueueState → Type 0
IsElse q q' = q' ≡ with_flight q q'.flight

as_else : (q q' : BlockQueueState) (f : FlightState) → q' ≡ with_flight q f → IsElse q q'
as_else q q' f is = is ∙ ap (with_flight q) (sym (ap (λ (v : BlockQueueState). v.flight) is))

-- a refused start breaks its ring or is tried again
refused_start : (e : StartError) → IsQuiet (start_refused e)
refused_start start.Memory = tt
refused_start start.TooShort = tt
refused_start start.RingSize = tt
refused_start start.Version = tt
refused_start start.DescNum = tt
refused_start start.TooManyReturned = tt
refused_start start.Head = tt
refused_start start.Mark = tt
refused_start start.Counter = tt

refused_packed : (e : PackedStartError) → IsQuiet (packed_refused e)
refused_packed packed.Memory = tt
refused_packed packed.TooShort = tt
refused_packed packed.RingSize = tt
refused_packed packed.Version = tt
refused_packed packed.DescNum = tt
refused_packed packed.Position = tt
refused_packed packed.FreeList = tt
refused_packed packed.Mark = tt
refused_packed packed.Counter = tt
refused_packed packed.ChainLen = tt
refused_packed packed.Shared = tt
refused_packed packed.Last = tt

-- an open ring behind a table fetches nothing
open_fetches : (way : Sight) (q : BlockQueueState) → is_open (Some way) q ≡ true → waited_for q.reach.fetch ≡ None
open_fetches way q = go q.reach.is_reached q.reach.fetch
  where
    go : (v : Bool) (o : Option FetchState) → (v && is_none o) ≡ true → waited_for o ≡ None
    go true None is = refl
    go true (Some g) is = absurd (cc)
    go false o is = absurd (cc)

module _ {H : Type 0} (step : H → (s : MemoryStep) → Returned s → H → Type 0) where
  -- ---- returns

  -- the request is forgotten, and what is kept of a table stays
  pub gives_asked : (q : BlockQueueState) (chain : Chain) (len : ℕ) (old : H) (a : GiveBack) (q' : BlockQueueState)
      (new : H) → GivesIn step q chain len old a q' new
      → (q'.asked ≡ (with_asked q chain.id None).asked) × (q'.reach ≡ q.reach)
  gives_asked q chain len old a q' new = go q.flight.kept
    where
      go : (o : Option SplitInFlight) → MatchOption o (GivesPacked step q chain len old a q' new)
          (λ k. (one two : H) × TracksAt step q.flight.place (begin_return_stores k chain.id) old one
          × GivesBack step (with_kept q (after_return k chain.id)) chain len one a q' two
          × Lands step a q' chain two new) → (q'.asked ≡ (with_asked q chain.id None).asked) × (q'.reach ≡ q.reach)
      go None (one, two, before, (publishes, is), after) =
          (ap (λ (v : BlockQueueState). v.asked) is, ap (λ (v : BlockQueueState). v.reach) is)
      go (Some k) (one, two, before, (publishes, is), after) =
          (ap (λ (v : BlockQueueState). v.asked) is, ap (λ (v : BlockQueueState). v.reach) is)

  -- ---- a start

  -- nothing is popped, and what is kept of a table stays
  abbrev pub IsResumed : BlockQueueState → Option RingEvent → BlockQueueState → Type 0
  IsResumed q e q' = IsQuiet e × (q'.asked ≡ q.asked) × (q'.reach ≡ q.reach)

  resumed_by : (q q' : BlockQueueState) (x e : Option RingEvent) → IsQuiet x → e ≡ x → q'.asked ≡ q.asked
      → q'.reach ≡ q.reach → IsResumed q e q'
  resumed_by q q' x e is same asked reach = (subst IsQuiet (sym same) is, asked, reach)

  started_is : (q : BlockQueueState) (p : FlightPlace) (r : Result SplitStart StartError) (old : H)
      (e : Option RingEvent) (q' : BlockQueueState) (new : H) → AfterStart step q p r old e q' new → IsResumed q e q'
  started_is q p (Ok s) old e q' new (mid, all, marked, is, becomes) = resumed_by q q' (Some Kick) e tt is
      (ap (λ (v : BlockQueueState). v.asked) becomes) (ap (λ (v : BlockQueueState). v.reach) becomes)
  started_is q p (Err error) old e q' new (is, becomes, still) = resumed_by q q' (start_refused error) e
      (refused_start error) is (ap (λ (v : BlockQueueState). v.asked) becomes)
      (ap (λ (v : BlockQueueState). v.reach) becomes)

  packed_is : (q : BlockQueueState) (p : FlightPlace) (r : Result PackedStart PackedStartError) (old : H)
      (e : Option RingEvent) (q' : BlockQueueState) (new : H) → AfterPackedStart step q p r old e q' new
      → IsResumed q e q'
  packed_is q p (Ok s) old e q' new (Ok k, made, (mid, all, marked, is, becomes)) =
      resumed_by q q' (Some Kick) e tt is (ap (λ (v : BlockQueueState). v.asked) becomes)
      (ap (λ (v : BlockQueueState). v.reach) becomes)
  packed_is q p (Ok s) old e q' new (Err error, made, (is, becomes, still)) = resumed_by q q' None e tt is
      (ap (λ (v : BlockQueueState). v.asked) becomes) (ap (λ (v : BlockQueueState). v.reach) becomes)
  packed_is q p (Err error) old e q' new (is, becomes, still) = resumed_by q q' (packed_refused error) e
      (refused_packed error) is (ap (λ (v : BlockQueueState). v.asked) becomes)
      (ap (λ (v : BlockQueueState). v.reach) becomes)

  old_is : (size : ℕ) (base : PackedPosition) (q : BlockQueueState) (p : FlightPlace) (bytes : List ℕ)
      (r : Result ℕ QueueError) (old : H) (e : Option RingEvent) (q' : BlockQueueState) (new : H)
      → AfterOld step size base q p bytes r old e q' new → IsResumed q e q'
  old_is size base q p bytes (Ok flags) old e q' new (r, starts, after) = packed_is q p r old e q' new after
  old_is size base q p bytes (Err error) old e q' new (is, becomes, still) =
      resumed_by q q' (event_of (refused error)) e (refused_quiet step error) is
      (ap (λ (v : BlockQueueState). v.asked) becomes) (ap (λ (v : BlockQueueState). v.reach) becomes)

  from_is : (v : AnyQueue) (q : BlockQueueState) (p : FlightPlace) (bytes : List ℕ) (old : H) (e : Option RingEvent)
      (q' : BlockQueueState) (new : H) → GoesOnFrom step v q p bytes old e q' new → IsResumed q e q'
  from_is (Split u) q p bytes old e q' new (r, starts, after) = started_is q p r old e q' new after
  from_is (Packed u) q p bytes old e q' new (flags, mid, reads, after) =
      old_is u.state.size (base_in u.state) q p bytes flags mid e q' new after

  region_is : (q : BlockQueueState) (o : Option FlightPlace) (old : H) (e : Option RingEvent) (q' : BlockQueueState)
      (new : H) → ReadsRegion step q o old e q' new → IsResumed q e q'
  region_is q None old e q' new (is, becomes, still) = resumed_by q q' (Some Kick) e tt is
      (ap (λ (v : BlockQueueState). v.asked) becomes) (ap (λ (v : BlockQueueState). v.reach) becomes)
  region_is q (Some p) old e q' new (Ok bytes, mid, first, after) = from_is q.queue q p bytes mid e q' new after
  region_is q (Some p) old e q' new (Err error, mid, first, (is, becomes, still)) = resumed_by q q' None e tt is
      (ap (λ (v : BlockQueueState). v.asked) becomes) (ap (λ (v : BlockQueueState). v.reach) becomes)

  pub resumes_is : (q : BlockQueueState) (old : H) (e : Option RingEvent) (q' : BlockQueueState) (new : H)
      → Resumes step q old e q' new → IsResumed q e q'
  resumes_is q old e q' new (r, mid_q, mid, reads, after) =
      let asked : mid_q.asked ≡ q.asked = read_asked step terms_none q q.is_unread q.queue old r mid_q mid reads in
      let reach : mid_q.reach ≡ q.reach = read_waits step q q.is_unread q.queue old r mid_q mid reads in
      let (quiet, more, last) = go r after in (quiet, more ∙ asked, last ∙ reach)
    where
      terms_none : DeviceLimits
      terms_none = record { sectors = 0; read_only = false; acked = 0; seg_max = None; size_max = None }

      go : (r : Result (Unit {0}) QueueError) → AfterUsed step mid_q r mid e q' new → IsResumed mid_q e q'
      go (Ok done) p = region_is mid_q mid_q.flight.place mid e q' new p
      go (Err error) (is, becomes, still) = resumed_by mid_q q' (event_of (refused error)) e
          (refused_quiet step error) is (ap (λ (v : BlockQueueState). v.asked) becomes)
          (ap (λ (v : BlockQueueState). v.reach) becomes)

  module _ (terms : DeviceLimits) where
    -- ---- chains whose descriptors are known

    known_begins : (q : BlockQueueState) (f : Found) (old : H) (found : Pop) (q' : BlockQueueState) (new : H)
        → Begins step terms (at_next (at_next q.queue f.after) (next_avail_of q.queue)) (gone_to q f.after) f.buffer
        f.chain old found q' new → Stage step q (event_of found) q' new × (q'.reach ≡ q.reach)
    known_begins q f old found q' new = go (has_place q f.buffer.id) refl
      where
        back : AnyQueue
        back = at_next (at_next q.queue f.after) (next_avail_of q.queue)

        read : has_place q f.buffer.id ≡ true → (r : Result Request GuestMemoryError)
            → (found, q') ≡ begun back (gone_to q f.after) f.buffer f.chain r
            → Stage step q (event_of found) q' new × (q'.reach ≡ q.reach)
        read place (Ok request) is = let short = shortened (length q.asked) (length f.chain) request in (
          inr (inr (inl (
            f.buffer,
            short,
            record { chain = f.chain; request = short; kept = []; gap = false },
            place,
            ap (λ (t : Pop × BlockQueueState). t.1.asked) is,
            ap (λ (t : Pop × BlockQueueState). event_of t.0) is,
          ))),
          ap (λ (t : Pop × BlockQueueState). t.1.reach) is,
        )
        read place (Err error) is = (
          quiet step q q' None (event_of found) new tt (ap (λ (t : Pop × BlockQueueState). event_of t.0) is)
              (ap (λ (t : Pop × BlockQueueState). t.1.asked) is),
          ap (λ (t : Pop × BlockQueueState). t.1.reach) is,
        )

        go : (v : Bool) → has_place q f.buffer.id ≡ v → MatchBool v
            ((r : Result Request GuestMemoryError) × step old (begins terms f.chain) r new
            × ((found, q') ≡ begun back (gone_to q f.after) f.buffer f.chain r))
            ((found ≡ popped f.buffer (Refused 1)) × (q' ≡ gone_to q f.after) × (new ≡ old))
            → Stage step q (event_of found) q' new × (q'.reach ≡ q.reach)
        go true place (r, first, is) = read place r is
        go false place (is, becomes, still) = (
          inr (inr (inr (f.buffer, place, ap (λ (v : BlockQueueState). v.asked) becomes, ap event_of is))),
          ap (λ (v : BlockQueueState). v.reach) becomes,
        )

    -- none is found after a look that found none
    ends_stage : (q : BlockQueueState) (old : H) (e : Option RingEvent) (q' : BlockQueueState) (new : H)
        → FoundNone step q old → e ≡ Some Emptied → q' ≡ q → new ≡ old → Stage step q e q' new
    ends_stage q old e q' new none is becomes still = inr (inl (
      is,
      ap (λ (v : BlockQueueState). v.asked) becomes,
      ap (λ (v : BlockQueueState). v.queue) becomes,
      inl (subst (λ (v : BlockQueueState). FoundNone step v new) (sym becomes)
          (subst (FoundNone step q) (sym still) none)),
    ))

    known_stage : (way : Option Sight) (q : BlockQueueState) (r : Result (Option Found) QueueError) (old : H)
        (e : Option RingEvent) (q' : BlockQueueState) (new : H) → (r ≡ Ok None → FoundNone step q old)
        → AfterKnown step terms way q r old e q' new → Stage step q e q' new
    known_stage None q (Ok (Some f)) old e q' new none (found, began, is) =
        subst (λ (x : Option RingEvent). Stage step q x q' new) (sym is) (known_begins q f old found q' new began).0
    known_stage None q (Ok None) old e q' new none (is, becomes, still) =
        ends_stage q old e q' new (none refl) is becomes still
    known_stage None q (Err error) old e q' new none (is, becomes, still) =
        quiet step q q' (event_of (refused error)) e new (refused_quiet step error) is
        (ap (λ (v : BlockQueueState). v.asked) becomes)
    known_stage (Some way) q (Ok (Some f)) old e q' new none p =
        chain_stage step (says way.table) way.can_ask terms q f old e q' new p
    known_stage (Some way) q (Ok None) old e q' new none (is, becomes, still) =
        ends_stage q old e q' new (none refl) is becomes still
    known_stage (Some way) q (Err error) old e q' new none (p, still) =
        row_stage step (says way.table) way.can_ask terms q error e q' new p

    -- a ring waits after that only if it did
    abbrev pub IsNoWait : BlockQueueState → BlockQueueState → Type 0
    IsNoWait q q' = (q'.reach ≡ q.reach) ⊎ (waited_for q'.reach.fetch ≡ None)

    known_waits : (way : Option Sight) (q : BlockQueueState) (r : Result (Option Found) QueueError) (old : H)
        (e : Option RingEvent) (q' : BlockQueueState) (new : H) → is_open way q ≡ true
        → AfterKnown step terms way q r old e q' new → IsNoWait q q'
    known_waits None q (Ok (Some f)) old e q' new opened (found, began, is) =
        inl (known_begins q f old found q' new began).1
    known_waits None q (Ok None) old e q' new opened (is, becomes, still) =
        inl (ap (λ (v : BlockQueueState). v.reach) becomes)
    known_waits None q (Err error) old e q' new opened (is, becomes, still) =
        inl (ap (λ (v : BlockQueueState). v.reach) becomes)
    known_waits (Some way) q (Ok (Some f)) old e q' new opened p =
        inr (chain_begins step terms q f old e q' new (open_fetches way q opened) p)
    known_waits (Some way) q (Ok None) old e q' new opened (is, becomes, still) =
        inl (ap (λ (v : BlockQueueState). v.reach) becomes)
    known_waits (Some way) q (Err error) old e q' new opened (p, still) =
        inr (row_begins step terms q error e q' (open_fetches way q opened) p)

    not_none : (buffer : PackedBuffer) (after : ℕ) (r : Result (List Segment) QueueError)
        → found_as buffer after r ≡ Ok None → ⊥
    not_none buffer after (Ok chain) is = absurd (cc)
    not_none buffer after (Err e) is = absurd (cc)

    again_stage : (way : Option Sight) (q : BlockQueueState) (buffer : PackedBuffer) (after : ℕ)
        (ds : List PackedDescriptor) (old : H) (e : Option RingEvent) (q' : BlockQueueState) (new : H)
        → PopsAgain step terms way q buffer after ds old e q' new → Stage step q e q' new
    again_stage way q buffer after ds old e q' new (r, mid, first, rest) =
        known_stage way q (found_as buffer after r) mid e q' new (λ is. absurd (not_none buffer after r is)) rest

    pub again_waits : (way : Option Sight) (q : BlockQueueState) (buffer : PackedBuffer) (after : ℕ)
        (ds : List PackedDescriptor) (old : H) (e : Option RingEvent) (q' : BlockQueueState) (new : H)
        → is_open way q ≡ true → PopsAgain step terms way q buffer after ds old e q' new → IsNoWait q q'
    again_waits way q buffer after ds old e q' new opened (r, mid, first, rest) =
        known_waits way q (found_as buffer after r) mid e q' new opened rest

    -- ---- chains of a packed ring that keeps what is in flight

    -- what it has of the region makes no difference
    stage_else : (q m : BlockQueueState) (e : Option RingEvent) (q' : BlockQueueState) (new : H) → IsElse q m
        → Stage step m e q' new → Stage step q e q' new
    stage_else q m e q' new is p = subst (λ (v : BlockQueueState). Stage step v e q' new) is p

    waits_else : (q m q' : BlockQueueState) → IsElse q m → IsNoWait m q' → IsNoWait q q'
    waits_else q m q' is p = subst (λ (v : BlockQueueState). (q'.reach ≡ v.reach) ⊎ (waited_for q'.reach.fetch ≡ None)) is p

    open_else : (way : Option Sight) (q m : BlockQueueState) → IsElse q m → is_open way q ≡ true
        → is_open way m ≡ true
    open_else None q m is opened = refl
    open_else (Some way) q m is opened = ap (is_open (Some way)) is ∙ opened

    copies_stage_by : (way : Option Sight) (r : Result (Option (List PackedDescriptor)) QueueError)
        (q : BlockQueueState) (old : H) (e : Option RingEvent) (q' : BlockQueueState) (new : H)
        → (r ≡ Ok None → FoundNone step q old) → AfterCopies step terms way r q old e q' new → Stage step q e q' new
    copies_stage_by way (Ok (Some ds)) q old e q' new none p =
        again_stage way q (buffer_of ds) (next_avail_of (past q.queue (buffer_of ds))) ds old e q' new p
    copies_stage_by way (Ok None) q old e q' new none p =
        known_stage way q (Ok None) old e q' new (λ is. none refl) p
    copies_stage_by way (Err error) q old e q' new none p =
        known_stage way q (Err error) old e q' new (λ is. absurd (cc)) p

    copies_waits_by : (way : Option Sight) (r : Result (Option (List PackedDescriptor)) QueueError)
        (q : BlockQueueState) (old : H) (e : Option RingEvent) (q' : BlockQueueState) (new : H)
        → is_open way q ≡ true → AfterCopies step terms way r q old e q' new → IsNoWait q q'
    copies_waits_by way (Ok (Some ds)) q old e q' new opened p =
        again_waits way q (buffer_of ds) (next_avail_of (past q.queue (buffer_of ds))) ds old e q' new opened p
    copies_waits_by way (Ok None) q old e q' new opened p = known_waits way q (Ok None) old e q' new opened p
    copies_waits_by way (Err error) q old e q' new opened p = known_waits way q (Err error) old e q' new opened p

    -- which descriptors were found before makes no difference to a wait
    pub waits_anyhow : (way : Option Sight) (u : PackedVirtqueue) (k : PackedFlightState) (ds : List PackedDescriptor)
        (q : BlockQueueState) (old : H) (e : Option RingEvent) (q' : BlockQueueState) (new : H)
        → WaitsCopies step terms way u (record k { found = ds }) q old e q' new
        → WaitsCopies step terms way u k q old e q' new
    waits_anyhow way u k ds q old e q' new (Ok true, mid, asks, after) = (Ok true, mid, asks, after)
    waits_anyhow way u k ds q old e q' new (Ok false, mid, asks, after) = (Ok false, mid, asks, after)
    waits_anyhow way u k ds q old e q' new (Err error, mid, asks, after) = (Err error, mid, asks, after)

    module _ (way : Option Sight) (u : PackedVirtqueue) (k : PackedFlightState) where
      ask_stage : (r : Result Bool QueueError) (q : BlockQueueState) (old asked : H) (e : Option RingEvent)
          (q' : BlockQueueState) (new : H) → q.queue ≡ Packed u → Asks step q old r asked
          → AfterAskCopies step terms way u k r q asked e q' new → Stage step q e q' new
      ask_stage (Ok true) q old asked e q' new is asks (r, m, mid, (finds, else), after) =
          stage_else q m e q' new else (copies_stage_by way r m mid e q' new (λ nil.
          subst (λ (v : BlockQueueState). FoundNone step v mid) (sym else) (
            old,
            Ok true,
            asked,
            asks,
            inr (
              refl,
              inr (subst (λ (v : AnyQueue). CopiesNone step v asked mid) (sym is)
                  (subst (λ (x : Result (Option (List PackedDescriptor)) QueueError). step asked (finds_copies u) x mid)
                  nil finds.0)),
            ),
          )) after)
      ask_stage (Ok false) q old asked e q' new is asks (emptied, becomes, still) =
          ends_stage q asked e q' new (old, Ok false, asked, asks, inl (refl, refl)) emptied becomes still
      ask_stage (Err error) q old asked e q' new is asks (broken, becomes, still) =
          quiet step q q' (event_of (refused error)) e new (refused_quiet step error) broken
          (ap (λ (v : BlockQueueState). v.asked) becomes)

      ask_waits : (r : Result Bool QueueError) (q : BlockQueueState) (asked : H) (e : Option RingEvent)
          (q' : BlockQueueState) (new : H) → is_open way q ≡ true
          → AfterAskCopies step terms way u k r q asked e q' new → IsNoWait q q'
      ask_waits (Ok true) q asked e q' new opened (r, m, mid, (finds, else), after) =
          waits_else q m q' else (copies_waits_by way r m mid e q' new (open_else way q m else opened) after)
      ask_waits (Ok false) q asked e q' new opened (emptied, becomes, still) =
          inl (ap (λ (v : BlockQueueState). v.reach) becomes)
      ask_waits (Err error) q asked e q' new opened (broken, becomes, still) =
          inl (ap (λ (v : BlockQueueState). v.reach) becomes)

      first_copies_stage : (r : Result (Option (List PackedDescriptor)) QueueError) (q : BlockQueueState) (old : H)
          (e : Option RingEvent) (q' : BlockQueueState) (new : H) → q.queue ≡ Packed u
          → AfterFirst step terms way u k r q old e q' new → Stage step q e q' new
      first_copies_stage (Ok None) q old e q' new is (r, asked, asks, after) =
          ask_stage r q old asked e q' new is asks after
      first_copies_stage (Ok (Some ds)) q old e q' new is p =
          copies_stage_by way (Ok (Some ds)) q old e q' new (λ nil. absurd (cc)) p
      first_copies_stage (Err error) q old e q' new is p =
          copies_stage_by way (Err error) q old e q' new (λ nil. absurd (cc)) p

      first_copies_waits : (r : Result (Option (List PackedDescriptor)) QueueError) (q : BlockQueueState) (old : H)
          (e : Option RingEvent) (q' : BlockQueueState) (new : H) → is_open way q ≡ true
          → AfterFirst step terms way u k r q old e q' new → IsNoWait q q'
      first_copies_waits (Ok None) q old e q' new opened (r, asked, asks, after) =
          ask_waits r q asked e q' new opened after
      first_copies_waits (Ok (Some ds)) q old e q' new opened p =
          copies_waits_by way (Ok (Some ds)) q old e q' new opened p
      first_copies_waits (Err error) q old e q' new opened p =
          copies_waits_by way (Err error) q old e q' new opened p

      copies_stage : (q : BlockQueueState) (old : H) (e : Option RingEvent) (q' : BlockQueueState) (new : H)
          → q.queue ≡ Packed u → PopsCopies step terms way u k q old e q' new → Stage step q e q' new
      copies_stage q old e q' new is (r, m, mid, (finds, else), after) = stage_else q m e q' new else
          (first_copies_stage r m mid e q' new (ap (λ (v : BlockQueueState). v.queue) else ∙ is) after)

      pub copies_waits : (q : BlockQueueState) (old : H) (e : Option RingEvent) (q' : BlockQueueState) (new : H)
          → is_open way q ≡ true → PopsCopies step terms way u k q old e q' new → IsNoWait q q'
      copies_waits q old e q' new opened (r, m, mid, (finds, else), after) = waits_else q m q' else
          (first_copies_waits r m mid e q' new (open_else way q m else opened) after)

    -- ---- what is in flight from then on

    flies_at : (o : Option (PackedBuffer × List PackedDescriptor)) (chain : Chain) (q : BlockQueueState) (old : H)
        (q' : BlockQueueState) (new : H) → FliesAt step o chain q old q' new → IsElse q q'
    flies_at (Some t) chain q old q' new (is, still) = as_else q q' _ is
    flies_at None chain q old q' new p = go q.flight.kept p
      where
        go : (o : Option SplitInFlight) → MatchOption o (FliesPacked step chain.id q old q' new)
            (λ k. TracksAt step q.flight.place (pop_stores k chain.id) old new × (q' ≡ with_kept q (after_pop k)))
            → IsElse q q'
        go None (flies, is) = is
        go (Some k) (all, is) = as_else q q' _ is

    pub flies_else : (e : Option RingEvent) (q : BlockQueueState) (old : H) (q' : BlockQueueState) (new : H)
        → FliesBy step e q old q' new → IsElse q q'
    flies_else (Some (Popped chain parts bytes)) q old q' new p =
        flies_at (next_again q.flight) chain q old q' new p
    flies_else None q old q' new p = as_else q q' q.flight p.0
    flies_else (Some Start) q old q' new p = as_else q q' q.flight p.0
    flies_else (Some Stop) q old q' new p = as_else q q' q.flight p.0
    flies_else (Some (Enable on)) q old q' new p = as_else q q' q.flight p.0
    flies_else (Some Break) q old q' new p = as_else q q' q.flight p.0
    flies_else (Some Kick) q old q' new p = as_else q q' q.flight p.0
    flies_else (Some Emptied) q old q' new p = as_else q q' q.flight p.0
    flies_else (Some (Ended id end)) q old q' new p = as_else q q' q.flight p.0

    -- ---- turns

    -- what happens first is what happens without a region, or a stage
    abbrev pub Goes : Option Sight → BlockQueueState → H → Option RingEvent → BlockQueueState → H → Type 0
    Goes way q old e q' new = HappensBy step way terms q old e q' new ⊎ Stage step q e q' new

    new_goes : (way : Option Sight) (v : AnyQueue) (o : Option PackedFlightState) (q : BlockQueueState) (old : H)
        (e : Option RingEvent) (q' : BlockQueueState) (new : H) → q.queue ≡ v
        → HappensNew step terms way v o q old e q' new → Goes way q old e q' new
    new_goes way (Packed u) (Some k) q old e q' new is p = go (is_open way q) p
      where
        go : (v : Bool) → MatchBool v (PopsCopies step terms way u k q old e q' new)
            (HappensBy step way terms q old e q' new) → Goes way q old e q' new
        go true p = inr (copies_stage way u k q old e q' new is p)
        go false p = inl p
    new_goes way (Packed u) None q old e q' new is p = inl p
    new_goes way (Split u) o q old e q' new is p = inl p

    first_goes : (way : Option Sight) (q : BlockQueueState) (o : Option (PackedBuffer × List PackedDescriptor)) (old : H)
        (e : Option RingEvent) (q' : BlockQueueState) (new : H) → HappensFirst step terms way q o old e q' new
        → Goes way q old e q' new
    first_goes way q None old e q' new p = new_goes way q.queue q.flight.packed q old e q' new refl p
    first_goes way q (Some t) old e q' new p = go (is_open way q) p
      where
        go : (v : Bool) → MatchBool v (PopsAgain step terms way q t.0 (next_avail_of q.queue) t.1 old e q' new)
            (HappensBy step way terms q old e q' new) → Goes way q old e q' new
        go true p = inr (again_stage way q t.0 (next_avail_of q.queue) t.1 old e q' new p)
        go false p = inl p

    pub in_goes : (way : Option Sight) (q : BlockQueueState) (old : H) (e : Option RingEvent) (q' : BlockQueueState)
        (new : H) → HappensIn step terms way q old e q' new → (mid_q : BlockQueueState) × (mid : H)
        × Goes way q old e mid_q mid × IsElse mid_q q' × (e ≡ Some Emptied → (q' ≡ mid_q) × (new ≡ mid))
    in_goes way q old e q' new p = go (is_due way q) p
      where
        ends : (e : Option RingEvent) (mid_q : BlockQueueState) (mid : H) → FliesBy step e mid_q mid q' new
            → e ≡ Some Emptied → (q' ≡ mid_q) × (new ≡ mid)
        ends e mid_q mid p is = subst (λ (x : Option RingEvent). FliesBy step x mid_q mid q' new) is p

        go : (v : Bool) → MatchBool v (Resumes step q old e q' new) (Flies step terms way q old e q' new)
            → (mid_q : BlockQueueState) × (mid : H) × Goes way q old e mid_q mid × IsElse mid_q q'
            × (e ≡ Some Emptied → (q' ≡ mid_q) × (new ≡ mid))
        go true p = let (still, asked, reach) = resumes_is q old e q' new p in
            (q', new, inr (inl (still, asked)), refl, λ is. (refl, refl))
        go false (mid_q, mid, first, flies) = (
          mid_q,
          mid,
          first_goes way q (next_again q.flight) old e mid_q mid first,
          flies_else e mid_q mid q' new flies,
          ends e mid_q mid flies,
        )

    -- ---- turns that end

    goes_ends : (way : Option Sight) (q : BlockQueueState) (old : H) (q' : BlockQueueState) (new : H)
        → Goes way q old (Some Emptied) q' new → FoundNone step q' new ⊎ IsWaiting q'
    goes_ends None q old q' new (inl p) = inl (found_none step terms q old q' new p)
    goes_ends (Some way) q old q' new (inl p) = (behind_ends step q q' new
        (behind_stage step (says way.table) way.can_ask terms q old (Some Emptied) q' new p)).1
    goes_ends way q old q' new (inr p) = (behind_ends step q q' new p).1

    pub in_ends : (way : Option Sight) (q : BlockQueueState) (old : H) (q' : BlockQueueState) (new : H)
        → HappensIn step terms way q old (Some Emptied) q' new → FoundNone step q' new ⊎ IsWaiting q'
    in_ends way q old q' new p =
        let (mid_q, mid, goes, is, ends) = in_goes way q old (Some Emptied) q' new p in
        let (same, still) = ends refl in
        subst (λ (v : BlockQueueState). FoundNone step v new ⊎ IsWaiting v) (sym same)
        (subst (λ h. FoundNone step mid_q h ⊎ IsWaiting mid_q) (sym still) (goes_ends way q old mid_q mid goes))

    goes_stays : (way : Option Sight) (q : BlockQueueState) (old : H) (q' : BlockQueueState) (new : H)
        → Goes way q old (Some Emptied) q' new → q.is_unread ≡ false → q'.queue ≡ q.queue
    goes_stays None q old q' new (inl p) read =
        ap (λ (v : BlockQueueState). v.queue) (emptied_stays step terms q old q' new p read)
    goes_stays (Some way) q old q' new (inl p) read = (behind_ends step q q' new
        (behind_stage step (says way.table) way.can_ask terms q old (Some Emptied) q' new p)).0
    goes_stays way q old q' new (inr p) read = (behind_ends step q q' new p).0

    pub in_stays : (way : Option Sight) (q : BlockQueueState) (old : H) (q' : BlockQueueState) (new : H)
        → HappensIn step terms way q old (Some Emptied) q' new → q.is_unread ≡ false → q'.queue ≡ q.queue
    in_stays way q old q' new p read =
        let (mid_q, mid, goes, is, ends) = in_goes way q old (Some Emptied) q' new p in
        ap (λ (v : BlockQueueState). v.queue) is ∙ goes_stays way q old mid_q mid goes read
