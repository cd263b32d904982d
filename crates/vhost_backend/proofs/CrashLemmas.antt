-- What a ring stores of its requests in flight is what the theorem on crashes has.
use Rattle.std.proofs.Common.{◌≡◌, ◌⊎◌, ◌∙◌, ℕ, ◌+◌, ◌%◌, ◌^◌, ◌≤◌, Bool, true, false, not, ◌&&◌, List, [], ◌∷◌, ◌++◌, length, Option, Some, None, Result, Ok, Err, MatchBool, MatchOption, refl, ap, sym, subst, inl, inr}
use Rattle.std.proofs.lemmas.Bool.{le-ltb}
use Rattle.std.specs.Prelude.{nat_lt, map, if◌then◌else◌}
use Rattle.virtio_blk.specs.declared.request.DeviceLimits.{DeviceLimits}
use Rattle.virtio_queue.specs.Any.{after_used, at_next, next_avail_of, of_head}
use Rattle.virtio_queue.specs.declared.any.AnyQueue.{AnyQueue}
use Rattle.virtio_queue.specs.declared.any.AnyQueue.TheVariants.{Split, Packed}
use Rattle.virtio_queue.specs.declared.error.QueueError.{QueueError}
use Rattle.virtio_queue.specs.declared.packed.state.PackedBuffer.{PackedBuffer}
use Rattle.vhost_inflight.specs.Split.{SplitRegion, after_pop, after_return, begin_return_stores, end_return_stores, entry_offset, pop_stores}
use Rattle.vhost_inflight.specs.SplitBytes.{region_of}
use Rattle.vhost_inflight.specs.SplitCrash.{Entry, GoesOn, Pop, Region, Return, Start, UsedIndex, World, effect, in_view, next_used, return_deeds}
use Rattle.vhost_inflight.specs.SplitStart.{Flies, Starts, fault, start_fault, start_stores, started}
use Rattle.vhost_inflight.specs.declared.split.SplitInFlight.{SplitInFlight}
use Rattle.vhost_inflight.specs.declared.split.SplitStore.{SplitStore}
use Rattle.vhost_inflight.specs.declared.split_start.SplitStart.{SplitStart}
use Rattle.vhost_inflight.specs.declared.split_start.StartError.{StartError}
use Rattle.vhost_inflight.specs.declared.split_start.StartError.TheVariants as start
use Rattle.vhost_backend.proofs.InFlightLemmas.{first_same}
use Rattle.vhost_backend.proofs.QueueAtLemmas.{none_some}
use Rattle.vhost_backend.specs.BlockQueue.{BlockQueueState, FlightState, GivesBack, Publishes, buffer_by, gave}
use Rattle.vhost_backend.specs.Crash.{GoesOnAs, PopsBy, ReturnsBy, StartsAs, stores_to}
use Rattle.vhost_backend.specs.Flight.{AfterRegion, AfterStart, Flies as FliesIn, FliesAt, FliesPacked, GivesIn, GivesPacked, GoesOnFrom, HappensIn, Lands, Resumes, StartsBy, Tracks, TracksAt, is_due, is_open, next_again, next_used_of, passed_too, size_of, start_refused, with_kept}
use Rattle.vhost_backend.specs.RingMemory.{MemoryStep, Returned}
use Rattle.vhost_backend.specs.SetUp.{is_split}
use Rattle.vhost_backend.specs.Sight.{Sight}
use Rattle.vhost_backend.specs.declared.block_queue.GiveBack.TheVariants as back
use Rattle.vhost_backend.specs.declared.flight.FlightPlace.{FlightPlace}
use Rattle.vhost_backend.specs.declared.request.Chain.{Chain}
use Rattle.vhost_backend.specs.declared.ring.RingEvent.{RingEvent}
use Rattle.vhost_backend.specs.declared.ring.RingEvent.TheVariants.{Popped}

-- ---- effects

can_pop : (head size : ℕ) (out : Bool) → nat_lt head size ≡ true → out ≡ false → (nat_lt head size && not out) ≡ true
can_pop head size out low is = ap (λ (v : Bool). v && not out) low ∙ ap not is

pop_effect : (descriptors size : ℕ) (w : World) (k : SplitInFlight) (head : ℕ) → nat_lt head size ≡ true
    → in_view head w.view ≡ false → effect descriptors size w (Some k) (Pop head)
    ≡ Some (record { deeds = map Region (pop_stores k head); kept = after_pop k })
pop_effect descriptors size w k head low out = ap (λ (v : Bool).
    if v then Some (record { deeds = map Region (pop_stores k head); kept = after_pop k }) else None)
    (can_pop head size (in_view head w.view) low out)

return_effect : (descriptors size : ℕ) (w : World) (k : SplitInFlight) (head : ℕ) → in_view head w.view ≡ true
    → effect descriptors size w (Some k) (Return head)
    ≡ Some (record { deeds = return_deeds k head w.used; kept = after_return k head })
return_effect descriptors size w k head is = ap (λ (v : Bool).
    if v then Some (record { deeds = return_deeds k head w.used; kept = after_return k head }) else None) is

-- ---- where a split queue returns its next chain

goes_after : (q : AnyQueue) (buffer : PackedBuffer) (r : Result (Unit {0}) QueueError) → is_split q ≡ true
    → back.Done ≡ gave r → next_used_of (after_used q buffer r) ≡ next_used (next_used_of q)
goes_after (Split u) buffer (Ok done) split given = refl
goes_after (Split u) buffer (Err e) split given = absurd (cc)
goes_after (Packed u) buffer r split given = absurd (cc)

goes_to : (q : AnyQueue) (next : ℕ) → is_split q ≡ true → next_avail_of (at_next q next) ≡ next
goes_to (Split u) next split = refl
goes_to (Packed u) next split = absurd (cc)

-- ---- starts

no_fault : (descriptors size : ℕ) (bytes : List ℕ) (used : ℕ) → entry_offset descriptors ≤ length bytes
    → size ≤ descriptors → fault descriptors size (region_of descriptors bytes) used ≡ None
    → start_fault descriptors size bytes used ≡ None
no_fault descriptors size bytes used long fits is =
    ap (λ (v : Bool). if v then Some start.TooShort else (if nat_lt descriptors size then Some start.RingSize
    else fault descriptors size (region_of descriptors bytes) used)) (le-ltb (length bytes) (entry_offset descriptors) long)
    ∙ (ap (λ (v : Bool). if v then Some start.RingSize else fault descriptors size (region_of descriptors bytes) used)
    (le-ltb descriptors size fits) ∙ is)

module _ {H : Type 0} (step : H → (s : MemoryStep) → Returned s → H → Type 0) where
  -- ---- pops

  not_due : (way : Option Sight) (q : BlockQueueState) → q.flight.is_unread ≡ false → is_due way q ≡ false
  not_due way q read = ap (λ (v : Bool). v && is_open way q) read

  pub flies_in : (terms : DeviceLimits) (way : Option Sight) (q : BlockQueueState) (old : H) (a : Option RingEvent)
      (q' : BlockQueueState) (new : H) → q.flight.is_unread ≡ false → HappensIn step terms way q old a q' new
      → FliesIn step terms way q old a q' new
  flies_in terms way q old a q' new read p = subst (λ (v : Bool).
      MatchBool v (Resumes step q old a q' new) (FliesIn step terms way q old a q' new)) (not_due way q read) p

  flies_anew : (p : FlightPlace) (k : SplitInFlight) (chain : Chain) (q : BlockQueueState) (old : H)
      (q' : BlockQueueState) (new : H) → q.flight ≡ stores_to p k []
      → FliesAt step (next_again q.flight) chain q old q' new
      → Tracks step p (pop_stores k chain.id) old new × (q'.flight ≡ stores_to p (after_pop k) [])
  flies_anew p k chain q old q' new is flies =
      let anew : FliesAt step None chain q old q' new =
      subst (λ (f : FlightState). FliesAt step (next_again f) chain q old q' new) is flies in
      let both : Tracks step p (pop_stores k chain.id) old new × (q' ≡ with_kept q (after_pop k)) =
      subst (λ (f : FlightState). MatchOption f.kept (FliesPacked step chain.id q old q' new)
      (λ k. TracksAt step f.place (pop_stores k chain.id) old new × (q' ≡ with_kept q (after_pop k)))) is anew in (
        both.0,
        ap (λ (v : BlockQueueState). v.flight) both.1
            ∙ ap (λ (f : FlightState). record f { kept = Some (after_pop k) }) is,
      )

  pub pops_as : (terms : DeviceLimits) (way : Option Sight) (q q' : BlockQueueState) (old new : H) (chain : Chain)
      (parts bytes : ℕ) (p : FlightPlace) (k : SplitInFlight) (descriptors size : ℕ) (w : World)
      → q.flight ≡ stores_to p k [] → nat_lt chain.id size ≡ true → in_view chain.id w.view ≡ false
      → HappensIn step terms way q old (Some (Popped chain parts bytes)) q' new
      → PopsBy step p (effect descriptors size w (Some k) (Pop chain.id)) q' new
  pops_as terms way q q' old new chain parts bytes p k descriptors size w is low out happens =
      let e : Option RingEvent = Some (Popped chain parts bytes) in
      let (mid_q, mid, first, flies) =
      flies_in terms way q old e q' new (ap (λ (f : FlightState). f.is_unread) is) happens in
      let same : mid_q.flight ≡ stores_to p k [] =
      first_same step terms way q (next_again q.flight) old e mid_q mid (ap (λ (f : FlightState). f.packed) is) first ∙ is in
      let (tracks, flight) = flies_anew p k chain mid_q mid q' new same flies in (
        record { deeds = map Region (pop_stores k chain.id); kept = after_pop k },
        pop_stores k chain.id,
        mid,
        pop_effect descriptors size w k chain.id low out,
        refl,
        tracks,
        flight,
      )

  -- ---- chains that were in flight

  flies_again : (p : FlightPlace) (k : SplitInFlight) (head : ℕ) (rest : List ℕ) (chain : Chain) (q : BlockQueueState)
      (old : H) (q' : BlockQueueState) (new : H) → q.flight ≡ stores_to p k (head ∷ rest)
      → FliesAt step (next_again q.flight) chain q old q' new → q'.flight ≡ stores_to p k rest
  flies_again p k head rest chain q old q' new is flies =
      let again : FliesAt step (Some (of_head head, [])) chain q old q' new =
      subst (λ (f : FlightState). FliesAt step (next_again f) chain q old q' new) is flies in
      ap (λ (v : BlockQueueState). v.flight) again.0 ∙ ap (λ (f : FlightState). passed_too f chain.id) is

  pub pops_again_as : (terms : DeviceLimits) (way : Option Sight) (q q' : BlockQueueState) (old new : H)
      (chain : Chain) (parts bytes : ℕ) (p : FlightPlace) (k : SplitInFlight) (head : ℕ) (rest : List ℕ)
      → q.flight ≡ stores_to p k (head ∷ rest)
      → HappensIn step terms way q old (Some (Popped chain parts bytes)) q' new → q'.flight ≡ stores_to p k rest
  pops_again_as terms way q q' old new chain parts bytes p k head rest is happens =
      let e : Option RingEvent = Some (Popped chain parts bytes) in
      let (mid_q, mid, first, flies) =
      flies_in terms way q old e q' new (ap (λ (f : FlightState). f.is_unread) is) happens in
      let same : mid_q.flight ≡ stores_to p k (head ∷ rest) =
      first_same step terms way q (next_again q.flight) old e mid_q mid (ap (λ (f : FlightState). f.packed) is) first ∙ is in
      flies_again p k head rest chain mid_q mid q' new same flies

  -- ---- returns

  pub returns_as : (q q' : BlockQueueState) (old new : H) (chain : Chain) (len : ℕ) (p : FlightPlace)
      (k : SplitInFlight) (again : List ℕ) (descriptors size : ℕ) (w : World) → q.flight ≡ stores_to p k again
      → is_split q.queue ≡ true → w.used ≡ next_used_of q.queue → in_view chain.id w.view ≡ true
      → GivesIn step q chain len old back.Done q' new
      → ReturnsBy step p (effect descriptors size w (Some k) (Return chain.id)) q chain len old q' new
  returns_as q q' old new chain len p k again descriptors size w is split used out gives =
      let (one, two, first, given, last) =
      subst (λ (f : FlightState). MatchOption f.kept (GivesPacked step q chain len old back.Done q' new)
      (λ k. (one two : H) × TracksAt step f.place (begin_return_stores k chain.id) old one
      × GivesBack step (with_kept q (after_return k chain.id)) chain len one back.Done q' two
      × Lands step back.Done q' chain two new)) is gives in
      let kept : SplitInFlight = after_return k chain.id in
      let flight : q'.flight ≡ stores_to p kept q.flight.again =
      ap (λ (v : BlockQueueState). v.flight) given.1
      ∙ (ap (λ (f : FlightState). record f { kept = Some kept }) is
      ∙ ap (λ (f : FlightState). stores_to p kept f.again) (sym is)) in
      let next : next_used_of q'.queue ≡ next_used w.used = after one two given.0 ∙ ap next_used (sym used) in
      let lands : Tracks step p (end_return_stores chain.id (next_used_of q'.queue)) two new =
      subst (λ (f : FlightState). TracksAt step f.place (end_return_stores chain.id (next_used_of q'.queue)) two new)
      flight last in (
        record { deeds = return_deeds k chain.id w.used; kept = kept },
        begin_return_stores k chain.id,
        end_return_stores chain.id (next_used_of q'.queue),
        one,
        two,
        return_effect descriptors size w k chain.id out,
        ap (λ (n : ℕ). map Region (begin_return_stores k chain.id)
            ++ (Entry chain.id ∷ UsedIndex n ∷ map Region (end_return_stores chain.id n))) (sym next),
        first,
        given,
        lands,
        flight,
      )
    where
      after : (one two : H) → Publishes step q.queue q.reach.log (buffer_by chain) len one back.Done q'.queue two
          → next_used_of q'.queue ≡ next_used (next_used_of q.queue)
      after one two (r, stored, adds, marked, done, becomes) =
          ap next_used_of becomes ∙ goes_after q.queue (buffer_by chain) r split done

  -- ---- starts

  pub goes_on_as : ((r : SplitRegion) (used : ℕ) (xs ys : List ℕ) → Flies r used xs → Flies r used ys → xs ≡ ys)
      → (q q' : BlockQueueState) (old new : H) (a : Option RingEvent) (p : FlightPlace) (bytes : List ℕ) (began : ℕ)
      (w : World) → GoesOn p.descriptors (size_of q.queue) began w → size_of q.queue ≤ p.descriptors
      → entry_offset p.descriptors ≤ length bytes → region_of p.descriptors bytes ≡ w.region
      → next_used_of q.queue ≡ w.used → is_split q.queue ≡ true → q.flight.place ≡ Some p
      → AfterRegion step q p (Ok bytes) old a q' new
      → GoesOnAs step p (effect p.descriptors (size_of q.queue) w None Start) w q old a q' new
  goes_on_as once q q' old new a p bytes began w goes fits long region used split place all =
      from q.queue split all
    where
      heads_are : (s : SplitStart) → Flies (region_of p.descriptors bytes) (next_used_of q.queue) s.again.items
          → s.again.items ≡ goes.heads
      heads_are s flies = once w.region w.used s.again.items goes.heads
          (subst (λ (r : SplitRegion). Flies r w.used s.again.items) region
          (subst (λ (n : ℕ). Flies (region_of p.descriptors bytes) n s.again.items) used flies)) goes.again

      started_as : (s : SplitStart) → Starts p.descriptors (region_of p.descriptors bytes) (next_used_of q.queue) s
          → AfterStart step q p (Ok s) old a q' new
          → StartsAs step p (effect p.descriptors (size_of q.queue) w None Start) w old a q' new
      started_as s starts (mid, tracks, marked, is, becomes) =
          let flight : q'.flight ≡ record q.flight {
            is_unread = false;
            kept = Some s.in_flight;
            again = s.again.items;
            packed = None;
          } = ap (λ (v : BlockQueueState). v.flight) becomes in
          let again : q'.flight.again ≡ s.again.items = ap (λ (f : FlightState). f.again) flight in
          let kept : s.in_flight ≡ started w.region w.used = starts.kept
          ∙ (ap (λ (r : SplitRegion). started r (next_used_of q.queue)) region ∙ ap (started w.region) used) in
          let stores : s.stores.items ≡ start_stores p.descriptors w.region w.used = starts.stores
          ∙ (ap (λ (r : SplitRegion). start_stores p.descriptors r (next_used_of q.queue)) region
          ∙ ap (start_stores p.descriptors w.region) used) in (
            record { deeds = map Region (start_stores p.descriptors w.region w.used); kept = started w.region w.used },
            start_stores p.descriptors w.region w.used,
            mid,
            refl,
            refl,
            subst (λ (ss : List SplitStore). Tracks step p ss old mid) stores tracks,
            is,
            flight ∙ (ap (λ (o : Option FlightPlace). record {
              place = o;
              is_unread = false;
              kept = Some s.in_flight;
              again = s.again.items;
              packed = None;
            }) place ∙ (ap (λ (k : SplitInFlight). stores_to p k s.again.items) kept
                ∙ ap (stores_to p (started w.region w.used)) (sym again))),
            goes.seen ∙ ap (λ (xs : List ℕ). Some xs) (sym (again ∙ heads_are s starts.again)),
            ap (λ (v : BlockQueueState). next_avail_of v.queue) becomes
                ∙ (goes_to q.queue s.next_avail split ∙ (starts.next
                ∙ (ap (λ (n : ℕ). (n + length s.again.items) % 2 ^ 16) used
                ∙ ap (λ (xs : List ℕ). (w.used + length xs) % 2 ^ 16) (sym again)))),
          )

      refused_as : (e : StartError)
          → (e ≡ start.Memory) ⊎ (start_fault p.descriptors (size_of q.queue) bytes (next_used_of q.queue) ≡ Some e)
          → (a ≡ start_refused e) × (q' ≡ q) × (new ≡ old)
          → GoesOnAs step p (effect p.descriptors (size_of q.queue) w None Start) w q old a q' new
      refused_as e (inl memory) (is, becomes, still) =
          inl (is ∙ ap start_refused memory, becomes, still)
      refused_as e (inr bad) after =
          let well : fault p.descriptors (size_of q.queue) (region_of p.descriptors bytes) (next_used_of q.queue) ≡ None =
          ap (λ (r : SplitRegion). fault p.descriptors (size_of q.queue) r (next_used_of q.queue)) region
          ∙ (ap (fault p.descriptors (size_of q.queue) w.region) used ∙ goes.accepted) in
          none_some (start_fault p.descriptors (size_of q.queue) bytes (next_used_of q.queue)) e
          (no_fault p.descriptors (size_of q.queue) bytes (next_used_of q.queue) long fits well) bad

      by : (r : Result SplitStart StartError) → StartsBy bytes p.descriptors (size_of q.queue) (next_used_of q.queue) r
          → AfterStart step q p r old a q' new
          → GoesOnAs step p (effect p.descriptors (size_of q.queue) w None Start) w q old a q' new
      by (Ok s) (starts, well) after = inr (started_as s starts after)
      by (Err e) why after = refused_as e why after

      from : (v : AnyQueue) → is_split v ≡ true → GoesOnFrom step v q p bytes old a q' new
          → GoesOnAs step p (effect p.descriptors (size_of q.queue) w None Start) w q old a q' new
      from (Split u) is (r, starts, after) = by r starts after
      from (Packed u) is p = absurd (cc)
