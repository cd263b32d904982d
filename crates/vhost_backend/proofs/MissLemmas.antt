-- A mapping that does not come fails what waits for it, and nothing else.
use Rattle.std.proofs.Common.{◌≡◌, ◌⊎◌, ◌∙◌, ℕ, zero, suc, ◌<◌, ◌==◌, ◌&&◌, not, Bool, true, false, List, [], ◌∷◌, length, Option, Some, None, is_some, Result, Ok, Err, IfOk, MatchBool, MatchOption, if◌then◌else◌, refl, ap, sym, subst, inl, inr, arith}
use Rattle.std.specs.List.{list_all, slice_get, slice_set}
use Rattle.std.specs.Option.{option_to_list}
use Rattle.std.specs.declared.alloc.AllocError.{AllocError}
use Rattle.std.proofs.lemmas.Bool.{cases_eq, eq-eqb, ne_eqb}
use Rattle.std.proofs.lemmas.Option.{slice_get_within}
use Rattle.vm_memory_base.specs.Table.{Says}
use Rattle.vm_memory_base.specs.declared.iotlb.IovaRange.{IovaRange}
use Rattle.vm_memory_base.specs.declared.iotlb.Permissions.{Permissions}
use Rattle.vm_memory_base.specs.declared.iotlb.Permissions.TheVariants.{Read}
use Rattle.vm_memory_guest.specs.declared.region.error.GuestMemoryError.{GuestMemoryError}
use Rattle.vm_memory_device.specs.declared.chain.Segment.{Segment}
use Rattle.virtio_queue.specs.declared.any.AnyQueue.{AnyQueue}
use Rattle.virtio_queue.specs.declared.any.AnyQueue.TheVariants.{Split, Packed}
use Rattle.virtio_queue.specs.declared.error.QueueError.{QueueError}
use Rattle.virtio_blk.specs.declared.request.DeviceLimits.{DeviceLimits}
use Rattle.virtio_blk.specs.declared.request.Request.{Request}
use Rattle.virtio_blk.specs.declared.request.Request.TheVariants.{Refused}
use Rattle.vhost_iotlb.specs.declared.kept.Kept.{Kept}
use Rattle.vhost_iotlb.specs.declared.taking.Want.{Want}
use Rattle.vhost_message.specs.declared.backend_req.BackendReply.{BackendReply}
use Rattle.vhost_message.specs.declared.refusal.Refusal.TheVariants.{Direction}
use Rattle.vhost_backend.proofs.OwnWayLemmas.{get-set_other, get-set_same}
use Rattle.vhost_backend.proofs.ServeLemmas.{kick_length, kick_stays, kicked_here}
use Rattle.vhost_backend.specs.Behind.{AfterLookUp, BeginsFetched, Fetches, FetchesChain, FetchesNext, FetchesRow, FindsNext, GivesUp, HappensBehind, KeepsRows, LooksUp, ReachesRing, ReadsBehind, TakesFetched, Uses, WaitsBehind, begun_behind, chain_begun, fetching, is_refused, missed_by, open_terms, or_empty, origin_of, past_found, with_fetch, with_reach}
use Rattle.vhost_backend.specs.BlockBackend.{channel_lost, hung_up, refused_one, replied_to, reply_by, reply_for}
use Rattle.vhost_backend.specs.BlockQueue.{BlockQueueState, ReadsBy, event_of, has_place, popped, read_by, refused}
use Rattle.vhost_backend.specs.Fetch.{FetchState, begun, chain_wants, guest_chain, has_gap, is_real, ring_wants, status_want, waits, want}
use Rattle.vhost_backend.specs.GoesOn.{fetch_at, fetch_of}
use Rattle.vhost_backend.specs.Questions.{QuestionsState, after_reply}
use Rattle.vhost_backend.specs.Reach.{ReachState, areas_kept, forgotten, most_for, rows_forgotten, waited_for, waited_in}
use Rattle.vhost_backend.specs.Reach as reach
use Rattle.vhost_backend.specs.RingMemory.{MemoryStep, Returned, begins}
use Rattle.vhost_backend.specs.TableUse.{awaited, kicked_if, kicked_to, refused_at}
use Rattle.vhost_backend.specs.declared.block_backend.BlockBackend.{BlockBackend}
use Rattle.vhost_backend.specs.declared.block_queue.behind.Origin.{Origin}
use Rattle.vhost_backend.specs.declared.deeds.Why.TheVariants as why
use Rattle.vhost_backend.specs.declared.fetch.Found.{Found}
use Rattle.vhost_backend.specs.declared.fetch.Goal.{Goal}
use Rattle.vhost_backend.specs.declared.fetch.Goal.TheVariants as goal
use Rattle.vhost_backend.specs.declared.fetch.State.{State}
use Rattle.vhost_backend.specs.declared.fetch.State.TheVariants as state
use Rattle.vhost_backend.specs.declared.questions.SentMiss.{SentMiss}
use Rattle.vhost_backend.specs.declared.ring.RingEvent.{RingEvent}
use Rattle.vhost_backend.specs.declared.ring.RingEvent.TheVariants.{Emptied}

-- ---- a reply

-- what comes of a reply to a MISS
pub reply_is : (w : BlockBackend) (r : BackendReply) (questions : QuestionsState) (one : SentMiss) → r.request ≡ 1
    → after_reply w.questions ≡ (questions, Some one)
    → (replied_to w (Ok r)).0 ≡ reply_for (record w { questions = questions }) one r.value
reply_is w r questions one asked answers =
    ap (λ (v : Bool). let t : BlockBackend × Bool = if v then reply_by w r.value (after_reply w.questions)
    else (hung_up w (why.Refused Direction), false) in t.0) (eq-eqb r.request 1 asked)
    ∙ ap (λ (t : QuestionsState × Option SentMiss). (reply_by w r.value t).0) answers

module _ (w : BlockBackend) (one : SentMiss) (value : ℕ) where
  refused_is : one.is_awaited ≡ true → (value ≡ 0 → ⊥)
      → (reply_for w one value).queues ≡ refused_at w.queues one.ring (slice_get w.queues one.ring)
  refused_is awaits fails =
      let test : (one.is_awaited && not (value == 0)) ≡ true = rw (awaits, ne_eqb value 0 fails) refl in
      ap (λ (v : Bool). let u : BlockBackend = if v
      then record w { queues = refused_at w.queues one.ring (slice_get w.queues one.ring) } else w in u.queues) test

  same_kicks : (refused_one w one value).kicks ≡ w.kicks
  same_kicks = go (one.is_awaited && not (value == 0))
    where
      go : (v : Bool) → (let u : BlockBackend = if v
          then record w { queues = refused_at w.queues one.ring (slice_get w.queues one.ring) } else w in u.kicks ≡ w.kicks)
      go true = refl
      go false = refl

  pub reply_kicks : (reply_for w one value).kicks ≡ slice_set w.kicks one.ring true
  reply_kicks = ap (λ (ks : List Bool). slice_set ks one.ring true) same_kicks

  -- its fetch stops
  reply_stops : (f : FetchState) (iova : ℕ) (access : Permissions) → one.is_awaited ≡ true → (value ≡ 0 → ⊥)
      → fetch_at w one.ring ≡ Some f → f.state ≡ state.Waits iova access
      → fetch_at (reply_for w one value) one.ring ≡ Some (record f { state = state.Stops })
  reply_stops f iova access awaits fails there waiting =
      ap (λ (qs : List BlockQueueState). fetch_of (slice_get qs one.ring)) (refused_is awaits fails)
      ∙ go (slice_get w.queues one.ring) refl there
    where
      go : (o : Option BlockQueueState) → slice_get w.queues one.ring ≡ o → fetch_of o ≡ Some f
          → fetch_of (slice_get (refused_at w.queues one.ring o) one.ring) ≡ Some (record f { state = state.Stops })
      go None found there = absurd (cc)
      go (Some q) found there =
          ap fetch_of (get-set_same w.queues one.ring (with_reach q (reach.refused q.reach)) q found)
          ∙ ap (λ (o : Option FetchState). (reach.refused (record q.reach { fetch = o })).fetch) there
          ∙ ap (λ (s : State). Some (if waits s then record f { state = state.Stops } else f)) waiting

  -- other rings stay as they are
  pub other_queue : (i : ℕ) → (i ≡ one.ring → ⊥)
      → slice_get (reply_for w one value).queues i ≡ slice_get w.queues i
  other_queue i differs = go (one.is_awaited && not (value == 0))
    where
      set : (o : Option BlockQueueState) → slice_get (refused_at w.queues one.ring o) i ≡ slice_get w.queues i
      set None = refl
      set (Some q) = get-set_other w.queues one.ring i (with_reach q (reach.refused q.reach)) differs

      go : (v : Bool) → (let u : BlockBackend = if v
          then record w { queues = refused_at w.queues one.ring (slice_get w.queues one.ring) } else w in
          slice_get u.queues i ≡ slice_get w.queues i)
      go true = set (slice_get w.queues one.ring)
      go false = refl

module _ (w : BlockBackend) (r : BackendReply) (questions : QuestionsState) (one : SentMiss) (asked : r.request ≡ 1)
    (answers : after_reply w.questions ≡ (questions, Some one)) where
  then_is : (replied_to w (Ok r)).0 ≡ reply_for (record w { questions = questions }) one r.value
  then_is = reply_is w r questions one asked answers

  pub refusal_stops : (f : FetchState) (iova : ℕ) (access : Permissions) → (r.value ≡ 0 → ⊥) → one.is_awaited ≡ true
      → fetch_at w one.ring ≡ Some f → f.state ≡ state.Waits iova access → length w.kicks ≡ length w.queues
      → (fetch_at (replied_to w (Ok r)).0 one.ring ≡ Some (record f { state = state.Stops }))
      × (slice_get (replied_to w (Ok r)).0.kicks one.ring ≡ Some true)
  refusal_stops f iova access fails awaits there waiting room =
      let v : BlockBackend = record w { questions = questions } in (
        ap (λ (u : BlockBackend). fetch_at u one.ring) then_is
            ∙ reply_stops v one r.value f iova access awaits fails there waiting,
        ap (λ (u : BlockBackend). slice_get u.kicks one.ring) then_is
            ∙ ap (λ (ks : List Bool). slice_get ks one.ring) (reply_kicks v one r.value)
            ∙ kicked_here w.kicks one.ring (inside (slice_get w.queues one.ring) refl there),
      )
    where
      inside : (o : Option BlockQueueState) → slice_get w.queues one.ring ≡ o → fetch_of o ≡ Some f
          → one.ring < length w.kicks
      inside None found there = absurd (cc)
      inside (Some q) found there = omega (arith, room, slice_get_within w.queues one.ring q found)

  -- whatever the reply says, the ring is looked at
  pub reply_looks : one.ring < length w.kicks → slice_get (replied_to w (Ok r)).0.kicks one.ring ≡ Some true
  reply_looks inside =
      let v : BlockBackend = record w { questions = questions } in
      ap (λ (u : BlockBackend). slice_get u.kicks one.ring) then_is
      ∙ ap (λ (ks : List Bool). slice_get ks one.ring) (reply_kicks v one r.value)
      ∙ kicked_here w.kicks one.ring inside

  pub others_stay : (i : ℕ) → (i ≡ one.ring → ⊥)
      → (slice_get (replied_to w (Ok r)).0.queues i ≡ slice_get w.queues i)
      × (slice_get (replied_to w (Ok r)).0.kicks i ≡ slice_get w.kicks i)
  others_stay i differs =
      let v : BlockBackend = record w { questions = questions } in (
        ap (λ (u : BlockBackend). slice_get u.queues i) then_is ∙ other_queue v one r.value i differs,
        ap (λ (u : BlockBackend). slice_get u.kicks i) then_is
            ∙ ap (λ (ks : List Bool). slice_get ks i) (reply_kicks v one r.value)
            ∙ get-set_other w.kicks one.ring i true differs,
      )

-- ---- the channel is lost

module _ (qs : List BlockQueueState) (ks : List Bool) (i : ℕ) where
  pub kicks_length : (n : ℕ) → length (kicked_to n qs ks) ≡ length ks
  kicks_length zero = refl
  kicks_length (suc n) = kick_length (is_some (awaited (slice_get qs n))) (kicked_to n qs ks) n ∙ kicks_length n

  pub waiting_kicked : (n : ℕ) → i < n → i < length ks → is_some (awaited (slice_get qs i)) ≡ true
      → slice_get (kicked_to n qs ks) i ≡ Some true
  waiting_kicked zero inside room is = absurd (omega arith)
  waiting_kicked (suc n) inside room is = elim (cases_eq i n) [
    | inl same ↦
        let here : is_some (awaited (slice_get qs n)) ≡ true =
        ap (λ (k : ℕ). is_some (awaited (slice_get qs k))) (sym same) ∙ is in
        ap (λ (v : Bool). slice_get (kicked_if v (kicked_to n qs ks) n) i) here
        ∙ ap (λ (k : ℕ). slice_get (slice_set (kicked_to n qs ks) k true) i) (sym same)
        ∙ kicked_here (kicked_to n qs ks) i (omega (arith, kicks_length n))
    | inr differs ↦ kick_stays i n (is_some (awaited (slice_get qs n))) (kicked_to n qs ks)
        (waiting_kicked n (omega (arith, differs)) room is)
  ]

  pub others_unkicked : (n : ℕ) → is_some (awaited (slice_get qs i)) ≡ false
      → slice_get (kicked_to n qs ks) i ≡ slice_get ks i
  others_unkicked zero is = refl
  others_unkicked (suc n) is = elim (cases_eq i n) [
    | inl same ↦
        let here : is_some (awaited (slice_get qs n)) ≡ false =
        ap (λ (k : ℕ). is_some (awaited (slice_get qs k))) (sym same) ∙ is in
        ap (λ (v : Bool). slice_get (kicked_if v (kicked_to n qs ks) n) i) here ∙ others_unkicked n is
    | inr differs ↦ go differs (is_some (awaited (slice_get qs n))) ∙ others_unkicked n is
  ]
    where
      go : (i ≡ n → ⊥) → (v : Bool)
          → slice_get (kicked_if v (kicked_to n qs ks) n) i ≡ slice_get (kicked_to n qs ks) i
      go differs true = get-set_other (kicked_to n qs ks) n i true differs
      go differs false = refl

pub lost_kicks : (w : BlockBackend) (i iova : ℕ) (access : Permissions) → length w.kicks ≡ length w.queues
    → awaited (slice_get w.queues i) ≡ Some (iova, access) → slice_get (channel_lost w).kicks i ≡ Some true
lost_kicks w i iova access room waiting = go (slice_get w.queues i) refl waiting
  where
    go : (o : Option BlockQueueState) → slice_get w.queues i ≡ o → awaited o ≡ Some (iova, access)
        → slice_get (channel_lost w).kicks i ≡ Some true
    go None found waiting = absurd (cc)
    go (Some q) found there =
        let within = slice_get_within w.queues i q found in
        waiting_kicked w.queues w.kicks i (length w.queues) within (omega (arith, room, within)) (ap is_some waiting)

pub lost_others : (w : BlockBackend) (i : ℕ) → awaited (slice_get w.queues i) ≡ None
    → slice_get (channel_lost w).kicks i ≡ slice_get w.kicks i
lost_others w i none = others_unkicked w.queues w.kicks i (length w.queues) (ap is_some none)

-- ---- what a stage of a turn leaves

-- nothing is waited for, or the turn is over
abbrev pub WaitsOnlyThen : Bool → Option RingEvent → BlockQueueState → Type 0
WaitsOnlyThen can e q = (waited_for q.reach.fetch ≡ None) ⊎ ((e ≡ Some Emptied) × (can ≡ true))

abbrev pub WaitsNot : BlockQueueState → Type 0
WaitsNot q = waited_for q.reach.fetch ≡ None

-- what begins waits for nothing
begun_waits : (o : Option FetchState) (g : Goal) (ws : List Want) → o ≡ begun g ws → waited_for o ≡ None
begun_waits o g ws is = ap waited_for is ∙ go (list_all is_real ws)
  where
    go : (v : Bool) → waited_for
        (if v then Some (record { goal = g; wants = ws; kept = []; state = state.Begun }) else None) ≡ None
    go true = refl
    go false = refl

chain_waits : (o : Option FetchState) (v : Bool) (found : Found) → o ≡ chain_begun v found → waited_for o ≡ None
chain_waits o true found is = begun_waits o (goal.Status found) (option_to_list (status_want found.chain)) is
chain_waits o false found is = begun_waits o (goal.Chain found) (chain_wants found.chain) is

begins_waits : (q : BlockQueueState) (r : Result (Option FetchState) AllocError) (e : Option RingEvent)
    (q' : BlockQueueState) → IfOk r (λ o. waited_for o ≡ None) → (e, q') ≡ fetching q r → WaitsNot q'
begins_waits q (Ok (Some f)) e q' none is =
    ap (λ (t : Option RingEvent × BlockQueueState). waited_for t.1.reach.fetch) is ∙ none
begins_waits q (Ok None) e q' none is =
    ap (λ (t : Option RingEvent × BlockQueueState). waited_for t.1.reach.fetch) is
begins_waits q (Err error) e q' none is =
    ap (λ (t : Option RingEvent × BlockQueueState). waited_for t.1.reach.fetch) is

if_made : (r : Result (Option FetchState) AllocError) (P : Option FetchState → Type 0) → IfOk r P
    → ((o : Option FetchState) → P o → waited_for o ≡ None) → IfOk r (λ o. waited_for o ≡ None)
if_made (Ok o) P made each = each o made
if_made (Err e) P made each = tt

moved_waits : (q q' : BlockQueueState) → WaitsNot q → q'.reach.fetch ≡ q.reach.fetch → WaitsNot q'
moved_waits q q' none same = ap waited_for same ∙ none

module _ {H : Type 0} (step : H → (s : MemoryStep) → Returned s → H → Type 0) where
  rows_wait : (q : BlockQueueState) (kept : List Kept) (old : H) (e : Option RingEvent) (q' : BlockQueueState) (new : H)
      → WaitsNot q → KeepsRows step q kept old e q' new → WaitsNot q'
  rows_wait q kept old e q' new none (Ok done, becomes, (r, keeps, is)) =
      moved_waits q q' none (ap (λ (v : BlockQueueState). v.reach.fetch) becomes)
  rows_wait q kept old e q' new none (Err error, becomes, (is, still)) =
      moved_waits q q' none (ap (λ (v : BlockQueueState). v.reach.fetch) becomes)

  begun_wait : (terms : DeviceLimits) (q : BlockQueueState) (o : Origin) (chain : List Segment) (kept : List Kept)
      (old : H) (e : Option RingEvent) (q' : BlockQueueState) (new : H) → WaitsNot q
      → BeginsFetched step terms q o chain kept old e q' new → WaitsNot q'
  begun_wait terms q o chain kept old e q' new none = go (has_place q o.buffer.id)
    where
      read : (r : Result Request GuestMemoryError) → (e, q') ≡ begun_behind q o chain kept r → WaitsNot q'
      read (Ok request) is = moved_waits q q' none
          (ap (λ (t : Option RingEvent × BlockQueueState). t.1.reach.fetch) is)
      read (Err error) is = moved_waits q q' none
          (ap (λ (t : Option RingEvent × BlockQueueState). t.1.reach.fetch) is)

      go : (v : Bool) → MatchBool v ((r : Result Request GuestMemoryError) × step old (begins (open_terms terms) chain) r new
          × ((e, q') ≡ begun_behind q o chain kept r))
          ((e ≡ event_of (popped o.buffer (Refused 1))) × (q' ≡ past_found q o) × (new ≡ old)) → WaitsNot q'
      go true (r, first, is) = read r is
      go false (is, becomes, still) = moved_waits q q' none (ap (λ (v : BlockQueueState). v.reach.fetch) becomes)

  takes_wait : (terms : DeviceLimits) (q : BlockQueueState) (o : Origin) (kept : List Kept) (old : H)
      (e : Option RingEvent) (q' : BlockQueueState) (new : H) → WaitsNot q
      → TakesFetched step terms q o kept old e q' new → WaitsNot q'
  takes_wait terms q o kept old e q' new none (Ok done, p) =
      begun_wait terms q o (or_empty (guest_chain kept)) kept old e q' new none p
  takes_wait terms q o kept old e q' new none (Err error, (is, becomes, still)) =
      moved_waits q q' none (ap (λ (v : BlockQueueState). v.reach.fetch) becomes)

  areas_wait : (q q' : BlockQueueState) (kept : List Kept) (r : Result (Unit {0}) AllocError) → WaitsNot q
      → q' ≡ with_reach q (areas_kept q.reach kept r) → WaitsNot q'
  areas_wait q q' kept (Ok done) none becomes =
      moved_waits q q' none (ap (λ (v : BlockQueueState). v.reach.fetch) becomes)
  areas_wait q q' kept (Err e) none becomes =
      moved_waits q q' none (ap (λ (v : BlockQueueState). v.reach.fetch) becomes)

  uses_wait : (terms : DeviceLimits) (q : BlockQueueState) (g : Goal) (kept : List Kept) (old : H) (e : Option RingEvent)
      (q' : BlockQueueState) (new : H) → WaitsNot q → Uses step terms q g kept old e q' new → WaitsNot q'
  uses_wait terms q goal.Ring kept old e q' new none (r, keeps, is, becomes) = areas_wait q q' kept r none becomes
  uses_wait terms q goal.Rows kept old e q' new none p = rows_wait q kept old e q' new none p
  uses_wait terms q (goal.Chain found) kept old e q' new none p =
      takes_wait terms q (origin_of found false) kept old e q' new none p
  uses_wait terms q (goal.Status found) kept old e q' new none p =
      takes_wait terms q (origin_of found (has_gap found.chain)) kept old e q' new none p

  gives_up_waits : (terms : DeviceLimits) (q : BlockQueueState) (g : Goal) (old : H) (e : Option RingEvent)
      (q' : BlockQueueState) (new : H) → WaitsNot q → GivesUp step terms q g old e q' new → WaitsNot q'
  gives_up_waits terms q goal.Ring old e q' new none (is, becomes, still) =
      moved_waits q q' none (ap (λ (v : BlockQueueState). v.reach.fetch) becomes)
  gives_up_waits terms q goal.Rows old e q' new none (is, becomes, still) =
      moved_waits q q' none (ap (λ (v : BlockQueueState). v.reach.fetch) becomes)
  gives_up_waits terms q (goal.Chain found) old e q' new none (r, made, becomes, still) =
      begins_waits q r e q' (if_made r (λ o. o ≡ chain_begun true found) made (λ o is. chain_waits o true found is)) becomes
  gives_up_waits terms q (goal.Status found) old e q' new none p =
      takes_wait terms q (origin_of found false) [] old e q' new none p

  looked_waits : (can : Bool) (terms : DeviceLimits) (q : BlockQueueState) (g : FetchState) (s : State) (old : H)
      (e : Option RingEvent) (q' : BlockQueueState) (new : H) → WaitsNot q → g.state ≡ s
      → AfterLookUp step can terms q g s old e q' new → WaitsOnlyThen can e q'
  looked_waits can terms q g state.Begun old e q' new none at (is, becomes, still) =
      inl (ap (λ (v : BlockQueueState). waited_for v.reach.fetch) becomes ∙ ap waited_in at)
  looked_waits can terms q g (state.Waits iova access) old e q' new none at p = go can refl p
    where
      go : (v : Bool) → can ≡ v → MatchBool v ((e ≡ Some Emptied) × (q' ≡ with_fetch q (Some g)) × (new ≡ old))
          (GivesUp step terms q g.goal old e q' new) → WaitsOnlyThen can e q'
      go true may (is, becomes, still) = inr (is, may)
      go false not p = inl (gives_up_waits terms q g.goal old e q' new none p)
  looked_waits can terms q g state.Stops old e q' new none at p =
      inl (gives_up_waits terms q g.goal old e q' new none p)
  looked_waits can terms q g state.Whole old e q' new none at p =
      inl (uses_wait terms q g.goal g.kept old e q' new none p)

  -- ---- what is fetched next

  reaches_waits : (q : BlockQueueState) (old : H) (e : Option RingEvent) (q' : BlockQueueState) (new : H) → WaitsNot q
      → ReachesRing step q old e q' new → WaitsNot q'
  reaches_waits q old e q' new none (Ok done, forgets, (r, made, becomes)) =
      begins_waits (with_reach q (forgotten q.reach (Ok done))) r e q'
      (if_made r (λ o. o ≡ begun goal.Ring (ring_wants q.queue q.reach.log)) made
      (λ o is. begun_waits o goal.Ring (ring_wants q.queue q.reach.log) is)) becomes
  reaches_waits q old e q' new none (Err error, forgets, (is, becomes)) =
      moved_waits q q' none (ap (λ (v : BlockQueueState). v.reach.fetch) becomes)

  pub read_waits : (q : BlockQueueState) (unread : Bool) (u : AnyQueue) (old : H) (r : Result (Unit {0}) QueueError)
      (q' : BlockQueueState) (new : H) → ReadsBy step q unread u old r q' new → q'.reach ≡ q.reach
  read_waits q true (Split u) old r q' new (next, reads, is) = by next is
    where
      by : (n : Result ℕ QueueError) → (q', r) ≡ read_by q u n → q'.reach ≡ q.reach
      by (Ok n) is = ap (λ (t : BlockQueueState × Result (Unit {0}) QueueError). t.0.reach) is
      by (Err e) is = ap (λ (t : BlockQueueState × Result (Unit {0}) QueueError). t.0.reach) is
  read_waits q true (Packed u) old r q' new (is, becomes, still) = ap (λ (v : BlockQueueState). v.reach) becomes
  read_waits q false u old r q' new (is, becomes, still) = ap (λ (v : BlockQueueState). v.reach) becomes

  module _ (terms : DeviceLimits) where
    pub chain_begins : (q : BlockQueueState) (found : Found) (old : H) (e : Option RingEvent) (q' : BlockQueueState) (new : H)
        → WaitsNot q → FetchesChain step terms q found old e q' new → WaitsNot q'
    chain_begins q found old e q' new none (Ok done, forgets, (r, made, becomes)) =
        let v = is_refused terms (length q.asked) found.chain in
        begins_waits (with_reach q (rows_forgotten q.reach (Ok done))) r e q'
        (if_made r (λ o. o ≡ chain_begun v found) made (λ o is. chain_waits o v found is)) becomes
    chain_begins q found old e q' new none (Err error, forgets, (is, becomes)) =
        moved_waits q q' none (ap (λ (v : BlockQueueState). v.reach.fetch) becomes)

    pub row_begins : (q : BlockQueueState) (error : QueueError) (e : Option RingEvent) (q' : BlockQueueState) → WaitsNot q
        → FetchesRow q error e q' → WaitsNot q'
    row_begins q error e q' none = go (missed_by error)
      where
        go : (o : Option IovaRange) → MatchOption o ((e ≡ event_of (refused error)) × (q' ≡ q))
            (λ range. (r : Result (Option FetchState) AllocError)
            × IfOk r (λ g. g ≡ begun goal.Rows (want range.base.0 range.length Read ∷ [])) × ((e, q') ≡ fetching q r))
            → WaitsNot q'
        go None (is, becomes) = moved_waits q q' none (ap (λ (v : BlockQueueState). v.reach.fetch) becomes)
        go (Some range) (r, made, becomes) = begins_waits q r e q'
            (if_made r (λ o. o ≡ begun goal.Rows (want range.base.0 range.length Read ∷ [])) made
            (λ o is. begun_waits o goal.Rows (want range.base.0 range.length Read ∷ []) is)) becomes

    wait_waits : (q : BlockQueueState) (old : H) (e : Option RingEvent) (q' : BlockQueueState) (new : H) → WaitsNot q
        → WaitsBehind step terms q old e q' new → WaitsNot q'
    wait_waits q old e q' new none (Ok true, mid, asks, (Ok (Some found), next, finds, p)) =
        chain_begins q found next e q' new none p
    wait_waits q old e q' new none (Ok true, mid, asks, (Ok None, next, finds, (is, becomes, still))) =
        moved_waits q q' none (ap (λ (v : BlockQueueState). v.reach.fetch) becomes)
    wait_waits q old e q' new none (Ok true, mid, asks, (Err error, next, finds, (p, still))) =
        row_begins q error e q' none p
    wait_waits q old e q' new none (Ok false, mid, asks, (is, becomes, still)) =
        moved_waits q q' none (ap (λ (v : BlockQueueState). v.reach.fetch) becomes)
    wait_waits q old e q' new none (Err error, mid, asks, (is, becomes, still)) =
        moved_waits q q' none (ap (λ (v : BlockQueueState). v.reach.fetch) becomes)

    find_waits : (q : BlockQueueState) (old : H) (e : Option RingEvent) (q' : BlockQueueState) (new : H) → WaitsNot q
        → FindsNext step terms q old e q' new → WaitsNot q'
    find_waits q old e q' new none (Ok (Some found), mid, finds, p) = chain_begins q found mid e q' new none p
    find_waits q old e q' new none (Ok None, mid, finds, p) = wait_waits q mid e q' new none p
    find_waits q old e q' new none (Err error, mid, finds, (p, still)) = row_begins q error e q' none p

    next_waits : (q : BlockQueueState) (old : H) (e : Option RingEvent) (q' : BlockQueueState) (new : H) → WaitsNot q
        → FetchesNext step terms q old e q' new → WaitsNot q'
    next_waits q old e q' new none = go q.reach.is_reached
      where
        reads : (v : Bool) → MatchBool v (ReadsBehind step q old e q' new) (FindsNext step terms q old e q' new)
            → WaitsNot q'
        reads true (r, done, is) = moved_waits q q' none
            (ap (λ (v : ReachState). v.fetch) (read_waits q q.is_unread q.queue old r q' new done))
        reads false p = find_waits q old e q' new none p

        go : (v : Bool) → MatchBool v (MatchBool q.is_unread (ReadsBehind step q old e q' new)
            (FindsNext step terms q old e q' new)) (ReachesRing step q old e q' new) → WaitsNot q'
        go true p = reads q.is_unread p
        go false p = reaches_waits q old e q' new none p

    -- a ring waits after a stage only if its turn is over by that, and a mapping can be asked for
    pub behind_waits : (f : Says) (can : Bool) (q : BlockQueueState) (old : H) (e : Option RingEvent)
        (q' : BlockQueueState) (new : H) → HappensBehind step f can terms q old e q' new → WaitsOnlyThen can e q'
    behind_waits f can q old e q' new = go q.reach.fetch refl
      where
        go : (o : Option FetchState) → q.reach.fetch ≡ o → MatchOption o (FetchesNext step terms q old e q' new)
            (λ g. Fetches step f can terms (with_fetch q None) g old e q' new) → WaitsOnlyThen can e q'
        go None none p = inl (next_waits q old e q' new (ap waited_for none) p)
        go (Some g) some (g', looks, after) =
            looked_waits can terms (with_fetch q None) g' g'.state old e q' new refl refl after

    -- so none does if no mapping can be asked for
    pub never_waits : (f : Says) (q : BlockQueueState) (old : H) (e : Option RingEvent) (q' : BlockQueueState) (new : H)
        → HappensBehind step f false terms q old e q' new → waited_for q'.reach.fetch ≡ None
    never_waits f q old e q' new happens = elim (behind_waits f false q old e q' new happens) [
      | inl none ↦ none
      | inr (is, may) ↦ absurd (cc)
    ]

    -- what stopped fails in the next turn of its ring
    pub stopped_fails : (f : Says) (can : Bool) (q : BlockQueueState) (g : FetchState) (old : H) (e : Option RingEvent)
        (q' : BlockQueueState) (new : H) → q.reach.fetch ≡ Some g → g.state ≡ state.Stops
        → HappensBehind step f can terms q old e q' new → GivesUp step terms (with_fetch q None) g.goal old e q' new
    stopped_fails f can q g old e q' new fetching stops happens =
        let p : Fetches step f can terms (with_fetch q None) g old e q' new =
        subst (λ (o : Option FetchState). MatchOption o (FetchesNext step terms q old e q' new)
        (λ v. Fetches step f can terms (with_fetch q None) v old e q' new)) fetching happens in
        let same : p.0 ≡ g =
        subst (λ (s : State). LooksUp f (most_for (with_fetch q None).reach (length q.asked) g.goal) s g p.0) stops p.1 in
        subst (λ (s : State). AfterLookUp step can terms (with_fetch q None) g s old e q' new) stops
        (subst (λ (v : FetchState). AfterLookUp step can terms (with_fetch q None) v v.state old e q' new) same p.2)
