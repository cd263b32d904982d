-- Each ring that waits is asked for or looked at after each call of a back end, each step and each look.
use Rattle.std.proofs.Common.{◌≡◌, ◌∙◌, ℕ, ◌+◌, ◌<◌, ◌==◌, ◌&&◌, ◌||◌, nat_lt, not, Bool, true, false, List, length, drop, Option, Some, None, is_some, Result, Ok, Err, IsSomeAnd, MatchOption, MatchResult, if◌then◌else◌, refl, ap, sym, subst, arith}
use Rattle.std.specs.List.{slice_get, slice_set}
use Rattle.std.specs.Int.{to_le_bytes, w64}
use Rattle.std.proofs.lemmas.Option.{slice_get_within}
use Rattle.vm_memory_base.specs.declared.iotlb.Permissions.{Permissions}
use Rattle.vm_memory_guest.specs.declared.region.error.GuestMemoryError.{GuestMemoryError}
use Rattle.virtio_queue.specs.declared.any.AnyQueue.{AnyQueue}
use Rattle.virtio_queue.specs.declared.error.QueueError.{QueueError}
use Rattle.vhost_message.specs.FrontendReq.{request_of}
use Rattle.vhost_message.specs.declared.frontend_req.FrontendReq.{FrontendReq}
use Rattle.vhost_message.specs.declared.frontend_req.FrontendReq.TheVariants as req
use Rattle.vhost_message.specs.declared.header.Header.{Header}
use Rattle.vhost_user.specs.Reply.{refused}
use Rattle.vhost_user.specs.declared.vring.NotRunning.{NotRunning}
use Rattle.vhost_user.specs.declared.vring.RunningVring.{RunningVring}
use Rattle.vhost_backend.proofs.FlightLemmas.{gives_asked}
use Rattle.vhost_backend.proofs.FitLemmas.{Fits, FitsIn}
use Rattle.vhost_backend.proofs.TendAskLemmas.{sent_rings, sent_still}
use Rattle.vhost_backend.proofs.TendLemmas.{came_keep, config_rings, end_keep, keeps, reached_fits, reached_more, same_count, told_keep}
use Rattle.vhost_backend.proofs.TendTableLemmas.{all_kicked, asked_else, happened, hung_up_tends, kicked_more, queue_set, stale_tends, tends_by, unasked}
use Rattle.vhost_backend.specs.declared.flight.FlightPlace.{FlightPlace}
use Rattle.vhost_backend.specs.Backend.{BackendState, is_free, mapping_at, stopped_ring}
use Rattle.vhost_backend.specs.Block.{status_of, written_of}
use Rattle.vhost_backend.specs.BlockBackend.{Acts, ActsFirst, GivesBackAt, Returns, Steps, StepsFrom, after_reach, answered, answered_at, asked_by, asked_due, asked_first_by, asked_more_by, asked_next, broke_if, called_by, called_up, came, counted, ended_by, ended_with, finished_by, gone_on, hung_up, in_use, is_done, mapped, mapped_at, may_ask, messaged, placed_by, replied, resized, said_last, stepped_on_by, taken_by, told, with_change, with_channel}
use Rattle.vhost_backend.specs.BlockQueue.{BlockQueueState, FinishesRequest, asked_at, len_left, with_asked}
use Rattle.vhost_backend.specs.BlockQueues.{Asks, Finishes, Gives, WithQueue, base_left, based, began, set_up, set_up_at, stays_at, went_on}
use Rattle.vhost_backend.specs.BlockTable.{freed_by}
use Rattle.vhost_backend.specs.Fetch.{is_same_place}
use Rattle.vhost_backend.specs.GoesOn.{AreTended, IsTended, Tends, is_looked_at, reconfigures}
use Rattle.vhost_backend.specs.Marks.{Marks, chain_marks}
use Rattle.vhost_backend.specs.Messages.{Came, Done, Told}
use Rattle.vhost_backend.specs.PageList.{capped}
use Rattle.vhost_backend.specs.Questions.{QuestionsState, has_miss, lost, stale, taken_due}
use Rattle.vhost_backend.specs.Reach.{moved_to, same_log, waited_for}
use Rattle.vhost_backend.specs.Ring.{RingState, is_on}
use Rattle.vhost_backend.specs.RingMemory.{MemoryStep, Returned, finishes}
use Rattle.vhost_backend.specs.SetUp.{fresh_queue, is_set_up, log_of, moved_queue, part_for}
use Rattle.vhost_backend.specs.TableUse.{awaited}
use Rattle.vhost_backend.specs.Wanted.{wanted_at, wanted_of}
use Rattle.vhost_backend.specs.declared.backend.Finish.{Finish}
use Rattle.vhost_backend.specs.declared.backend.Finish.TheVariants as finish
use Rattle.vhost_backend.specs.declared.backend.Outcome.{Outcome}
use Rattle.vhost_backend.specs.declared.backend.Outcome.TheVariants as outcome
use Rattle.vhost_backend.specs.declared.backend.Place.{Place}
use Rattle.vhost_backend.specs.declared.backend.Taken.{Taken}
use Rattle.vhost_backend.specs.declared.backend.Taken.TheVariants as taken
use Rattle.vhost_backend.specs.declared.block_backend.BlockBackend.{BlockBackend}
use Rattle.vhost_backend.specs.declared.block_backend.Returning.{Returning}
use Rattle.vhost_backend.specs.declared.block_queue.Asked.{Asked}
use Rattle.vhost_backend.specs.declared.block_queue.Finished.{Finished}
use Rattle.vhost_backend.specs.declared.block_queue.Finished.TheVariants as finished
use Rattle.vhost_backend.specs.declared.block_queues.Reached.{Reached}
use Rattle.vhost_backend.specs.declared.block_queues.Reached.TheVariants as reached
use Rattle.vhost_backend.specs.declared.deeds.Ask.{Ask}
use Rattle.vhost_backend.specs.declared.deeds.Ask.TheVariants as ask
use Rattle.vhost_backend.specs.declared.deeds.Made.{Made}
use Rattle.vhost_backend.specs.declared.deeds.Made.TheVariants as made
use Rattle.vhost_backend.specs.declared.deeds.Why.{Why}
use Rattle.vhost_backend.specs.declared.deeds.Why.TheVariants as why
use Rattle.vhost_backend.specs.declared.mapping.Mapping.{Mapping}
use Rattle.vhost_backend.specs.declared.mapping.Mapping.TheVariants.{Map, UnmapAll}
use Rattle.vhost_backend.specs.declared.questions.Miss.{Miss}
use Rattle.vhost_backend.specs.declared.request.Chain.{Chain}
use Rattle.vhost_backend.specs.declared.ring.RingEvent.TheVariants.{Break}
use Rattle.vhost_backend.specs.declared.ring.actions.RingAction.{RingAction}
use Rattle.vhost_backend.specs.declared.ring.actions.RingAction.TheVariants as action
use Rattle.vhost_backend.specs.declared.rings.Event.{Event}
use Rattle.vhost_backend.specs.declared.rings.Event.TheVariants as event
use Rattle.vhost_backend.specs.declared.wanted.Purpose.TheVariants as purpose
use Rattle.vhost_backend.specs.declared.wanted.Wanted.{Wanted}
use Rattle.vhost_backend.specs.declared.wanted.Wanted.TheVariants as wanted

-- ---- events

pub told_tends : (w : BlockBackend) (e : Event) → ((i : ℕ) → keeps i e ≡ true) → Tends w → Tends (told w e)
told_tends w e kept tend =
    happened w.queues w.kicks w.questions w.backend (Told e) (λ i. told_keep i w.backend e (kept i)) tend

pub gone_on_tends : (w : BlockBackend) → Tends w → Tends (gone_on w)
gone_on_tends w = told_tends w event.GoOn (λ i. refl)

pub came_tends : (w : BlockBackend) (h : Header) (payload : List ℕ) (descriptors : ℕ) → Tends w
    → Tends (came w h payload descriptors).0
came_tends w h payload descriptors tend = go (is_done w && is_free w.backend.taken)
  where
    go : (v : Bool) → (let r : BlockBackend × Bool = (if v
        then (let v = with_change w (request_of h payload) in (taken_by v h payload descriptors (in_use v), true))
        else (w, false)) in Tends r.0)
    go true = let x = Came h payload descriptors (in_use (with_change w (request_of h payload))) in
        happened w.queues w.kicks w.questions w.backend x
        (λ i. came_keep i w.backend h payload descriptors (in_use (with_change w (request_of h payload)))) tend
    go false = tend

pub finished_tends : (w : BlockBackend) (e : Finish) → Tends w → Tends (finished_by w e)
finished_tends w e tend =
    happened w.queues w.kicks w.questions w.backend (Done e) (λ i. end_keep i w.backend e) tend

pub mapped_tends : (w : BlockBackend) (is : Bool) → Tends w → Tends (mapped w is)
mapped_tends w is tend = go w.ask is
  where
    go : (a : Ask) (is : Bool) → Tends (mapped_at w a is)
    go (ask.Region number) true = tend
    go (ask.Region number) false = finished_tends w finish.Failed tend
    go ask.Nothing is = tend
    go ask.First is = tend
    go (ask.Mapped number) is = tend
    go ask.Answer is = tend

channel_tends : (w : BlockBackend) (x : Wanted) → Tends w → Tends (with_channel w x)
channel_tends w (wanted.Descriptor purpose.Channel is) tend =
    all_kicked w.queues w.kicks w.questions (lost w.questions) w.backend refl tend
channel_tends w (wanted.Descriptor (purpose.Kick n) is) tend = tend
channel_tends w (wanted.Descriptor (purpose.Call n) is) tend = tend
channel_tends w (wanted.Descriptor (purpose.Error n) is) tend = tend
channel_tends w (wanted.Descriptor purpose.LogCall is) tend = tend
channel_tends w wanted.Nothing tend = tend
channel_tends w wanted.Memory tend = tend
channel_tends w (wanted.Log size offset) tend = tend
channel_tends w (wanted.File asked) tend = tend
channel_tends w (wanted.Region size offset) tend = tend
channel_tends w (wanted.Base ring) tend = tend
channel_tends w wanted.Table tend = tend
channel_tends w wanted.Finish tend = tend

pub answered_tends : (w : BlockBackend) (is : Bool) → Tends w → Tends (answered w is)
answered_tends w is tend = go w.ask is
  where
    go : (a : Ask) (is : Bool) → Tends (answered_at w a is)
    go ask.Answer true =
        let x = wanted_at w.backend.taken in
        let v : BlockBackend = record w { called = called_by w.called x } in
        finished_tends (with_channel v x) finish.Done (channel_tends v x tend)
    go ask.Answer false = finished_tends w finish.Failed tend
    go ask.Nothing is = tend
    go ask.First is = tend
    go (ask.Mapped number) is = tend
    go (ask.Region number) is = tend

pub resized_tends : (w : BlockBackend) (sectors : ℕ) → Tends w → Tends (resized w sectors)
resized_tends w sectors tend =
    let x = reconfigures 0 (to_le_bytes w64 sectors) in
    tends_by w.queues w.queues w.kicks w.kicks w.questions w.questions w.backend (resized w sectors).backend tend
    (reached_more w.backend x tend.reached) (same_count w.backend x) refl refl refl (λ i waits. waits)
    (λ i waits is. subst (λ (rs : List RingState). IsTended w.questions w.kicks (slice_get rs i) i)
    (sym (ap (λ s. s.rings) (config_rings w.backend 0 (to_le_bytes w64 sectors)))) is)

-- ---- steps without memory

messaged_tends : (w : BlockBackend) (o : Outcome) → Tends w → Tends (messaged w o)
messaged_tends w outcome.Stays tend = tend
messaged_tends w outcome.Begins tend = tend
messaged_tends w (outcome.Refused e h) tend =
    hung_up_tends (record w { reply = refused w.backend.connection h }) (why.Refused e) tend

-- a message that asks for the base of a ring stopped it
base_request : (r : FrontendReq) (i : ℕ) → wanted_of r ≡ wanted.Base i → stopped_ring r ≡ Some i
base_request (req.GetVringBase index) i is = let same : index ≡ i = cc in ap (λ (n : ℕ). Some n) same
base_request req.GetFeatures i is = absurd (cc)
base_request (req.SetFeatures features) i is = absurd (cc)
base_request req.SetOwner i is = absurd (cc)
base_request req.ResetOwner i is = absurd (cc)
base_request (req.SetMemTable table) i is = absurd (cc)
base_request (req.SetLogBase size offset) i is = absurd (cc)
base_request req.SetLogFd i is = absurd (cc)
base_request (req.SetVringNum index num) i is = absurd (cc)
base_request (req.SetVringAddr address) i is = absurd (cc)
base_request (req.SetVringBase index base) i is = absurd (cc)
base_request (req.SetVringKick index descriptor) i is = absurd (cc)
base_request (req.SetVringCall index descriptor) i is = absurd (cc)
base_request (req.SetVringErr index descriptor) i is = absurd (cc)
base_request req.GetProtocolFeatures i is = absurd (cc)
base_request (req.SetProtocolFeatures features) i is = absurd (cc)
base_request req.GetQueueNum i is = absurd (cc)
base_request (req.SetVringEnable index enable) i is = absurd (cc)
base_request req.SetBackendReqFd i is = absurd (cc)
base_request (req.IotlbMsg message) i is = absurd (cc)
base_request (req.GetConfig space) i is = absurd (cc)
base_request (req.SetConfig space) i is = absurd (cc)
base_request (req.GetInflightFd region) i is = absurd (cc)
base_request (req.SetInflightFd region) i is = absurd (cc)

base_looked : (b : BackendState) (i : ℕ) → FitsIn b → wanted_at b.taken ≡ wanted.Base i → i < length b.rings.rings
    → IsSomeAnd (slice_get b.rings.rings i) (λ r. is_looked_at r ≡ true)
base_looked b i fits = go b.taken fits
  where
    or_true : (v : Bool) → (v || true) ≡ true
    or_true true = refl
    or_true false = refl

    go : (t : Taken) → Fits t b.rings → wanted_at t ≡ wanted.Base i → i < length b.rings.rings
        → IsSomeAnd (slice_get b.rings.rings i) (λ r. is_looked_at r ≡ true)
    go taken.Nothing fits is inside = absurd (cc)
    go taken.Over fits is inside = absurd (cc)
    go (taken.Waits h request until) fits is inside = absurd (cc)
    go (taken.Begun h request) fits is inside =
        let (r, there, rests) = fits.2 i (base_request request i is) inside in
        subst (λ (o : Option RingState). IsSomeAnd o (λ r. is_looked_at r ≡ true)) (sym there)
        (ap (λ p. r.kicked || not (is_on p)) rests.0 ∙ or_true r.kicked)

based_tends : (w : BlockBackend) (i : ℕ) → wanted_at w.backend.taken ≡ wanted.Base i → Tends w
    → Tends (record w {
      queues = (based w.queues i (slice_get w.queues i)).0;
      questions = stale w.questions i;
    })
based_tends w i is tend = go (slice_get w.queues i) refl
  where
    looked_here : (p : BlockQueueState) → slice_get w.queues i ≡ Some p
        → IsSomeAnd (slice_get w.backend.rings.rings i) (λ r. is_looked_at r ≡ true)
    looked_here p found = base_looked w.backend i (reached_fits w.backend tend.reached) is
        (omega (arith, slice_get_within w.queues i p found, tend.rings))

    go : (o : Option BlockQueueState) → slice_get w.queues i ≡ o
        → AreTended (based w.queues i o).0 w.kicks (stale w.questions i) w.backend
    go None found = stale_tends w i (ap awaited found) tend
    go (Some p) found = left (is_set_up p.queue) refl
      where
        left : (v : Bool) → is_set_up p.queue ≡ v
            → AreTended (slice_set w.queues i (base_left p).0) w.kicks (stale w.questions i) w.backend
        left v set = unasked (slice_set w.queues i (base_left p).0) w.kicks w.questions w.backend i
            (λ waits. looked_here p found)
            (queue_set w.queues w.kicks w.questions w.backend i p (base_left p).0 found (only v set) tend)
          where
            only : (v : Bool) → is_set_up p.queue ≡ v → is_some (waited_for (base_left p).0.reach.fetch) ≡ true
                → is_some (waited_for p.reach.fetch) ≡ true
            only true set waits = let bad : false ≡ true = rw set at waits in absurd (cc)
            only false set waits = rw set at waits

first_tends : (w : BlockBackend) (x : Wanted) → wanted_at w.backend.taken ≡ x → Tends w → Tends (asked_first_by w x).0
first_tends w wanted.Nothing is tend = tend
first_tends w wanted.Memory is tend = tend
first_tends w (wanted.Log size offset) is tend = tend
first_tends w (wanted.File asked) is tend = tend
first_tends w (wanted.Region size offset) is tend = tend
first_tends w (wanted.Descriptor p there) is tend = tend
first_tends w (wanted.Base i) is tend =
    let t = based w.queues i (slice_get w.queues i) in
    finished_tends (record w { queues = t.0; questions = stale w.questions i }) t.1 (based_tends w i is tend)
first_tends w wanted.Table is tend = tend
first_tends w wanted.Finish is tend = finished_tends w finish.Done tend

more_tends : (w : BlockBackend) (number : ℕ) (m : Option Mapping) → Tends w → Tends (asked_more_by w number m).0
more_tends w number None tend = tend
more_tends w number (Some UnmapAll) tend = tend
more_tends w number (Some (Map region descriptor)) tend = tend

counted_tends : (w : BlockBackend) (n : ℕ) → Tends w → Tends (counted w n)
counted_tends w n tend = go (nat_lt w.limits.unread n)
  where
    go : (v : Bool) → Tends (if v then hung_up (record w { unread = n }) why.Unread else record w { unread = n })
    go true = hung_up_tends (record w { unread = n }) why.Unread tend
    go false = tend

-- a MISS that is sent is without a reply
due_tends : (w : BlockBackend) (t : QuestionsState × Option Miss) → taken_due w.questions ≡ t → Tends w
    → Tends (asked_due w t).0
due_tends w (q, o) is tend = by o
  where
    sent : AreTended w.queues w.kicks q w.backend
    sent = asked_else w.queues w.kicks w.questions q w.backend
        (sym (ap (λ (t : QuestionsState × Option Miss). t.0.rings) is) ∙ sent_rings w.questions)
        (λ i waits has. sym (ap (λ (t : QuestionsState × Option Miss). has_miss t.0.sent t.0.due i) is)
        ∙ sent_still w.questions i has) tend

    by : (o : Option Miss) → Tends (asked_due w (q, o)).0
    by (Some miss) = sent
    by None = sent

ended_tends : (w : BlockBackend) (o : Option Why) → Tends w → Tends (ended_by w o).0
ended_tends w (Some y) tend = tend
ended_tends w None tend = go (may_ask w)
  where
    go : (v : Bool) → Tends (if v then asked_next w else (w, made.Idle)).0
    go true = due_tends w (taken_due w.questions) refl tend
    go false = tend

called_tends : (w : BlockBackend) (o : Option ℕ) → Tends w → Tends (called_up w o).0
called_tends w (Some i) tend = tend
called_tends w None tend = ended_tends w w.end tend

last_tends : (w : BlockBackend) → Tends w → Tends (said_last w).0
last_tends w tend = go (length w.reply == 0)
  where
    go : (v : Bool) → Tends (if v then called_up w w.called else replied w).0
    go true = called_tends w w.called tend
    go false = counted_tends w (capped (w.unread + length w.reply)) tend

asked_tends : (w : BlockBackend) (a : Ask) → Tends w → Tends (asked_by w a).0
asked_tends w ask.First tend = first_tends w (wanted_at w.backend.taken) refl tend
asked_tends w (ask.Mapped number) tend = more_tends w number (mapping_at w.backend.taken number) tend
asked_tends w ask.Nothing tend = last_tends w tend
asked_tends w ask.Answer tend = last_tends w tend
asked_tends w (ask.Region number) tend = last_tends w tend

broke_tends : (w : BlockBackend) (v : Bool) → Tends w → Tends (broke_if w v).0
broke_tends w true tend = told_tends (record w { broken = false }) (event.Ring w.todo.ring Break) (λ i. refl) tend
broke_tends w false tend = asked_tends w w.ask tend

on_tends : (w : BlockBackend) (o : Outcome) → Tends w → Tends (stepped_on_by w o).0
on_tends w outcome.Stays tend = broke_tends w w.broken tend
on_tends w outcome.Begins tend = tend
on_tends w (outcome.Refused e h) tend =
    messaged_tends (record w { todo = record w.todo { message = outcome.Stays } }) (outcome.Refused e h) tend

-- ---- places

reach_tends : (w : BlockBackend) (r : Reached) → Tends w → Tends (after_reach w r)
reach_tends w reached.Fine tend = tend
reach_tends w reached.Broken tend = tend

began_waits : (p : BlockQueueState) (made : Result AnyQueue QueueError) (log : Option ℕ) (part : Option FlightPlace)
    → is_some (waited_for (began p made log part).0.reach.fetch) ≡ true → is_some (waited_for p.reach.fetch) ≡ true
began_waits p (Ok queue) log part waits = absurd (cc)
began_waits p (Err e) log part waits = waits

went_on_waits : (p : BlockQueueState) (made : Result AnyQueue QueueError) (log : Option ℕ)
    → is_some (waited_for (went_on p made log).0.reach.fetch) ≡ true → is_some (waited_for p.reach.fetch) ≡ true
went_on_waits p (Err e) log waits = waits
went_on_waits p (Ok queue) log waits = go (is_same_place p.queue queue && same_log p.reach.log log) waits
  where
    go : (v : Bool) → is_some (waited_for (if v then p.reach else moved_to p.reach log).fetch) ≡ true
        → is_some (waited_for p.reach.fetch) ≡ true
    go true waits = waits
    go false waits = absurd (cc)

set_up_waits : (p : BlockQueueState) (max_size : ℕ) (vring : RunningVring) (features : ℕ) (part : Option FlightPlace) (fresh : Bool)
    → is_some (waited_for (set_up p max_size vring features part fresh).0.reach.fetch) ≡ true
    → is_some (waited_for p.reach.fetch) ≡ true
set_up_waits p max_size vring features part true waits =
    began_waits p (fresh_queue max_size vring features) (log_of vring features) part waits
set_up_waits p max_size vring features part false waits = go (not (is_set_up p.queue) || stays_at p vring log) waits
  where
    log : Option ℕ
    log = log_of vring features

    go : (v : Bool) → (let t : BlockQueueState × Reached = if v then (p, reached.Fine)
        else went_on p (moved_queue p.queue vring) log in is_some (waited_for t.0.reach.fetch) ≡ true)
        → is_some (waited_for p.reach.fetch) ≡ true
    go true waits = waits
    go false waits = went_on_waits p (moved_queue p.queue vring) log waits

places_tend : (w : BlockBackend) (v : Result RunningVring NotRunning) (fresh : Bool) → Tends w → Tends (placed_by w v fresh)
places_tend w (Err e) fresh tend = tend
places_tend w (Ok vring) fresh tend =
    let features = w.backend.connection.features in
    let t = set_up_at w.queues w.todo.ring w.max_size vring features part fresh (slice_get w.queues w.todo.ring) in
    reach_tends (record w { queues = t.0 }) t.1 (go (slice_get w.queues w.todo.ring) refl)
  where
    part : Option FlightPlace
    part = part_for w.backend.connection.features w.todo.ring w.backend.connection.inflight

    go : (o : Option BlockQueueState) → slice_get w.queues w.todo.ring ≡ o
        → AreTended (set_up_at w.queues w.todo.ring w.max_size vring w.backend.connection.features part fresh o).0 w.kicks
        w.questions w.backend
    go None found = tend
    go (Some p) found = queue_set w.queues w.kicks w.questions w.backend w.todo.ring p
        (set_up p w.max_size vring w.backend.connection.features part fresh).0 found
        (set_up_waits p w.max_size vring w.backend.connection.features part fresh) tend

freed_tends : (w : BlockBackend) (i : ℕ) (before after : Option (ℕ × Permissions)) → awaited (slice_get w.queues i) ≡ after
    → Tends w → Tends (freed_by w i before after)
freed_tends w i None after is tend = tend
freed_tends w i (Some t) None is tend =
    let v : BlockBackend = record w { kicks = slice_set w.kicks i true } in
    stale_tends v i is (kicked_more w.queues w.kicks w.questions w.backend true i tend)
freed_tends w i (Some t) (Some u) is tend = tend

-- ---- steps on memory

-- a queue changes, and what is fetched for its ring does not
module _ {H T : Type 0} (w : BlockBackend) (qs : List BlockQueueState) (i : ℕ) (none : T) (old : H) (r : T) (new : H)
    (P : BlockQueueState → T → BlockQueueState → Type 0) (with : WithQueue w.queues i none old r qs new P) where
  with_tends : ((p p' : BlockQueueState) → P p r p' → p'.reach ≡ p.reach) → Tends w
      → AreTended qs w.kicks w.questions w.backend
  with_tends same tend = go (slice_get w.queues i) refl with
    where
      go : (o : Option BlockQueueState) → slice_get w.queues i ≡ o
          → MatchOption o ((r ≡ none) × (qs ≡ w.queues) × (new ≡ old))
          (λ p. (p' : BlockQueueState) × P p r p' × (qs ≡ slice_set w.queues i p'))
          → AreTended qs w.kicks w.questions w.backend
      go None found (nil, is, still) =
          subst (λ (l : List BlockQueueState). AreTended l w.kicks w.questions w.backend) (sym is) tend
      go (Some p) found (p', made, is) =
          subst (λ (l : List BlockQueueState). AreTended l w.kicks w.questions w.backend) (sym is)
          (queue_set w.queues w.kicks w.questions w.backend i p p' found
          (λ waits. sym (ap (λ l. is_some (waited_for l.fetch)) (same p p' made)) ∙ waits) tend)

ended_with_tends : (w : BlockBackend) (i : ℕ) (chain : Chain) (r : Finished) → Tends w → Tends (ended_with w i chain r)
ended_with_tends w i chain (finished.Done len) tend = tend
ended_with_tends w i chain finished.Forgotten tend = hung_up_tends w why.Memory tend
ended_with_tends w i chain finished.NotUnderWay tend = tend

module _ {H : Type 0} (step : H → (s : MemoryStep) → Returned s → H → Type 0) where
  finish_reach : (q : BlockQueueState) (chain : Chain) (moved : ℕ) (failed : Bool) (old : H) (r : Finished)
      (q' : BlockQueueState) (new : H) → FinishesRequest step q chain moved failed old r q' new → q'.reach ≡ q.reach
  finish_reach q chain moved failed old r q' new = go (asked_at q chain.id)
    where
      wrote : (asked : Asked) (mid : H) (n : Result ℕ GuestMemoryError) → MatchResult n
          (λ n. (r ≡ finished.Done (len_left asked n)) × (q' ≡ q) × Marks step (chain_marks asked.chain) mid new)
          (λ e. (r ≡ finished.Forgotten) × (q' ≡ with_asked q chain.id None) × (new ≡ mid)) → q'.reach ≡ q.reach
      wrote asked mid (Ok n) (is, same, marks) = ap (λ (v : BlockQueueState). v.reach) same
      wrote asked mid (Err e) (is, gone, still) = ap (λ (v : BlockQueueState). v.reach) gone

      go : (o : Option Asked) → MatchOption o ((r ≡ finished.NotUnderWay) × (q' ≡ q) × (new ≡ old))
          (λ asked. (n : Result ℕ GuestMemoryError) × (mid : H) × step old (finishes asked.chain
          (status_of asked.request failed) (written_of asked.request moved)) n mid
          × MatchResult n
          (λ n. (r ≡ finished.Done (len_left asked n)) × (q' ≡ q) × Marks step (chain_marks asked.chain) mid new)
          (λ e. (r ≡ finished.Forgotten) × (q' ≡ with_asked q chain.id None) × (new ≡ mid))) → q'.reach ≡ q.reach
      go None (is, same, still) = ap (λ (v : BlockQueueState). v.reach) same
      go (Some asked) (n, mid, steps, p) = wrote asked mid n p

  acts_tend : (w : BlockBackend) (i : ℕ) (a : RingAction) (old : H) (m : Made) (w' : BlockBackend) (new : H)
      → Acts step w i a old m w' new → Tends w → Tends w'
  acts_tend w i action.Pop old m w' new p tend = subst Tends (sym p.0) tend
  acts_tend w i (action.Serve id n) old m w' new p tend = subst Tends (sym p.0) tend
  acts_tend w i (action.Return chain moved failed) old m w' new (r, qs, with, is, made) tend = subst Tends (sym is)
      (ended_with_tends (record w { queues = qs }) i chain r
      (with_tends w qs i finished.NotUnderWay old r new (Finishes step chain moved failed old new) with
      (λ p p' made. finish_reach p chain moved failed old r p' new made) tend))
  acts_tend w i action.Notify old m w' new (r, qs, with, is, made) tend = subst Tends (sym is)
      (with_tends w qs i (Ok false) old r new (Asks step old new) with
      (λ p p' made. ap (λ (v : BlockQueueState). v.reach) made.1) tend)
  acts_tend w i action.Broke old m w' new p tend = subst Tends (sym p.0) tend
  acts_tend w i action.Stopped old m w' new p tend = subst Tends (sym p.0) tend

  gives_tend : (w : BlockBackend) (t : Returning) (old : H) (w' : BlockBackend) (new : H)
      → GivesBackAt step (record w { returning = None }) t old w' new → Tends w → Tends w'
  gives_tend w t old w' new (r, qs, with, is) tend = subst Tends (sym is)
      (reach_tends (record w { returning = None; queues = qs }) r
      (with_tends (record w { returning = None }) qs t.ring reached.Fine old r new (Gives step t.chain t.len old new) with
      (λ p p' made. (gives_asked step p t.chain t.len old made.0 p' new made.1).1) tend))

  pub steps_tend : (w : BlockBackend) (old : H) (m : Made) (w' : BlockBackend) (new : H) → Steps step w old m w' new
      → Tends w → Tends w'
  steps_tend w old m w' new steps tend = from w.todo.place steps
    where
      first : (o : Option RingAction) (acts : List RingAction)
          → ActsFirst step (record w { todo = record w.todo { actions = acts } }) o old m w' new → Tends w'
      first None acts (is, still) =
          let v : BlockBackend = record w { todo = record w.todo { actions = acts } } in
          subst Tends (sym (ap (λ (t : BlockBackend × Made). t.0) is)) (on_tends v v.todo.message tend)
      first (Some a) acts p =
          acts_tend (record w { todo = record w.todo { actions = acts } }) w.todo.ring a old m w' new p tend

      returns : (o : Option Returning) → Returns step w o old m w' new → Tends w'
      returns None p = first (slice_get w.todo.actions 0) (drop 1 w.todo.actions) p
      returns (Some t) (gives, made) = gives_tend w t old w' new gives tend

      from : (o : Option Place) → StepsFrom step w o old m w' new → Tends w'
      from None p = returns w.returning p
      from (Some place) p =
          let v : BlockBackend = record w { todo = record w.todo { place = None } } in
          let v' = placed_by v place.vring place.fresh in
          subst Tends (sym p.0) (freed_tends v' v.todo.ring (awaited (slice_get v.queues v.todo.ring))
          (awaited (slice_get v'.queues v.todo.ring)) refl (places_tend v place.vring place.fresh tend))
