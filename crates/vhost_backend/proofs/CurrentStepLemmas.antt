-- A step keeps and fetches nothing, and no request begins by it.
use Rattle.std.proofs.Common.{◌≡◌, ℕ, ◌+◌, ◌==◌, ◌||◌, ◌&&◌, not, nat_lt, Bool, true, false, List, length, drop, Option, Some, None, Result, Ok, Err, MatchOption, MatchResult, if◌then◌else◌, refl, ap, sym, subst}
use Rattle.std.specs.List.{slice_get, slice_set}
use Rattle.vm_memory_base.specs.declared.iotlb.Permissions.{Permissions}
use Rattle.vm_memory_guest.specs.declared.region.error.GuestMemoryError.{GuestMemoryError}
use Rattle.virtio_queue.specs.declared.any.AnyQueue.{AnyQueue}
use Rattle.virtio_queue.specs.declared.error.QueueError.{QueueError}
use Rattle.vhost_user.specs.Reply.{refused}
use Rattle.vhost_user.specs.declared.vring.NotRunning.{NotRunning}
use Rattle.vhost_user.specs.declared.vring.RunningVring.{RunningVring}
use Rattle.vhost_backend.proofs.FlightLemmas.{gives_asked}
use Rattle.vhost_backend.proofs.ChannelLemmas.{on_channel}
use Rattle.vhost_backend.proofs.StandLemmas.{AllLess, AskedLess, QueueLess, alike, all_itself, all_same, all_then, forgot_asked, less_as, queue_itself, set_less, unasked}
use Rattle.vhost_backend.specs.declared.flight.FlightPlace.{FlightPlace}
use Rattle.vhost_backend.specs.Backend.{is_over, mapping_at, over}
use Rattle.vhost_backend.specs.Block.{status_of, written_of}
use Rattle.vhost_backend.specs.BlockBackend.{Acts, ActsFirst, GivesBackAt, Returns, Steps, StepsFrom, after_reach, asked_by, asked_first_by, asked_more_by, broke_if, called_up, counted, ended_by, ended_with, hung_up, messaged, placed_by, replied, said_last, stepped_on_by}
use Rattle.vhost_backend.specs.BlockTable.{freed_by}
use Rattle.vhost_backend.specs.BlockQueue.{BlockQueueState, FinishesRequest, asked_at, len_left, moved, unset, with_asked}
use Rattle.vhost_backend.specs.BlockQueues.{Asks, Finishes, Gives, WithQueue, base_left, based, began, set_up, set_up_at, stays_at, went_on}
use Rattle.vhost_backend.specs.Fetch.{is_same_place}
use Rattle.vhost_backend.specs.Marks.{Marks, chain_marks}
use Rattle.vhost_backend.specs.PageList.{capped}
use Rattle.vhost_backend.specs.Reach.{moved_to, same_log}
use Rattle.vhost_backend.specs.RingMemory.{MemoryStep, Returned, finishes}
use Rattle.vhost_backend.specs.SetUp.{base_of, fresh_queue, is_set_up, log_of, moved_queue, part_for}
use Rattle.vhost_backend.specs.TableUse.{awaited}
use Rattle.vhost_backend.specs.Wanted.{wanted_at}
use Rattle.vhost_backend.specs.declared.backend.Finish.{Finish}
use Rattle.vhost_backend.specs.declared.backend.Finish.TheVariants as finish
use Rattle.vhost_backend.specs.declared.backend.Outcome.{Outcome}
use Rattle.vhost_backend.specs.declared.backend.Outcome.TheVariants as outcome
use Rattle.vhost_backend.specs.declared.backend.Place.{Place}
use Rattle.vhost_backend.specs.declared.block_backend.BlockBackend.{BlockBackend}
use Rattle.vhost_backend.specs.declared.block_backend.Returning.{Returning}
use Rattle.vhost_backend.specs.declared.block_queue.Asked.{Asked}
use Rattle.vhost_backend.specs.declared.block_queue.Finished.{Finished}
use Rattle.vhost_backend.specs.declared.block_queue.Finished.TheVariants as finished
use Rattle.vhost_backend.specs.declared.block_queues.Reached.{Reached}
use Rattle.vhost_backend.specs.declared.block_queues.Reached.TheVariants as reached
use Rattle.vhost_backend.specs.declared.deeds.Ask.{Ask}
use Rattle.vhost_backend.specs.declared.deeds.Ask.TheVariants as ask
use Rattle.vhost_backend.specs.declared.deeds.Made.{Made}
use Rattle.vhost_backend.specs.declared.deeds.Why.{Why}
use Rattle.vhost_backend.specs.declared.deeds.Why.TheVariants as why
use Rattle.vhost_backend.specs.declared.mapping.Mapping.{Mapping}
use Rattle.vhost_backend.specs.declared.mapping.Mapping.TheVariants.{Map, UnmapAll}
use Rattle.vhost_backend.specs.declared.request.Chain.{Chain}
use Rattle.vhost_backend.specs.declared.ring.actions.RingAction.{RingAction}
use Rattle.vhost_backend.specs.declared.ring.actions.RingAction.TheVariants as action
use Rattle.vhost_backend.specs.declared.wanted.Wanted.{Wanted}
use Rattle.vhost_backend.specs.declared.wanted.Wanted.TheVariants as wanted

-- ---- without memory

pub hung_up_queues : (w : BlockBackend) (y : Why) → (hung_up w y).queues ≡ w.queues
hung_up_queues w y = go (is_over w.backend.taken)
  where
    go : (v : Bool) → (if v then record w { ask = ask.Nothing }
        else record w { ask = ask.Nothing; backend = over w.backend; end = Some y }).queues ≡ w.queues
    go true = refl
    go false = refl

base_less : (q : BlockQueueState) → QueueLess q (base_left q).0
base_less q = go (is_set_up q.queue)
  where
    go : (v : Bool) → (let t : BlockQueueState × Finish = if v then (unset q, finish.At (base_of q.queue))
        else (q, finish.Done) in QueueLess q t.0)
    go true = record { pages = refl; rows = refl; fetch = tt; asked = unasked q.asked }
    go false = queue_itself q

based_less : (qs : List BlockQueueState) (ring : ℕ) → AllLess qs (based qs ring (slice_get qs ring)).0
based_less qs ring = go (slice_get qs ring) refl
  where
    go : (o : Option BlockQueueState) → slice_get qs ring ≡ o → AllLess qs (based qs ring o).0
    go None found = all_itself qs
    go (Some q) found = set_less qs ring q (base_left q).0 found (base_less q)

-- a ring lies elsewhere: what is kept for it is forgotten later
moves : (q : BlockQueueState) (queue : AnyQueue) (log : Option ℕ) → QueueLess q (moved q queue log)
moves q queue log = go (is_same_place q.queue queue && same_log q.reach.log log)
  where
    go : (v : Bool) → QueueLess q
        (record q { queue = queue; reach = if v then q.reach else moved_to q.reach log })
    go true = alike q _ refl (unasked q.asked)
    go false = record { pages = refl; rows = refl; fetch = tt; asked = unasked q.asked }

began_less : (q : BlockQueueState) (made : Result AnyQueue QueueError) (log : Option ℕ) (part : Option FlightPlace)
    → QueueLess q (began q made log part).0
began_less q (Ok queue) log part = record { pages = refl; rows = refl; fetch = tt; asked = unasked q.asked }
began_less q (Err e) log part = queue_itself q

went_on_less : (q : BlockQueueState) (made : Result AnyQueue QueueError) (log : Option ℕ)
    → QueueLess q (went_on q made log).0
went_on_less q (Ok queue) log = moves q queue log
went_on_less q (Err e) log = queue_itself q

set_up_less : (q : BlockQueueState) (max_size : ℕ) (vring : RunningVring) (features : ℕ) (part : Option FlightPlace) (fresh : Bool)
    → QueueLess q (set_up q max_size vring features part fresh).0
set_up_less q max_size vring features part true =
    began_less q (fresh_queue max_size vring features) (log_of vring features) part
set_up_less q max_size vring features part false = go (not (is_set_up q.queue) || stays_at q vring (log_of vring features))
  where
    go : (v : Bool) → (let t : BlockQueueState × Reached = if v then (q, reached.Fine)
        else went_on q (moved_queue q.queue vring) (log_of vring features) in QueueLess q t.0)
    go true = queue_itself q
    go false = went_on_less q (moved_queue q.queue vring) (log_of vring features)

set_up_all : (qs : List BlockQueueState) (ring max_size : ℕ) (vring : RunningVring) (features : ℕ) (part : Option FlightPlace) (fresh : Bool)
    → AllLess qs (set_up_at qs ring max_size vring features part fresh (slice_get qs ring)).0
set_up_all qs ring max_size vring features part fresh = go (slice_get qs ring) refl
  where
    go : (o : Option BlockQueueState) → slice_get qs ring ≡ o
        → AllLess qs (set_up_at qs ring max_size vring features part fresh o).0
    go None found = all_itself qs
    go (Some q) found = set_less qs ring q (set_up q max_size vring features part fresh).0 found
        (set_up_less q max_size vring features part fresh)

-- ---- what leaves queues with no more than these

module _ (qs : List BlockQueueState) where
  abbrev Few : BlockBackend → Type 0
  Few w = AllLess qs w.queues

  same : (w v : BlockBackend) → v.queues ≡ w.queues → Few w → Few v
  same w v is few = subst (AllLess qs) (sym is) few

  ends : (w : BlockBackend) (y : Why) → Few w → Few (hung_up w y)
  ends w y few = same w (hung_up w y) (hung_up_queues w y) few

  says : (w : BlockBackend) (o : Outcome) → Few w → Few (messaged w o)
  says w outcome.Stays few = few
  says w outcome.Begins few = few
  says w (outcome.Refused e h) few =
      ends (record w { reply = refused w.backend.connection h }) (why.Refused e) few

  first : (w : BlockBackend) (x : Wanted) → Few w → Few (asked_first_by w x).0
  first w wanted.Nothing few = few
  first w wanted.Memory few = few
  first w (wanted.Log size offset) few = few
  first w (wanted.File asked) few = few
  first w (wanted.Region size offset) few = few
  first w (wanted.Descriptor purpose is) few = few
  first w (wanted.Base ring) few =
      all_then qs w.queues (based w.queues ring (slice_get w.queues ring)).0 few (based_less w.queues ring)
  first w wanted.Table few = few
  first w wanted.Finish few = few

  others : (w : BlockBackend) (number : ℕ) (m : Option Mapping) → Few w → Few (asked_more_by w number m).0
  others w number None few = few
  others w number (Some UnmapAll) few = few
  others w number (Some (Map region descriptor)) few = few

  counts : (w : BlockBackend) (n : ℕ) → Few w → Few (counted w n)
  counts w n few = go (nat_lt w.limits.unread n)
    where
      go : (v : Bool) → Few (if v then hung_up (record w { unread = n }) why.Unread else record w { unread = n })
      go true = ends (record w { unread = n }) why.Unread few
      go false = few

  tells : (w : BlockBackend) (o : Option Why) → Few w → Few (ended_by w o).0
  tells w None few = on_channel w (λ t. Few t.0) (λ is. few) (λ q d. few) (λ q. few)
  tells w (Some y) few = few

  calls : (w : BlockBackend) (o : Option ℕ) → Few w → Few (called_up w o).0
  calls w (Some ring) few = few
  calls w None few = tells w w.end few

  lasts : (w : BlockBackend) → Few w → Few (said_last w).0
  lasts w few = go (length w.reply == 0)
    where
      go : (v : Bool) → Few (if v then called_up w w.called else replied w).0
      go true = calls w w.called few
      go false = counts w (capped (w.unread + length w.reply)) few

  asks : (w : BlockBackend) (a : Ask) → Few w → Few (asked_by w a).0
  asks w ask.First few = first w (wanted_at w.backend.taken) few
  asks w (ask.Mapped number) few = others w number (mapping_at w.backend.taken number) few
  asks w ask.Nothing few = lasts w few
  asks w ask.Answer few = lasts w few
  asks w (ask.Region number) few = lasts w few

  breaks : (w : BlockBackend) (v : Bool) → Few w → Few (broke_if w v).0
  breaks w true few = few
  breaks w false few = asks w w.ask few

  goes_on : (w : BlockBackend) (o : Outcome) → Few w → Few (stepped_on_by w o).0
  goes_on w outcome.Stays few = breaks w w.broken few
  goes_on w outcome.Begins few = few
  goes_on w (outcome.Refused e h) few =
      says (record w { todo = record w.todo { message = outcome.Stays } }) (outcome.Refused e h) few

  reach : (w : BlockBackend) (r : Reached) → Few w → Few (after_reach w r)
  reach w reached.Fine few = few
  reach w reached.Broken few = few

  ended : (w : BlockBackend) (ring : ℕ) (chain : Chain) (r : Finished) → Few w → Few (ended_with w ring chain r)
  ended w ring chain (finished.Done len) few = few
  ended w ring chain finished.Forgotten few = ends w why.Memory few
  ended w ring chain finished.NotUnderWay few = few

  placed : (w : BlockBackend) (v : Result RunningVring NotRunning) (fresh : Bool) → Few w → Few (placed_by w v fresh)
  placed w (Err e) fresh few = few
  placed w (Ok vring) fresh few =
      let features = w.backend.connection.features in
      let part = part_for features w.todo.ring w.backend.connection.inflight in
      let t = set_up_at w.queues w.todo.ring w.max_size vring features part fresh (slice_get w.queues w.todo.ring) in
      reach (record w { queues = t.0 }) t.1 (all_then qs w.queues t.0 few
      (set_up_all w.queues w.todo.ring w.max_size vring features part fresh))

  freed : (w : BlockBackend) (ring : ℕ) (before after : Option (ℕ × Permissions)) → Few w
      → Few (freed_by w ring before after)
  freed w ring None after few = few
  freed w ring (Some t) None few = few
  freed w ring (Some t) (Some u) few = few

-- ---- on memory

module _ {H : Type 0} (step : H → (s : MemoryStep) → Returned s → H → Type 0) where
  queue_less : {T : Type 0} (qs : List BlockQueueState) (ring : ℕ) (none : T) (old : H) (r : T)
      (qs' : List BlockQueueState) (new : H) (P : BlockQueueState → T → BlockQueueState → Type 0)
      → ((q q' : BlockQueueState) → P q r q' → QueueLess q q') → WithQueue qs ring none old r qs' new P → AllLess qs qs'
  queue_less qs ring none old r qs' new P on with = go (slice_get qs ring) refl with
    where
      go : (o : Option BlockQueueState) → slice_get qs ring ≡ o → MatchOption o ((r ≡ none) × (qs' ≡ qs) × (new ≡ old))
          (λ q. (q' : BlockQueueState) × P q r q' × (qs' ≡ slice_set qs ring q')) → AllLess qs qs'
      go None found (was, same, still) = all_same qs qs' same
      go (Some q) found (q', p, set) = subst (AllLess qs) (sym set) (set_less qs ring q q' found (on q q' p))

  finish_less : (q : BlockQueueState) (chain : Chain) (moved : ℕ) (failed : Bool) (old : H) (r : Finished)
      (q' : BlockQueueState) (new : H) → FinishesRequest step q chain moved failed old r q' new → QueueLess q q'
  finish_less q chain moved failed old r q' new = go (asked_at q chain.id)
    where
      wrote : (asked : Asked) (mid : H) (w : Result ℕ GuestMemoryError) → MatchResult w
          (λ n. (r ≡ finished.Done (len_left asked n)) × (q' ≡ q) × Marks step (chain_marks asked.chain) mid new)
          (λ e. (r ≡ finished.Forgotten) × (q' ≡ with_asked q chain.id None) × (new ≡ mid)) → QueueLess q q'
      wrote asked mid (Ok n) (is, same, marks) = less_as q q q' same (queue_itself q)
      wrote asked mid (Err e) (is, gone, still) =
          less_as q _ q' gone (alike q (with_asked q chain.id None) refl (forgot_asked q.asked chain.id))

      go : (o : Option Asked) → MatchOption o ((r ≡ finished.NotUnderWay) × (q' ≡ q) × (new ≡ old))
          (λ asked. (w : Result ℕ GuestMemoryError) × (mid : H) × step old (finishes asked.chain
          (status_of asked.request failed) (written_of asked.request moved)) w mid
          × MatchResult w
          (λ n. (r ≡ finished.Done (len_left asked n)) × (q' ≡ q) × Marks step (chain_marks asked.chain) mid new)
          (λ e. (r ≡ finished.Forgotten) × (q' ≡ with_asked q chain.id None) × (new ≡ mid))) → QueueLess q q'
      go None (is, same, still) = less_as q q q' same (queue_itself q)
      go (Some asked) (w, mid, steps, p) = wrote asked mid w p

  gives_less : (w : BlockBackend) (t : Returning) (old : H) (w' : BlockBackend) (new : H)
      → GivesBackAt step w t old w' new → AllLess w.queues w'.queues
  gives_less w t old w' new (r, qs, with, is) = subst (λ (v : BlockBackend). AllLess w.queues v.queues) (sym is)
      (reach w.queues (record w { queues = qs }) r
      (queue_less w.queues t.ring reached.Fine old r qs new (Gives step t.chain t.len old new)
      (λ q q' p. let (asked, reach) = gives_asked step q t.chain t.len old p.0 q' new p.1 in
      alike q q' reach (subst (AskedLess q.asked) (sym asked) (forgot_asked q.asked t.chain.id))) with))

  acts_less : (w : BlockBackend) (a : RingAction) (old : H) (m : Made) (w' : BlockBackend) (new : H)
      → Acts step w w.todo.ring a old m w' new → AllLess w.queues w'.queues
  acts_less w action.Pop old m w' new (is, made, still) =
      all_same w.queues w'.queues (ap (λ (v : BlockBackend). v.queues) is)
  acts_less w (action.Serve id left) old m w' new (is, made, still) =
      all_same w.queues w'.queues (ap (λ (v : BlockBackend). v.queues) is)
  acts_less w (action.Return chain moved failed) old m w' new (r, qs, with, is, made) =
      subst (λ (v : BlockBackend). AllLess w.queues v.queues) (sym is)
      (ended w.queues (record w { queues = qs }) w.todo.ring chain r
      (queue_less w.queues w.todo.ring finished.NotUnderWay old r qs new (Finishes step chain moved failed old new)
      (λ q q' p. finish_less q chain moved failed old r q' new p) with))
  acts_less w action.Notify old m w' new (r, qs, with, is, made) =
      subst (λ (v : BlockBackend). AllLess w.queues v.queues) (sym is)
      (queue_less w.queues w.todo.ring (Ok false) old r qs new (Asks step old new)
      (λ q q' p. less_as q _ q' p.1 (alike q _ refl (unasked q.asked))) with)
  acts_less w action.Broke old m w' new (is, made, still) =
      all_same w.queues w'.queues (ap (λ (v : BlockBackend). v.queues) is)
  acts_less w action.Stopped old m w' new (is, made, still) =
      all_same w.queues w'.queues (ap (λ (v : BlockBackend). v.queues) is)

  pub steps_less : (w : BlockBackend) (old : H) (m : Made) (w' : BlockBackend) (new : H) → Steps step w old m w' new
      → AllLess w.queues w'.queues
  steps_less w old m w' new steps = from w.todo.place steps
    where
      act : (v : BlockBackend) → v.queues ≡ w.queues → (o : Option RingAction) → ActsFirst step v o old m w' new
          → AllLess w.queues w'.queues
      act v was None (is, still) = subst (λ (u : BlockBackend). AllLess w.queues u.queues) (sym (ap (λ t. t.0) is))
          (goes_on w.queues v v.todo.message (all_same w.queues v.queues was))
      act v was (Some a) p = all_then w.queues v.queues w'.queues (all_same w.queues v.queues was)
          (acts_less v a old m w' new p)

      returns : (o : Option Returning) → Returns step w o old m w' new → AllLess w.queues w'.queues
      returns None p = act (record w { todo = record w.todo { actions = drop 1 w.todo.actions } }) refl
          (slice_get w.todo.actions 0) p
      returns (Some t) (gives, made) = gives_less (record w { returning = None }) t old w' new gives

      from : (o : Option Place) → StepsFrom step w o old m w' new → AllLess w.queues w'.queues
      from None p = returns w.returning p
      from (Some place) p = let v : BlockBackend = record w { todo = record w.todo { place = None } } in
          let v' = placed_by v place.vring place.fresh in
          subst (λ (u : BlockBackend). AllLess w.queues u.queues) (sym p.0)
          (freed w.queues v' v.todo.ring (awaited (slice_get v.queues v.todo.ring))
          (awaited (slice_get v'.queues v.todo.ring))
          (placed w.queues v place.vring place.fresh (all_itself w.queues)))
