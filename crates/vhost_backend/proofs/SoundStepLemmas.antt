-- Each step leaves a back end sound.
use Rattle.std.proofs.Common.{◌≡◌, ◌∙◌, ℕ, ◌+◌, ◌==◌, ◌||◌, not, nat_lt, Bool, true, false, List, [], ◌∷◌, ◌++◌, length, drop, Option, Some, None, is_some, Result, Ok, Err, MatchOption, MatchResult, if◌then◌else◌, refl, ap, sym, subst, arith, length-append}
use Rattle.std.specs.List.{slice_get, slice_set}
use Rattle.std.proofs.lemmas.Bool.{eq-eqb, ne_eqb}
use Rattle.std.proofs.lemmas.List.Elements.{filter-append}
use Rattle.vhost_backend.proofs.FlightLemmas.{gives_asked}
use Rattle.vhost_backend.proofs.ChannelLemmas.{on_channel}
use Rattle.vhost_user.specs.Reply.{refused}
use Rattle.vhost_user.specs.declared.vring.NotRunning.{NotRunning}
use Rattle.vhost_user.specs.declared.vring.RunningVring.{RunningVring}
use Rattle.vm_memory_guest.specs.declared.region.error.GuestMemoryError.{GuestMemoryError}
use Rattle.virtio_queue.specs.declared.any.AnyQueue.{AnyQueue}
use Rattle.virtio_queue.specs.declared.error.QueueError.{QueueError}
use Rattle.vhost_backend.specs.declared.flight.FlightPlace.{FlightPlace}
use Rattle.vhost_backend.specs.Backend.{mapping_at}
use Rattle.vhost_backend.specs.Block.{status_of, written_of}
use Rattle.vm_memory_base.specs.declared.iotlb.Permissions.{Permissions}
use Rattle.vhost_backend.specs.BlockTable.{freed_by}
use Rattle.vhost_backend.specs.TableUse.{awaited}
use Rattle.vhost_backend.specs.BlockBackend.{Acts, ActsFirst, GivesBackAt, Returns, Steps, StepsFrom, asked_by, asked_first_by, asked_more_by, broke_if, called_up, counted, ended_by, ended_with, hung_up, messaged, placed_by, replied, said_last, stepped_on_by}
use Rattle.vhost_backend.specs.BlockQueue.{BlockQueueState, FinishesRequest, asked_at, asked_count, len_left, with_asked}
use Rattle.vhost_backend.specs.BlockQueues.{Asks, Finishes, FinishesAt, Gives, based, began, set_up, set_up_at, stays_at, went_on}
use Rattle.vhost_backend.specs.Marks.{Marks, chain_marks}
use Rattle.vhost_backend.specs.PageList.{capped}
use Rattle.vhost_backend.specs.Questions.{stale}
use Rattle.vhost_backend.specs.Ring.{RingState}
use Rattle.vhost_backend.specs.RingMemory.{MemoryStep, Returned, finishes}
use Rattle.vhost_backend.specs.SetUp.{fresh_queue, is_set_up, log_of, moved_queue, part_for}
use Rattle.vhost_backend.specs.Sound.{IsClear, Sound, SoundAt, ended_chain, pending}
use Rattle.vhost_backend.specs.Story.{chain_of, of_id, returned}
use Rattle.vhost_backend.specs.Wanted.{wanted_at}
use Rattle.vhost_backend.specs.declared.backend.Finish.TheVariants as finish
use Rattle.vhost_backend.specs.declared.backend.Outcome.{Outcome}
use Rattle.vhost_backend.specs.declared.backend.Outcome.TheVariants as outcome
use Rattle.vhost_backend.specs.declared.backend.Place.{Place}
use Rattle.vhost_backend.specs.declared.block_backend.BlockBackend.{BlockBackend}
use Rattle.vhost_backend.specs.declared.block_backend.Returning.{Returning}
use Rattle.vhost_backend.specs.declared.block_queue.Asked.{Asked}
use Rattle.vhost_backend.specs.declared.block_queue.Finished.{Finished}
use Rattle.vhost_backend.specs.declared.block_queue.Finished.TheVariants as finished
use Rattle.vhost_backend.specs.declared.block_queues.Reached.{Reached}
use Rattle.vhost_backend.specs.declared.block_queues.Reached.TheVariants as reached
use Rattle.vhost_backend.specs.declared.deeds.Ask.{Ask}
use Rattle.vhost_backend.specs.declared.deeds.Ask.TheVariants as ask
use Rattle.vhost_backend.specs.declared.deeds.Made.{Made}
use Rattle.vhost_backend.specs.declared.deeds.Why.{Why}
use Rattle.vhost_backend.specs.declared.deeds.Why.TheVariants as why
use Rattle.vhost_backend.specs.declared.mapping.Mapping.{Mapping}
use Rattle.vhost_backend.specs.declared.mapping.Mapping.TheVariants.{Map, UnmapAll}
use Rattle.vhost_backend.specs.declared.request.Chain.{Chain}
use Rattle.vhost_backend.specs.declared.ring.RingEvent.TheVariants.{Break}
use Rattle.vhost_backend.specs.declared.ring.actions.RingAction.{RingAction}
use Rattle.vhost_backend.specs.declared.ring.actions.RingAction.TheVariants as action
use Rattle.vhost_backend.specs.declared.rings.Event.TheVariants as event
use Rattle.vhost_backend.specs.declared.wanted.Wanted.{Wanted}
use Rattle.vhost_backend.specs.declared.wanted.Wanted.TheVariants as wanted
use Rattle.vhost_backend.proofs.SoundLemmas.{SoundOf, based_sound, chains_of, finished_sound, gone_sound, hung_up_sound, kept_sound, reach_sound, same_has, set_sound, told_sound}

-- ---- steps without memory

messaged_sound : (w : BlockBackend) (o : Outcome) → Sound w → Sound (messaged w o)
messaged_sound w outcome.Stays sound = sound
messaged_sound w outcome.Begins sound = sound
messaged_sound w (outcome.Refused e h) sound =
    hung_up_sound (record w { reply = refused w.backend.connection h }) (why.Refused e) sound

first_sound : (w : BlockBackend) (x : Wanted) → Sound w → Sound (asked_first_by w x).0
first_sound w wanted.Nothing sound = sound
first_sound w wanted.Memory sound = sound
first_sound w (wanted.Log size offset) sound = sound
first_sound w (wanted.File asked) sound = sound
first_sound w (wanted.Region size offset) sound = sound
first_sound w (wanted.Descriptor purpose is) sound = sound
first_sound w (wanted.Base ring) sound =
    let t = based w.queues ring (slice_get w.queues ring) in
    finished_sound (record w { queues = t.0; questions = stale w.questions ring }) t.1
    (based_sound w.queues w.backend.rings.rings (pending w) ring sound)
first_sound w wanted.Table sound = sound
first_sound w wanted.Finish sound = finished_sound w finish.Done sound

more_sound : (w : BlockBackend) (number : ℕ) (m : Option Mapping) → Sound w → Sound (asked_more_by w number m).0
more_sound w number None sound = sound
more_sound w number (Some UnmapAll) sound = sound
more_sound w number (Some (Map region descriptor)) sound = sound

counted_sound : (w : BlockBackend) (n : ℕ) → Sound w → Sound (counted w n)
counted_sound w n sound = go (nat_lt w.limits.unread n)
  where
    go : (v : Bool) → Sound (if v then hung_up (record w { unread = n }) why.Unread else record w { unread = n })
    go true = hung_up_sound (record w { unread = n }) why.Unread sound
    go false = sound

ended_sound : (w : BlockBackend) (o : Option Why) → Sound w → Sound (ended_by w o).0
ended_sound w None sound = on_channel w (λ t. Sound t.0) (λ is. sound) (λ q d. sound) (λ q. sound)
ended_sound w (Some y) sound = sound

called_sound : (w : BlockBackend) (o : Option ℕ) → Sound w → Sound (called_up w o).0
called_sound w (Some ring) sound = sound
called_sound w None sound = ended_sound w w.end sound

last_sound : (w : BlockBackend) → Sound w → Sound (said_last w).0
last_sound w sound = go (length w.reply == 0)
  where
    go : (v : Bool) → Sound (if v then called_up w w.called else replied w).0
    go true = called_sound w w.called sound
    go false = counted_sound w (capped (w.unread + length w.reply)) sound

asked_sound : (w : BlockBackend) (a : Ask) → Sound w → Sound (asked_by w a).0
asked_sound w ask.First sound = first_sound w (wanted_at w.backend.taken) sound
asked_sound w (ask.Mapped number) sound = more_sound w number (mapping_at w.backend.taken number) sound
asked_sound w ask.Nothing sound = last_sound w sound
asked_sound w ask.Answer sound = last_sound w sound
asked_sound w (ask.Region number) sound = last_sound w sound

broke_sound : (w : BlockBackend) (v : Bool) → IsClear w → Sound w → Sound (broke_if w v).0
broke_sound w true clear sound = told_sound (record w { broken = false }) (event.Ring w.todo.ring Break) refl clear sound
broke_sound w false clear sound = asked_sound w w.ask sound

on_sound : (w : BlockBackend) (o : Outcome) → IsClear w → Sound w → Sound (stepped_on_by w o).0
on_sound w outcome.Stays clear sound = broke_sound w w.broken clear sound
on_sound w outcome.Begins clear sound = sound
on_sound w (outcome.Refused e h) clear sound =
    messaged_sound (record w { todo = record w.todo { message = outcome.Stays } }) (outcome.Refused e h) sound

-- ---- steps on memory

-- what is done first does not matter to what is returned, unless it is that
quiet_act : (t : Option Returning) (ring : ℕ) (a : RingAction) (rest : List RingAction) (i : ℕ) → chain_of a ≡ None
    → chains_of t ring (a ∷ rest) i ≡ chains_of t ring rest i
quiet_act t ring a rest i none = ap (λ cs. ended_chain i t ++ cs) (go (ring == i))
  where
    go : (b : Bool) → returned (if b then a ∷ rest else []) ≡ returned (if b then rest else [])
    go true = rw none refl
    go false = refl

-- a chain that is to be returned, and one that was
done_act : (ring len moved : ℕ) (chain : Chain) (failed : Bool) (rest : List RingAction) (i : ℕ)
    → chains_of (Some (record { ring = ring; chain = chain; len = len })) ring rest i
    ≡ chains_of None ring (action.Return chain moved failed ∷ rest) i
done_act ring len moved chain failed rest i = go (ring == i)
  where
    go : (b : Bool) → (if b then chain ∷ [] else []) ++ returned (if b then rest else [])
        ≡ returned (if b then action.Return chain moved failed ∷ rest else [])
    go true = refl
    go false = refl

first_act : (ring moved : ℕ) (chain : Chain) (failed : Bool) (rest : List RingAction)
    → chains_of None ring (action.Return chain moved failed ∷ rest) ring ≡ chain ∷ chains_of None ring rest ring
first_act ring moved chain failed rest = rw (eq-eqb ring ring refl) refl

other_act : (t : Option Returning) (ring : ℕ) (acts rest : List RingAction) (i : ℕ) → (i ≡ ring → ⊥)
    → chains_of t ring rest i ≡ chains_of t ring acts i
other_act t ring acts rest i differs =
    let not : (ring == i) ≡ false = ne_eqb ring i (λ same. differs (sym same)) in
    ap (λ b. ended_chain i t ++ returned (if b then rest else [])) not
    ∙ sym (ap (λ b. ended_chain i t ++ returned (if b then acts else [])) not)

first_given : (t : Returning) (ring : ℕ) (acts : List RingAction)
    → chains_of (Some t) ring acts t.ring ≡ t.chain ∷ chains_of None ring acts t.ring
first_given t ring acts = rw (eq-eqb t.ring t.ring refl) refl

other_given : (t : Returning) (ring : ℕ) (acts : List RingAction) (i : ℕ) → (i ≡ t.ring → ⊥)
    → chains_of None ring acts i ≡ chains_of (Some t) ring acts i
other_given t ring acts i differs = rw (ne_eqb t.ring i (λ same. differs (sym same))) refl

began_asked : (q : BlockQueueState) (made : Result AnyQueue QueueError) (log : Option ℕ) (part : Option FlightPlace)
    → (began q made log part).0.asked ≡ q.asked
began_asked q (Ok queue) log part = refl
began_asked q (Err e) log part = refl

went_on_asked : (q : BlockQueueState) (made : Result AnyQueue QueueError) (log : Option ℕ)
    → (went_on q made log).0.asked ≡ q.asked
went_on_asked q (Ok queue) log = refl
went_on_asked q (Err e) log = refl

set_up_asked : (q : BlockQueueState) (max_size : ℕ) (vring : RunningVring) (features : ℕ) (part : Option FlightPlace) (fresh : Bool)
    → (set_up q max_size vring features part fresh).0.asked ≡ q.asked
set_up_asked q max_size vring features part true =
    began_asked q (fresh_queue max_size vring features) (log_of vring features) part
set_up_asked q max_size vring features part false = go (not (is_set_up q.queue) || stays_at q vring log)
  where
    log : Option ℕ
    log = log_of vring features

    go : (v : Bool) → (let t : BlockQueueState × Reached = if v then (q, reached.Fine)
        else went_on q (moved_queue q.queue vring) log in t.0.asked ≡ q.asked)
    go true = refl
    go false = went_on_asked q (moved_queue q.queue vring) log

set_up_sound : (qs : List BlockQueueState) (rs : List RingState) (chains : ℕ → List Chain) (ring max_size : ℕ)
    (vring : RunningVring) (features : ℕ) (part : Option FlightPlace) (fresh : Bool) → SoundOf qs rs chains
    → SoundOf (set_up_at qs ring max_size vring features part fresh (slice_get qs ring)).0 rs chains
set_up_sound qs rs chains ring max_size vring features part fresh sound = go (slice_get qs ring) refl
  where
    go : (o : Option BlockQueueState) → slice_get qs ring ≡ o
        → SoundOf (set_up_at qs ring max_size vring features part fresh o).0 rs chains
    go None found = sound
    go (Some q) found = let q' = (set_up q max_size vring features part fresh).0 in
        set_sound qs rs chains chains ring q q' found (λ i differs. refl)
        (λ r has. same_has q q' r (chains ring) (set_up_asked q max_size vring features part fresh) has) sound

places_sound : (w : BlockBackend) (v : Result RunningVring NotRunning) (fresh : Bool) → Sound w
    → Sound (placed_by w v fresh)
places_sound w (Err e) fresh sound = sound
places_sound w (Ok vring) fresh sound =
    let features = w.backend.connection.features in
    let part = part_for features w.todo.ring w.backend.connection.inflight in
    let t = set_up_at w.queues w.todo.ring w.max_size vring features part fresh (slice_get w.queues w.todo.ring) in
    reach_sound (record w { queues = t.0 }) t.1
    (set_up_sound w.queues w.backend.rings.rings (pending w) w.todo.ring w.max_size vring features part fresh sound)

freed_sound : (w : BlockBackend) (ring : ℕ) (before after : Option (ℕ × Permissions)) → Sound w
    → Sound (freed_by w ring before after)
freed_sound w ring None after sound = sound
freed_sound w ring (Some t) None sound = sound
freed_sound w ring (Some t) (Some u) sound = sound

-- what the end of a request leaves of its queue
abbrev Left : BlockQueueState → BlockQueueState → ℕ → Finished → Type 0
Left q q' id (finished.Done len) = q' ≡ q
Left q q' id finished.Forgotten = q' ≡ with_asked q id None
Left q q' id finished.NotUnderWay = is_some (asked_at q id) ≡ false

module _ {H : Type 0} (step : H → (s : MemoryStep) → Returned s → H → Type 0) where
  gives_sound : (w : BlockBackend) (t : Returning) (old : H) (w' : BlockBackend) (new : H)
      → GivesBackAt step (record w { returning = None }) t old w' new
      → SoundOf w.queues w.backend.rings.rings (chains_of (Some t) w.todo.ring w.todo.actions) → Sound w'
  gives_sound w t old w' new (r, qs, with, is) sound =
      subst Sound (sym is) (reach_sound (record w { returning = None; queues = qs }) r (
      gone_sound w.queues qs w.backend.rings.rings t.ring reached.Fine old r new
      (Gives step t.chain t.len old new) with (chains_of (Some t) w.todo.ring w.todo.actions)
      (chains_of None w.todo.ring w.todo.actions) t.chain (first_given t w.todo.ring w.todo.actions)
      (other_given t w.todo.ring w.todo.actions)
      (λ q q' p. (gives_asked step q t.chain t.len old p.0 q' new p.1).0) sound))

  -- ---- the end of a request

  finish_left : (q : BlockQueueState) (chain : Chain) (moved : ℕ) (failed : Bool) (old : H) (r : Finished)
      (q' : BlockQueueState) (new : H) → FinishesRequest step q chain moved failed old r q' new → Left q q' chain.id r
  finish_left q chain moved failed old r q' new = go (asked_at q chain.id) refl
    where
      wrote : (asked : Asked) (mid : H) (w : Result ℕ GuestMemoryError) → MatchResult w
          (λ n. (r ≡ finished.Done (len_left asked n)) × (q' ≡ q) × Marks step (chain_marks asked.chain) mid new)
          (λ e. (r ≡ finished.Forgotten) × (q' ≡ with_asked q chain.id None) × (new ≡ mid)) → Left q q' chain.id r
      wrote asked mid (Ok n) (is, same, marks) = subst (Left q q' chain.id) (sym is) same
      wrote asked mid (Err e) (is, gone, still) = subst (Left q q' chain.id) (sym is) gone

      go : (o : Option Asked) → asked_at q chain.id ≡ o → MatchOption o
          ((r ≡ finished.NotUnderWay) × (q' ≡ q) × (new ≡ old))
          (λ asked. (w : Result ℕ GuestMemoryError) × (mid : H) × step old (finishes asked.chain
          (status_of asked.request failed) (written_of asked.request moved)) w mid
          × MatchResult w
          (λ n. (r ≡ finished.Done (len_left asked n)) × (q' ≡ q) × Marks step (chain_marks asked.chain) mid new)
          (λ e. (r ≡ finished.Forgotten) × (q' ≡ with_asked q chain.id None) × (new ≡ mid))) → Left q q' chain.id r
      go None none (is, same, still) = subst (Left q q' chain.id) (sym is) (ap is_some none)
      go (Some asked) there (w, mid, steps, p) = wrote asked mid w p

  -- a chain that is to be returned has its request
  pub is_found : (qs : List BlockQueueState) (rs : List RingState) (t : Option Returning) (ring : ℕ) (chain : Chain)
      (moved : ℕ) (failed : Bool) (rest : List RingAction) (old : H) (r : Finished) (qs' : List BlockQueueState) (new : H)
      → SoundOf qs rs (chains_of t ring (action.Return chain moved failed ∷ rest))
      → FinishesAt step qs ring chain moved failed old r qs' new → r ≡ finished.NotUnderWay → ⊥
  is_found qs rs t ring chain moved failed rest old r qs' new sound with missed = go (slice_get qs ring) refl with
    where
      acts : List RingAction
      acts = action.Return chain moved failed ∷ rest

      more : length (of_id chain.id (chains_of t ring acts ring))
          ≡ length (of_id chain.id (ended_chain ring t)) + (1 + length (of_id chain.id (returned rest)))
      more = rw (eq-eqb ring ring refl) (ap length (filter-append _ (ended_chain ring t) (chain ∷ returned rest))
          ∙ length-append (of_id chain.id (ended_chain ring t)) (of_id chain.id (chain ∷ returned rest))
          ∙ ap (λ n. length (of_id chain.id (ended_chain ring t)) + n) (rw (eq-eqb chain.id chain.id refl) (omega arith)))

      at : (q : BlockQueueState) (o : Option RingState) (b : Bool) → is_some (asked_at q chain.id) ≡ b → b ≡ false
          → SoundAt (Some q) o (chains_of t ring acts ring) → ⊥
      at q None b is not none = none
      at q (Some s) true is not has = cc
      at q (Some s) false is not (count, ids) =
          let none : asked_count q chain.id ≡ 0 = ap (λ b. if b then 1 else 0) is in
          omega (arith, none, count chain.id, more)

      nowhere : (o : Option RingState) → SoundAt None o (chains_of t ring acts ring) → ⊥
      nowhere None none =
          let few : length (of_id chain.id (chains_of t ring acts ring)) ≡ 0 =
          ap (λ cs. length (of_id chain.id cs)) none in omega (arith, few, more)
      nowhere (Some s) none = none

      go : (o : Option BlockQueueState) → slice_get qs ring ≡ o
          → MatchOption o ((r ≡ finished.NotUnderWay) × (qs' ≡ qs) × (new ≡ old))
          (λ q. (q' : BlockQueueState) × Finishes step chain moved failed old new q r q' × (qs' ≡ slice_set qs ring q'))
          → ⊥
      go None found p = nowhere (slice_get rs ring)
          (subst (λ o. SoundAt o (slice_get rs ring) (chains_of t ring acts ring)) found (sound ring))
      go (Some q) found (q', p, is) =
          let left = finish_left q chain moved failed old r q' new p in
          let missing : is_some (asked_at q chain.id) ≡ false = subst (Left q q' chain.id) missed left in
          at q (slice_get rs ring) (is_some (asked_at q chain.id)) refl missing
          (subst (λ o. SoundAt o (slice_get rs ring) (chains_of t ring acts ring)) found (sound ring))

  ends_sound : (w : BlockBackend) (chain : Chain) (moved : ℕ) (failed : Bool) (rest : List RingAction) (old : H)
      (r : Finished) (qs : List BlockQueueState) (new : H)
      → SoundOf w.queues w.backend.rings.rings (chains_of None w.todo.ring (action.Return chain moved failed ∷ rest))
      → w.todo.actions ≡ rest → w.returning ≡ None
      → FinishesAt step w.queues w.todo.ring chain moved failed old r qs new
      → Sound (ended_with (record w { queues = qs }) w.todo.ring chain r)
  ends_sound w chain moved failed rest old (finished.Done len) qs new sound left none with i =
      let ring = w.todo.ring in
      let acts = action.Return chain moved failed ∷ rest in
      let kept = kept_sound w.queues qs w.backend.rings.rings ring finished.NotUnderWay old (finished.Done len) new
      (Finishes step chain moved failed old new) with (chains_of None ring acts)
      (λ q q' p. ap (λ n. n.asked) (finish_left q chain moved failed old (finished.Done len) q' new p)) sound in
      let same : chains_of (Some (record { ring = ring; chain = chain; len = len })) ring w.todo.actions i
      ≡ chains_of None ring acts i =
      ap (λ l. chains_of (Some (record { ring = ring; chain = chain; len = len })) ring l i) left
      ∙ done_act ring len moved chain failed rest i in
      subst (SoundAt (slice_get qs i) (slice_get w.backend.rings.rings i)) (sym same) (kept i)
  ends_sound w chain moved failed rest old finished.Forgotten qs new sound left none with i =
      let ring = w.todo.ring in
      let acts = action.Return chain moved failed ∷ rest in
      let gone = gone_sound w.queues qs w.backend.rings.rings ring finished.NotUnderWay old finished.Forgotten new
      (Finishes step chain moved failed old new) with (chains_of None ring acts) (chains_of None ring rest) chain
      (first_act ring moved chain failed rest) (other_act None ring acts rest)
      (λ q q' p. ap (λ n. n.asked) (finish_left q chain moved failed old finished.Forgotten q' new p)) sound in
      hung_up_sound (record w { queues = qs }) why.Memory (λ j.
      subst (SoundAt (slice_get qs j) (slice_get w.backend.rings.rings j))
      (sym (ap (λ l. chains_of w.returning ring l j) left ∙ ap (λ t. chains_of t ring rest j) none)) (gone j)) i
  ends_sound w chain moved failed rest old finished.NotUnderWay qs new sound left none with i =
      absurd (is_found w.queues w.backend.rings.rings None w.todo.ring chain moved failed rest old finished.NotUnderWay qs
      new sound with refl)

  -- ---- all of them

  -- what is done first is something else
  else_sound : (w : BlockBackend) (a : RingAction) (rest : List RingAction) → chain_of a ≡ None
      → SoundOf w.queues w.backend.rings.rings (chains_of w.returning w.todo.ring (a ∷ rest))
      → w.todo.actions ≡ rest → Sound w
  else_sound w a rest none sound left i =
      subst (SoundAt (slice_get w.queues i) (slice_get w.backend.rings.rings i))
      (sym (ap (λ l. chains_of w.returning w.todo.ring l i) left
      ∙ sym (quiet_act w.returning w.todo.ring a rest i none))) (sound i)

  acts_sound : (w : BlockBackend) (a : RingAction) (rest : List RingAction) (old : H) (m : Made) (w' : BlockBackend)
      (new : H) → SoundOf w.queues w.backend.rings.rings (chains_of w.returning w.todo.ring (a ∷ rest))
      → w.todo.actions ≡ rest → w.returning ≡ None → Acts step w w.todo.ring a old m w' new → Sound w'
  acts_sound w action.Pop rest old m w' new sound left none (is, made, still) =
      subst Sound (sym is) (else_sound w action.Pop rest refl sound left)
  acts_sound w (action.Serve id n) rest old m w' new sound left none (is, made, still) =
      subst Sound (sym is) (else_sound w (action.Serve id n) rest refl sound left)
  acts_sound w (action.Return chain moved failed) rest old m w' new sound left none (r, qs, with, is, made) =
      subst Sound (sym is) (ends_sound w chain moved failed rest old r qs new
      (λ i. subst (SoundAt (slice_get w.queues i) (slice_get w.backend.rings.rings i))
      (ap (λ t. chains_of t w.todo.ring (action.Return chain moved failed ∷ rest) i) none) (sound i)) left none with)
  acts_sound w action.Notify rest old m w' new sound left none (r, qs, with, is, made) =
      subst Sound (sym is) (
      kept_sound w.queues qs w.backend.rings.rings w.todo.ring (Ok false) old r new (Asks step old new) with (pending w)
      (λ q q' p. ap (λ n. n.asked) p.1) (else_sound w action.Notify rest refl sound left))
  acts_sound w action.Broke rest old m w' new sound left none (is, made, still) =
      subst Sound (sym is) (else_sound w action.Broke rest refl sound left)
  acts_sound w action.Stopped rest old m w' new sound left none (is, made, still) =
      subst Sound (sym is) (else_sound w action.Stopped rest refl sound left)

  pub steps_sound : (w : BlockBackend) (old : H) (m : Made) (w' : BlockBackend) (new : H) → Steps step w old m w' new
      → Sound w → Sound w'
  steps_sound w old m w' new steps sound = from w.todo.place steps
    where
      first : (acts : List RingAction) → w.todo.actions ≡ acts → w.returning ≡ None
          → ActsFirst step (record w { todo = record w.todo { actions = drop 1 acts } }) (slice_get acts 0) old m w' new
          → Sound w'
      first [] left none (is, still) =
          let v : BlockBackend = record w { todo = record w.todo { actions = [] } } in
          let same : Sound v = λ i. subst (SoundAt (slice_get w.queues i) (slice_get w.backend.rings.rings i))
          (ap (λ l. chains_of w.returning w.todo.ring l i) left) (sound i) in
          subst Sound (sym (ap (λ t. t.0) is)) (on_sound v v.todo.message (refl, none) same)
      first (a ∷ rest) left none p =
          acts_sound (record w { todo = record w.todo { actions = rest } }) a rest old m w' new
          (λ i. subst (SoundAt (slice_get w.queues i) (slice_get w.backend.rings.rings i))
          (ap (λ l. chains_of w.returning w.todo.ring l i) left) (sound i)) refl none p

      returns : (o : Option Returning) → w.returning ≡ o → Returns step w o old m w' new → Sound w'
      returns None none p = first w.todo.actions refl none p
      returns (Some t) there (gives, made) = gives_sound w t old w' new gives
          (λ i. subst (SoundAt (slice_get w.queues i) (slice_get w.backend.rings.rings i))
          (ap (λ u. chains_of u w.todo.ring w.todo.actions i) there) (sound i))

      from : (o : Option Place) → StepsFrom step w o old m w' new → Sound w'
      from None p = returns w.returning refl p
      from (Some place) p = let v : BlockBackend = record w { todo = record w.todo { place = None } } in
          let v' = placed_by v place.vring place.fresh in
          subst Sound (sym p.0) (freed_sound v' v.todo.ring (awaited (slice_get v.queues v.todo.ring))
          (awaited (slice_get v'.queues v.todo.ring)) (places_sound v place.vring place.fresh sound))

  -- so no return ends without one
  pub never_misses : (w : BlockBackend) (chain : Chain) (moved : ℕ) (failed : Bool) (old : H) (r : Finished)
      (qs : List BlockQueueState) (new : H) → Sound w → slice_get w.todo.actions 0 ≡ Some (action.Return chain moved failed)
      → FinishesAt step w.queues w.todo.ring chain moved failed old r qs new → r ≡ finished.NotUnderWay → ⊥
  never_misses w chain moved failed old r qs new sound first with = go w.todo.actions refl first
    where
      same_act : (a b : RingAction) → Some a ≡ Some b → a ≡ b
      same_act a b is = cc

      go : (acts : List RingAction) → w.todo.actions ≡ acts
          → slice_get acts 0 ≡ Some (action.Return chain moved failed) → r ≡ finished.NotUnderWay → ⊥
      go [] left first = absurd (cc)
      go (a ∷ rest) left first =
          is_found w.queues w.backend.rings.rings w.returning w.todo.ring chain moved failed rest old r qs new
          (λ i. subst (SoundAt (slice_get w.queues i) (slice_get w.backend.rings.rings i))
          (ap (λ l. chains_of w.returning w.todo.ring l i) left
          ∙ ap (λ x. chains_of w.returning w.todo.ring (x ∷ rest) i) (same_act a (action.Return chain moved failed) first))
          (sound i)) with
