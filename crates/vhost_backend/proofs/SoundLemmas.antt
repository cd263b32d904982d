-- A back end stays sound, whatever is done, and whatever a guest writes.
use Rattle.std.proofs.Common.{◌≡◌, ◌∙◌, ℕ, ◌+◌, ◌≤◌, ◌==◌, ◌&&◌, Bool, true, false, List, [], ◌∷◌, ◌++◌, length, set, Option, Some, None, is_some, Result, Ok, Err, MatchOption, if◌then◌else◌, refl, ap, sym, subst, arith, inl, inr, length-append}
use Rattle.std.specs.List.{slice_get, slice_index_or, slice_set}
use Rattle.std.specs.Int.{to_le_bytes, w64}
use Rattle.std.proofs.lemmas.Bool.{and_parts, cases_eq, eq-eqb, ne_eqb}
use Rattle.std.proofs.lemmas.List.{append-nil}
use Rattle.std.proofs.lemmas.List.Elements.{filter-append}
use Rattle.std.proofs.Math.ListN.{length-set}
use Rattle.vhost_backend.specs.Questions.{QuestionsState, after_reply}
use Rattle.vhost_backend.specs.declared.deeds.Why.TheVariants as why
use Rattle.vhost_backend.specs.declared.questions.SentMiss.{SentMiss}
use Rattle.vhost_message.specs.FrontendReq.{request_of}
use Rattle.vhost_message.specs.declared.backend_req.BackendReply.{BackendReply}
use Rattle.vhost_message.specs.declared.header.Header.{Header}
use Rattle.vhost_message.specs.declared.refusal.Refusal.TheVariants.{Direction}
use Rattle.vhost_message.specs.declared.refusal.Refusal.{Refusal}
use Rattle.vhost_user.specs.Connection.{Connection, with_changed_config}
use Rattle.vm_memory_base.specs.Table.{Table}
use Rattle.vhost_backend.proofs.AgreeLemmas.{none_asked, other_asked}
use Rattle.vhost_backend.proofs.IdleLemmas.{done_clear}
use Rattle.vhost_backend.proofs.OwnWayLemmas.{get-set_other, get-set_same}
use Rattle.vhost_backend.proofs.TableLemmas.{asking_kept, memory_kept, reply_kept, table_kept}
use Rattle.vhost_backend.proofs.UnderWayLemmas.{Goes, Quiet, came_quiet, end_quiet, goes, pops_none, story_quiet, told_quiet}
use Rattle.vhost_backend.specs.Backend.{BackendState, after_event, after_message, is_free, is_over}
use Rattle.vhost_backend.specs.BlockBackend.{after_reach, answered, answered_at, called_by, came, finished_by, gone_on, hung_up, is_done, mapped, mapped_at, resized, told, in_use, taken_by, with_change, reply_by, replied_to, with_channel}
use Rattle.vhost_backend.specs.Behind.{with_reach}
use Rattle.vhost_backend.specs.BlockQueue.{BlockQueueState, asked_at, asked_count, with_asked}
use Rattle.vhost_backend.specs.BlockQueues.{WithQueue, base_left, based}
use Rattle.vhost_backend.specs.BlockTable.{ChangesTable, asked_for, memory_lost}
use Rattle.vhost_backend.specs.Config.{changed_by}
use Rattle.vhost_backend.specs.Messages.{Happening, Came, Done, Told, HungUp, events_of, own_actions, ring_actions, stepped, to_do}
use Rattle.vhost_backend.specs.Reach.{ReachState}
use Rattle.vhost_backend.specs.Ring.{RingState}
use Rattle.vhost_backend.specs.RingMemory.{MemoryStep, Returned}
use Rattle.vhost_backend.specs.SetUp.{is_set_up}
use Rattle.vhost_backend.specs.Sound.{HasAll, IsClear, Sound, SoundAt, ended_chain, pending}
use Rattle.vhost_backend.specs.Story.{busy, of_id, returned}
use Rattle.vhost_backend.specs.Wanted.{wanted_at}
use Rattle.vhost_backend.specs.declared.backend.Finish.{Finish}
use Rattle.vhost_backend.specs.declared.backend.Finish.TheVariants as finish
use Rattle.vhost_backend.specs.declared.backend.Todo.{Todo}
use Rattle.vhost_backend.specs.declared.block_backend.BlockBackend.{BlockBackend}
use Rattle.vhost_backend.specs.declared.block_backend.Returning.{Returning}
use Rattle.vhost_backend.specs.declared.block_queues.Reached.{Reached}
use Rattle.vhost_backend.specs.declared.block_queues.Reached.TheVariants as reached
use Rattle.vhost_backend.specs.declared.deeds.Ask.{Ask}
use Rattle.vhost_backend.specs.declared.deeds.Ask.TheVariants as ask
use Rattle.vhost_backend.specs.declared.deeds.Why.{Why}
use Rattle.vhost_backend.specs.declared.request.Chain.{Chain}
use Rattle.vhost_backend.specs.declared.ring.actions.RingAction.{RingAction}
use Rattle.vhost_backend.specs.declared.rings.Event.{Event}
use Rattle.vhost_backend.specs.declared.rings.Event.TheVariants as event

-- queues and rings, and the chains that are to be returned
abbrev pub SoundOf : List BlockQueueState → List RingState → (ℕ → List Chain) → Type 0
SoundOf qs rs chains = (ring : ℕ) → SoundAt (slice_get qs ring) (slice_get rs ring) (chains ring)

abbrev pub chains_of : Option Returning → ℕ → List RingAction → ℕ → List Chain
chains_of t ring acts i = ended_chain i t ++ returned (if ring == i then acts else [])

-- ---- rings that go on

pub at_goes : (q : Option BlockQueueState) (o o' : Option RingState) (before more later : List Chain)
    → later ≡ before ++ more → SoundAt q o before → Goes o more o' → SoundAt q o' later
at_goes (Some q) (Some r) (Some r') before more later is (count, ids) (goes, same) = (
  λ id. let split : length (of_id id later) ≡ length (of_id id before) + length (of_id id more) =
      ap (λ cs. length (of_id id cs)) is ∙ ap length (filter-append _ before more)
      ∙ length-append (of_id id before) (of_id id more) in omega (arith, count id, goes id, split),
  ids ∙ sym same,
)
at_goes None None None before more later is none goes = is ∙ ap (λ cs. cs ++ more) none ∙ goes
at_goes (Some q) (Some r) None before more later is sound goes = absurd goes
at_goes (Some q) None o' before more later is sound goes = absurd sound
at_goes None (Some r) o' before more later is sound goes = absurd sound
at_goes None None (Some r') before more later is sound goes = absurd goes

happens_sound : (qs : List BlockQueueState) (b : BackendState) (x : Happening) (before later : ℕ → List Chain)
    → Quiet (events_of b x)
    → ((i : ℕ) → later i ≡ before i ++ returned (ring_actions i (to_do b x)))
    → SoundOf qs b.rings.rings before → SoundOf qs (stepped b x).rings.rings later
happens_sound qs b x before later quiet split sound i =
    at_goes (slice_get qs i) (slice_get b.rings.rings i) (slice_get (stepped b x).rings.rings i) (before i)
    (returned (ring_actions i (to_do b x))) (later i) (split i) (sound i)
    (goes b x i (λ r. story_quiet i (events_of b x) b.rings r quiet))

-- ---- events

none_to_do : (t : Option Returning) (ring : ℕ) (acts : List RingAction) (i : ℕ) → acts ≡ [] → t ≡ None
    → chains_of t ring acts i ≡ []
none_to_do t ring acts i none gone =
    ap (λ u. ended_chain i u ++ returned (if ring == i then acts else [])) gone
    ∙ ap (λ l. returned (if ring == i then l else [])) none ∙ go (ring == i)
  where
    go : (b : Bool) → returned (if b then [] else []) ≡ []
    go true = refl
    go false = refl

pub clear_pending : (w : BlockBackend) → IsClear w → (i : ℕ) → pending w i ≡ []
clear_pending w clear i = none_to_do w.returning w.todo.ring w.todo.actions i clear.0 clear.1

-- what is to be returned of a back end with nothing to do for a ring, after it was told something
pub new_pending : (w : BlockBackend) (todo : Todo) → IsClear w → (i : ℕ)
    → ended_chain i w.returning ++ returned (own_actions i todo)
    ≡ pending w i ++ returned (ring_actions i (todo ∷ []))
new_pending w todo clear i =
    ap (λ t. ended_chain i t ++ returned (own_actions i todo)) clear.1
    ∙ ap returned (sym (append-nil (own_actions i todo)))
    ∙ ap (λ cs. cs ++ returned (ring_actions i (todo ∷ []))) (sym (clear_pending w clear i))

pub told_sound : (w : BlockBackend) (e : Event) → pops_none e ≡ true → IsClear w → Sound w → Sound (told w e)
told_sound w e quiet clear sound =
    happens_sound w.queues w.backend (Told e) (pending w) (pending (told w e)) (told_quiet w.backend e quiet)
    (new_pending w (after_event w.backend e).1 clear) sound

pub gone_on_sound : (w : BlockBackend) → IsClear w → Sound w → Sound (gone_on w)
gone_on_sound w = told_sound w event.GoOn refl

pub came_sound : (w : BlockBackend) (h : Header) (payload : List ℕ) (descriptors : ℕ) → Sound w
    → Sound (came w h payload descriptors).0
came_sound w h payload descriptors sound = go (is_done w && is_free w.backend.taken) refl
  where
    go : (v : Bool) → (is_done w && is_free w.backend.taken) ≡ v → (let r : BlockBackend × Bool = (if v
        then (let v = with_change w (request_of h payload) in (taken_by v h payload descriptors (in_use v), true))
        else (w, false)) in Sound r.0)
    go true is =
        let used = in_use (with_change w (request_of h payload)) in
        let todo = (after_message w.backend h payload descriptors used).1 in
        let x = Came h payload descriptors used in
        happens_sound w.queues w.backend x (pending w)
        (λ i. ended_chain i w.returning ++ returned (own_actions i todo)) (came_quiet w.backend h payload descriptors used)
        (new_pending w todo (done_clear w (and_parts _ _ is).0)) sound
    go false is = sound

pub finished_sound : (w : BlockBackend) (e : Finish) → Sound w → Sound (finished_by w e)
finished_sound w e sound = happens_sound w.queues w.backend (Done e) (pending w) (pending w) (end_quiet w.backend e)
    (λ i. sym (append-nil (pending w i))) sound

pub hung_up_sound : (w : BlockBackend) (y : Why) → Sound w → Sound (hung_up w y)
hung_up_sound w y sound = go (is_over w.backend.taken)
  where
    go : (v : Bool) → Sound (if v then record w { ask = ask.Nothing }
        else record w { ask = ask.Nothing; backend = stepped w.backend HungUp; end = Some y })
    go true = sound
    go false = happens_sound w.queues w.backend HungUp (pending w) (pending w) (refl, tt)
        (λ i. sym (append-nil (pending w i))) sound

pub mapped_sound : (w : BlockBackend) (is : Bool) → Sound w → Sound (mapped w is)
mapped_sound w is sound = go w.ask is
  where
    go : (a : Ask) (is : Bool) → Sound (mapped_at w a is)
    go (ask.Region number) true = sound
    go (ask.Region number) false = finished_sound w finish.Failed sound
    go ask.Nothing is = sound
    go ask.First is = sound
    go (ask.Mapped number) is = sound
    go ask.Answer is = sound

pub answered_sound : (w : BlockBackend) (is : Bool) → Sound w → Sound (answered w is)
answered_sound w is sound = go w.ask is
  where
    go : (a : Ask) (is : Bool) → Sound (answered_at w a is)
    go ask.Answer true =
        let x = wanted_at w.backend.taken in
        finished_sound (with_channel (record w { called = called_by w.called x }) x) finish.Done sound
    go ask.Answer false = finished_sound w finish.Failed sound
    go ask.Nothing is = sound
    go ask.First is = sound
    go (ask.Mapped number) is = sound
    go (ask.Region number) is = sound

pub resized_sound : (w : BlockBackend) (sectors : ℕ) → Sound w → Sound (resized w sectors)
resized_sound w sectors sound =
    subst (λ s. SoundOf w.queues s.rings (pending w))
    (sym (go (with_changed_config w.backend.connection 0 (to_le_bytes w64 sectors)))) sound
  where
    go : (o : Result Connection Refusal) → (changed_by w.backend o).rings ≡ w.backend.rings
    go (Ok new) = refl
    go (Err e) = refl

-- ---- queues

kept_count : (q q' : BlockQueueState) → q'.asked ≡ q.asked → (id : ℕ) → asked_count q' id ≡ asked_count q id
kept_count q q' is id = ap (λ l. if is_some (slice_index_or l id None) then 1 else 0) is

pub same_has : (q q' : BlockQueueState) (r : RingState) (chains : List Chain) → q'.asked ≡ q.asked → HasAll q r chains
    → HasAll q' r chains
same_has q q' r chains is (count, ids) = (λ id. kept_count q q' is id ∙ count id, ap length is ∙ ids)

pub at_most_one : (b : Bool) → (if b then 1 else 0) ≤ 1
at_most_one true = omega arith
at_most_one false = omega arith

-- the first of the chains is given back, or its request is forgotten
pub forgot_has : (q q' : BlockQueueState) (r : RingState) (chain : Chain) (rest : List Chain)
    → q'.asked ≡ set q.asked chain.id None → HasAll q r (chain ∷ rest) → HasAll q' r rest
forgot_has q q' r chain rest is (count, ids) = (
  λ id. kept_count (with_asked q chain.id None) q' is id ∙ elim (cases_eq chain.id id) [
    | inl same ↦ here id same (count id)
    | inr differs ↦ other_asked q id chain.id None differs ∙ there id differs (count id)
  ],
  ap length is ∙ length-set q.asked chain.id None ∙ ids,
)
  where
    here : (id : ℕ) → chain.id ≡ id → asked_count q id ≡ length (of_id id (chain ∷ rest)) + busy r id
        → asked_count (with_asked q chain.id None) id ≡ length (of_id id rest) + busy r id
    here id same count =
        let none : asked_count (with_asked q chain.id None) id ≡ 0 =
        subst (λ k. asked_count (with_asked q chain.id None) k ≡ 0) same (none_asked q chain.id) in
        let more : length (of_id id (chain ∷ rest)) ≡ 1 + length (of_id id rest) =
        rw (eq-eqb chain.id id same) (omega arith) in
        omega (arith, none, more, count, at_most_one (is_some (asked_at q id)))

    there : (id : ℕ) → (chain.id ≡ id → ⊥) → asked_count q id ≡ length (of_id id (chain ∷ rest)) + busy r id
        → asked_count q id ≡ length (of_id id rest) + busy r id
    there id differs count = count ∙ ap (λ n. n + busy r id) (rw (ne_eqb chain.id id differs) refl)

-- one of the queues changes
pub set_sound : (qs : List BlockQueueState) (rs : List RingState) (chains chains' : ℕ → List Chain) (ring : ℕ)
    (q q' : BlockQueueState) → slice_get qs ring ≡ Some q
    → ((i : ℕ) → (i ≡ ring → ⊥) → chains' i ≡ chains i)
    → ((r : RingState) → HasAll q r (chains ring) → HasAll q' r (chains' ring))
    → SoundOf qs rs chains → SoundOf (slice_set qs ring q') rs chains'
set_sound qs rs chains chains' ring q q' found apart keeps sound i = elim (cases_eq i ring) [
  | inl same ↦ subst (λ k. SoundAt (slice_get (slice_set qs ring q') k) (slice_get rs k) (chains' k)) (sym same) own
  | inr differs ↦
      subst (λ o. SoundAt o (slice_get rs i) (chains' i)) (sym (get-set_other qs ring i q' differs))
      (subst (SoundAt (slice_get qs i) (slice_get rs i)) (sym (apart i differs)) (sound i))
]
  where
    go : (o : Option RingState) → SoundAt (Some q) o (chains ring) → SoundAt (Some q') o (chains' ring)
    go (Some r) has = keeps r has
    go None none = absurd none

    own : SoundAt (slice_get (slice_set qs ring q') ring) (slice_get rs ring) (chains' ring)
    own = subst (λ o. SoundAt o (slice_get rs ring) (chains' ring)) (sym (get-set_same qs ring q' q found))
        (go (slice_get rs ring) (subst (λ o. SoundAt o (slice_get rs ring) (chains ring)) found (sound ring)))

module _ {H T : Type 0} (qs qs' : List BlockQueueState) (rs : List RingState) (ring : ℕ) (none : T) (old : H) (r : T) (new : H)
    (P : BlockQueueState → T → BlockQueueState → Type 0) (with : WithQueue qs ring none old r qs' new P) where
  -- its requests stay as they are
  pub kept_sound : (chains : ℕ → List Chain) → ((q q' : BlockQueueState) → P q r q' → q'.asked ≡ q.asked)
      → SoundOf qs rs chains → SoundOf qs' rs chains
  kept_sound chains same sound = go (slice_get qs ring) refl with
    where
      go : (o : Option BlockQueueState) → slice_get qs ring ≡ o
          → MatchOption o ((r ≡ none) × (qs' ≡ qs) × (new ≡ old))
          (λ q. (q' : BlockQueueState) × P q r q' × (qs' ≡ slice_set qs ring q')) → SoundOf qs' rs chains
      go None found (unreached, is, still) = subst (λ l. SoundOf l rs chains) (sym is) sound
      go (Some q) found (q', p, is) = subst (λ l. SoundOf l rs chains) (sym is)
          (set_sound qs rs chains chains ring q q' found (λ i differs. refl)
          (λ s has. same_has q q' s (chains ring) (same q q' p) has) sound)

  -- the request of its first chain goes
  pub gone_sound : (chains chains' : ℕ → List Chain) (chain : Chain) → chains ring ≡ chain ∷ chains' ring
      → ((i : ℕ) → (i ≡ ring → ⊥) → chains' i ≡ chains i)
      → ((q q' : BlockQueueState) → P q r q' → q'.asked ≡ set q.asked chain.id None)
      → SoundOf qs rs chains → SoundOf qs' rs chains'
  gone_sound chains chains' chain first apart forgets sound = go (slice_get qs ring) refl with
    where
      nowhere : (o : Option RingState) → SoundAt None o (chain ∷ chains' ring) → ⊥
      nowhere None none = cc
      nowhere (Some s) none = none

      go : (o : Option BlockQueueState) → slice_get qs ring ≡ o
          → MatchOption o ((r ≡ none) × (qs' ≡ qs) × (new ≡ old))
          (λ q. (q' : BlockQueueState) × P q r q' × (qs' ≡ slice_set qs ring q')) → SoundOf qs' rs chains'
      go None found (unreached, is, still) = absurd (nowhere (slice_get rs ring)
          (subst (SoundAt None (slice_get rs ring)) first
          (subst (λ o. SoundAt o (slice_get rs ring) (chains ring)) found (sound ring))))
      go (Some q) found (q', p, is) = subst (λ l. SoundOf l rs chains') (sym is)
          (set_sound qs rs chains chains' ring q q' found apart
          (λ s has. forgot_has q q' s chain (chains' ring) (forgets q q' p) (subst (HasAll q s) first has)) sound)

pub reach_sound : (w : BlockBackend) (r : Reached) → Sound w → Sound (after_reach w r)
reach_sound w reached.Fine sound = sound
reach_sound w reached.Broken sound = sound

-- the base of a ring that is stopped
pub based_sound : (qs : List BlockQueueState) (rs : List RingState) (chains : ℕ → List Chain) (ring : ℕ) → SoundOf qs rs chains
    → SoundOf (based qs ring (slice_get qs ring)).0 rs chains
based_sound qs rs chains ring sound = go (slice_get qs ring) refl
  where
    left : (q : BlockQueueState) (v : Bool) → is_set_up q.queue ≡ v → (base_left q).0.asked ≡ q.asked
    left q true is = rw is refl
    left q false is = rw is refl

    go : (o : Option BlockQueueState) → slice_get qs ring ≡ o → SoundOf (based qs ring o).0 rs chains
    go None found = sound
    go (Some q) found = set_sound qs rs chains chains ring q (base_left q).0 found (λ i differs. refl)
        (λ r has. same_has q (base_left q).0 r (chains ring) (left q (is_set_up q.queue) refl) has) sound

-- ---- the table and the channel

-- whatever is kept and fetched for its ring
reach_set : (w : BlockBackend) (n : ℕ) (q : BlockQueueState) (l : ReachState) → slice_get w.queues n ≡ Some q → Sound w
    → Sound (record w { queues = slice_set w.queues n (with_reach q l) })
reach_set w n q l found sound = set_sound w.queues w.backend.rings.rings (pending w) (pending w) n q (with_reach q l) found
    (λ i differs. refl) (λ r has. same_has q (with_reach q l) r (pending w n) refl has) sound

pub asking_sound : (w : BlockBackend) (ring : ℕ) → Sound w → Sound (asked_for w ring)
asking_sound = asking_kept Sound (λ v q sound. sound) (λ v ks sound. sound) reach_set

pub memory_sound : (w : BlockBackend) → Sound w → Sound (memory_lost w)
memory_sound = memory_kept Sound (λ v q sound. sound) (λ v ks sound. sound) reach_set

pub replied_sound : (w : BlockBackend) (r : Result BackendReply Refusal) → Sound w → Sound (replied_to w r).0
replied_sound w (Err e) sound = hung_up_sound w (why.Refused e) sound
replied_sound w (Ok r) sound = go (r.request == 1)
  where
    by : (t : QuestionsState × Option SentMiss) → Sound (reply_by w r.value t).0
    by (q, Some one) = reply_kept Sound (λ v q sound. sound) (λ v ks sound. sound) reach_set
        (record w { questions = q }) one r.value sound
    by (q, None) = hung_up_sound (record w { questions = q }) (why.Refused Direction) sound

    go : (v : Bool) → (let t : BlockBackend × Bool = (if v then reply_by w r.value (after_reply w.questions)
        else (hung_up w (why.Refused Direction), false)) in Sound t.0)
    go true = by (after_reply w.questions)
    go false = hung_up_sound w (why.Refused Direction) sound

module _ {H : Type 0} (step : H → (s : MemoryStep) → Returned s → H → Type 0) where
  pub changes_sound : (w : BlockBackend) (t : Table) (old : H) (is : Bool) (w' : BlockBackend) (t' : Table) (new : H)
      → ChangesTable step w t old is w' t' new → Sound w → Sound w'
  changes_sound = table_kept Sound (λ v q sound. sound) (λ v ks sound. sound) reach_set step
