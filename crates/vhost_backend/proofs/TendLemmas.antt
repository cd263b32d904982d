-- A ring that is looked at stays so, and one that is asked for, whatever else happens.
use Rattle.std.proofs.Common.{◌≡◌, ◌∙◌, ℕ, zero, suc, ◌==◌, ◌&&◌, ◌||◌, nat_lt, not, Bool, true, false, List, [], ◌∷◌, ◌++◌, length, Option, Some, None, Result, Ok, Err, IsSomeAnd, is_ok, if◌then◌else◌, refl, ap, sym, subst}
use Rattle.std.specs.List.{slice_get}
use Rattle.std.proofs.lemmas.Bool.{eq-eqb}
use Rattle.vhost_message.specs.FrontendReq.{descriptors_of, request_of}
use Rattle.vhost_message.specs.declared.frontend_req.FrontendReq.{FrontendReq}
use Rattle.vhost_message.specs.declared.header.Header.{Header}
use Rattle.vhost_message.specs.declared.refusal.Refusal.{Refusal}
use Rattle.vhost_user.specs.Connection.{Connection, served, with_changed_config}
use Rattle.vhost_user.specs.Running.{running}
use Rattle.vhost_backend.proofs.AtRestLemmas.{all_count}
use Rattle.vhost_backend.proofs.FitLemmas.{FitsIn, step_fits}
use Rattle.vhost_backend.proofs.MessageLemmas.{step_rings}
use Rattle.vhost_backend.proofs.UnderWayLemmas.{goes_to, story}
use Rattle.vhost_backend.specs.Backend.{BackendState, is_due, is_free, is_outer, new_backend, rebased, released, until_of, waited}
use Rattle.vhost_backend.specs.Config.{changed_by, config_changed}
use Rattle.vhost_backend.specs.GoesOn.{IsReached, Occurrence, after_these, happens, is_looked_at, occurred, reconfigures}
use Rattle.vhost_backend.specs.Messages.{Happening, Came, Done, Told, events_if_done, events_if_due, events_if_refused, events_of, events_of_decoded, events_of_end, events_of_request, events_of_waiting, events_until, refreshing, starts_if, stepped}
use Rattle.vhost_backend.specs.Ring.{RingState, Step, after_break, begun, broken, ended, has_place, is_idle, is_on, is_stopping, may_run, request_at, returned, started, with_moved, with_request}
use Rattle.vhost_backend.specs.Rings.{RingsState, admits}
use Rattle.vhost_backend.specs.Rings as rings
use Rattle.vhost_backend.specs.Story.{RingStep, On, Turn}
use Rattle.vhost_backend.specs.Story as ring_story
use Rattle.vhost_backend.specs.Turns.{steps_of, story_of, takes_turn}
use Rattle.vhost_backend.specs.declared.backend.Finish.{Finish}
use Rattle.vhost_backend.specs.declared.backend.Taken.{Taken}
use Rattle.vhost_backend.specs.declared.backend.Taken.TheVariants as taken_by
use Rattle.vhost_backend.specs.declared.backend.Until.{Until}
use Rattle.vhost_backend.specs.declared.backend.Until.TheVariants as until
use Rattle.vhost_backend.specs.declared.request.Chain.{Chain}
use Rattle.vhost_backend.specs.declared.request.PartEnd.{PartEnd}
use Rattle.vhost_backend.specs.declared.request.PartEnd.TheVariants.{Moved, Failed}
use Rattle.vhost_backend.specs.declared.request.Request.{Request}
use Rattle.vhost_backend.specs.declared.ring.Phase.{Phase}
use Rattle.vhost_backend.specs.declared.ring.Phase.TheVariants.{Stopped, Started, Broken, Stopping}
use Rattle.vhost_backend.specs.declared.ring.RingEvent.TheVariants.{Start, Stop, Enable, Break, Kick, Popped, Emptied, Ended}
use Rattle.vhost_backend.specs.declared.ring.actions.RingAction.{RingAction}
use Rattle.vhost_backend.specs.declared.ring.actions.RingAction.TheVariants as action
use Rattle.vhost_backend.specs.Actions.{if_so}
use Rattle.vhost_backend.specs.declared.rings.Event.{Event}
use Rattle.vhost_backend.specs.declared.rings.Event.TheVariants as event

-- ---- steps of a ring that is looked at

or_true : (b : Bool) → (b || true) ≡ true
or_true true = refl
or_true false = refl

module _ (r : RingState) (is : is_looked_at r ≡ true) where
  start_looked : (p : Phase) → is_looked_at (started r p) ≡ true
  start_looked Stopped = refl
  start_looked Started = is
  start_looked Broken = is
  start_looked Stopping = is

  break_looked : (p : Phase) → r.phase ≡ p → is_looked_at (broken r p).0 ≡ true
  break_looked Started at = subst (λ (p : Phase). (r.kicked || not (is_on p)) ≡ true) at is
  break_looked Stopped at = is
  break_looked Broken at = is
  break_looked Stopping at = is

  stop_looked : (idle : Bool) → (let t : Step = if idle
      then (record r { phase = Stopped; owes = false }, if_so r.owes action.Notify ++ action.Stopped ∷ [])
      else (record r { phase = Stopping }, []) in is_looked_at t.0 ≡ true)
  stop_looked true = or_true r.kicked
  stop_looked false = or_true r.kicked

  begun_looked : (chain : Chain) (parts : ℕ) (none : Bool) → (let t : Step = if none
      then (record r { owes = true }, action.Return chain 0 false ∷ [])
      else (
        with_request r chain.id (Some (record { slots = chain.slots; left = parts; moved = 0 })),
        action.Serve chain.id parts ∷ [],
      ) in is_looked_at t.0 ≡ true)
  begun_looked chain parts true = is
  begun_looked chain parts false = is

  pop_looked : (chain : Chain) (parts : ℕ) (stays has : Bool) → (let t : Step = if stays
      then (r, []) else (if has then begun r chain parts else after_break r) in is_looked_at t.0 ≡ true)
  pop_looked chain parts true has = is
  pop_looked chain parts false true = begun_looked chain parts (parts == 0)
  pop_looked chain parts false false = break_looked r.phase refl

  returning_looked : (chain : RingAction) (last : Bool) → (let t : Step = if last
      then (record r { phase = Stopped; owes = false }, chain ∷ action.Notify ∷ action.Stopped ∷ [])
      else (record r { owes = true }, chain ∷ []) in is_looked_at t.0 ≡ true)
  returning_looked chain true = or_true r.kicked
  returning_looked chain false = is

returned_looked : (r : RingState) → is_looked_at r ≡ true → (id : ℕ) (q : Request) (failed : Bool)
    → is_looked_at (returned r id q failed).0 ≡ true
returned_looked r is id q failed =
    let new = with_request r id None in
    returning_looked new is (action.Return (record { id = id; slots = q.slots }) q.moved failed)
    (is_stopping new.phase && is_idle new)

moved_looked : (r : RingState) → is_looked_at r ≡ true → (id : ℕ) (q : Request) (more : Bool) → (let t : Step = if more
    then (with_request r id (Some q), action.Serve id q.left ∷ []) else returned r id q false in
    is_looked_at t.0 ≡ true)
moved_looked r is id q true = is
moved_looked r is id q false = returned_looked r is id q false

end_looked : (r : RingState) → is_looked_at r ≡ true → (id : ℕ) (o : Option Request) (end : PartEnd)
    → is_looked_at (ended r id o end).0 ≡ true
end_looked r is id None end = is
end_looked r is id (Some q) (Moved count) = moved_looked r is id (with_moved q count) (nat_lt 0 (with_moved q count).left)
end_looked r is id (Some q) Failed = returned_looked r is id q true

-- each step keeps it so, but that the ring was found empty
abbrev stays_by : RingStep → Bool
stays_by (On Emptied) = false
stays_by s = true

step_looked : (r : RingState) → is_looked_at r ≡ true → (s : RingStep) → stays_by s ≡ true
    → is_looked_at (ring_story.stepped r s).0 ≡ true
step_looked r is (On Start) stays = start_looked r is r.phase
step_looked r is (On Stop) stays = stop_looked r is (is_idle r)
step_looked r is (On (Enable on)) stays = is
step_looked r is (On Break) stays = break_looked r is r.phase refl
step_looked r is (On Kick) stays = refl
step_looked r is (On (Popped chain parts bytes)) stays =
    pop_looked r is chain parts (not (may_run r)) (has_place r chain.id)
step_looked r is (On Emptied) stays = absurd (cc)
step_looked r is (On (Ended id end)) stays = end_looked r is id (request_at r id) end
step_looked r is Turn stays = is

-- ---- events

-- so does each event, unless it says that of this ring
abbrev pub keeps : ℕ → Event → Bool
keeps i (event.Ring j Emptied) = not (j == i)
keeps i e = true

abbrev pub Keep : ℕ → List Event → Type 0
Keep i [] = Unit {0}
Keep i (e ∷ es) = (keeps i e ≡ true) × Keep i es

module _ (i : ℕ) where
  listed : (b : Bool) (x : RingStep) (r : RingState) → stays_by x ≡ true → is_looked_at r ≡ true
      → is_looked_at (ring_story.after (if b then x ∷ [] else []) r) ≡ true
  listed true x r stays is = step_looked r is x stays
  listed false x r stays is = is

  event_looked : (e : Event) (s : RingsState) (r : RingState) → keeps i e ≡ true → is_looked_at r ≡ true
      → is_looked_at (ring_story.after (steps_of i s e) r) ≡ true
  event_looked (event.Ring j Start) s r kept is = listed (j == i && admits s.turn j Start) (On Start) r refl is
  event_looked (event.Ring j Stop) s r kept is = listed (j == i && admits s.turn j Stop) (On Stop) r refl is
  event_looked (event.Ring j (Enable on)) s r kept is =
      listed (j == i && admits s.turn j (Enable on)) (On (Enable on)) r refl is
  event_looked (event.Ring j Break) s r kept is = listed (j == i && admits s.turn j Break) (On Break) r refl is
  event_looked (event.Ring j Kick) s r kept is = listed (j == i && admits s.turn j Kick) (On Kick) r refl is
  event_looked (event.Ring j (Popped chain parts bytes)) s r kept is = let e = Popped chain parts bytes in
      listed (j == i && admits s.turn j e) (On e) r refl is
  event_looked (event.Ring j Emptied) s r kept is = go (j == i) kept
    where
      go : (b : Bool) → not b ≡ true
          → is_looked_at (ring_story.after (if b && admits s.turn j Emptied then On Emptied ∷ [] else []) r) ≡ true
      go true not = absurd (cc)
      go false not = is
  event_looked (event.Ring j (Ended id end)) s r kept is = let e = Ended id end in
      listed (j == i && admits s.turn j e) (On e) r refl is
  event_looked event.GoOn s r kept is = listed (takes_turn s i) Turn r refl is
  event_looked event.Hold s r kept is = is
  event_looked event.Release s r kept is = is

  after_both : (xs ys : List RingStep) (r : RingState)
      → ring_story.after (xs ++ ys) r ≡ ring_story.after ys (ring_story.after xs r)
  after_both [] ys r = refl
  after_both (x ∷ xs) ys r = after_both xs ys (ring_story.stepped r x).0

  story_looked : (es : List Event) (s : RingsState) (r : RingState) → Keep i es → is_looked_at r ≡ true
      → is_looked_at (ring_story.after (story_of i es s) r) ≡ true
  story_looked [] s r keep is = is
  story_looked (e ∷ es) s r keep is =
      ap is_looked_at (after_both (steps_of i s e) (story_of i es (rings.happens s e).0) r)
      ∙ story_looked es (rings.happens s e).0 (ring_story.after (steps_of i s e) r) keep.1 (event_looked e s r keep.0 is)

  keep-append : (xs ys : List Event) → Keep i xs → Keep i ys → Keep i (xs ++ ys)
  keep-append [] ys one other = other
  keep-append (x ∷ xs) ys one other = (one.0, keep-append xs ys one.1 other)

  -- a message, the end of one and the end of the connection keep it
  until_keep : (u : Until) → Keep i (events_until u)
  until_keep until.Now = tt
  until_keep (until.Ring j) = (refl, tt)
  until_keep until.AllRings = (refl, tt)

  refused_keep : (o : Result Connection Refusal) → Keep i (events_if_refused o)
  refused_keep (Ok new) = tt
  refused_keep (Err e) = (refl, tt)

  due_keep : (b : BackendState) (request : FrontendReq) (payload : List ℕ) (due : Bool)
      → Keep i (events_if_due b request payload due)
  due_keep b request payload true = refused_keep (served b.connection request payload)
  due_keep b request payload false = tt

  refreshing_keep : (c : Connection) (n : ℕ) → Keep i (refreshing c n)
  refreshing_keep c zero = tt
  refreshing_keep c (suc n) = keep-append (refreshing c n)
      (event.Ring n (Enable (is_ok (running c n))) ∷ starts_if (is_ok (running c n)) n) (refreshing_keep c n)
      (refl, go (is_ok (running c n)))
    where
      go : (on : Bool) → Keep i (starts_if on n)
      go true = (refl, tt)
      go false = tt

  done_keep : (t : BackendState × Bool) → Keep i (events_if_done t)
  done_keep (b, true) = refreshing_keep b.connection (length b.placings)
  done_keep (b, false) = (refl, tt)

  module _ (b : BackendState) where
    waiting_keep : (e : Event) (t : Taken) → Keep i (events_of_waiting b e t)
    waiting_keep e taken_by.Nothing = tt
    waiting_keep e taken_by.Over = tt
    waiting_keep e (taken_by.Begun h request) = tt
    waiting_keep e (taken_by.Waits h request u) = due_keep b request [] (is_due u (rings.happens b.rings e).1)

    request_keep : (request : FrontendReq) (payload : List ℕ) (u : Until)
        → Keep i (events_of_request b request payload u)
    request_keep request payload u =
        keep-append (events_until u) (events_if_due b request payload (is_due u (waited b.rings u).1)) (until_keep u)
        (due_keep b request payload (is_due u (waited b.rings u).1))

    decoded_keep : (payload : List ℕ) (n : ℕ) (used : Bool) (o : Result FrontendReq Refusal)
        → Keep i (events_of_decoded b payload n used o)
    decoded_keep payload n used (Err e) = tt
    decoded_keep payload n used (Ok request) = go (n == descriptors_of request)
      where
        go : (right : Bool)
            → Keep i (if right then events_of_request b request payload (until_of b used request) else [])
        go true = request_keep request payload (until_of b used request)
        go false = tt

    pub came_keep : (h : Header) (payload : List ℕ) (n : ℕ) (used : Bool) → Keep i (events_of b (Came h payload n used))
    came_keep h payload n used = go (is_free b.taken)
      where
        go : (free : Bool) → Keep i (if free then events_of_decoded b payload n used (request_of h payload) else [])
        go true = decoded_keep payload n used (request_of h payload)
        go false = tt

    pub end_keep : (end : Finish) → Keep i (events_of b (Done end))
    end_keep end = go b.taken
      where
        go : (t : Taken) → Keep i (events_of_end b end t)
        go taken_by.Nothing = tt
        go taken_by.Over = tt
        go (taken_by.Waits h request u) = tt
        go (taken_by.Begun h request) = (refl, done_keep (rebased (released b) request end))

    pub told_keep : (e : Event) → keeps i e ≡ true → Keep i (events_of b (Told e))
    told_keep e is = go (is_outer e)
      where
        go : (outer : Bool) → Keep i (if outer then e ∷ events_of_waiting b e b.taken else [])
        go true = (is, waiting_keep e b.taken)
        go false = tt

  -- a ring that is looked at stays so
  pub still_looked : (b : BackendState) (x : Happening) → Keep i (events_of b x)
      → IsSomeAnd (slice_get b.rings.rings i) (λ r. is_looked_at r ≡ true)
      → IsSomeAnd (slice_get (stepped b x).rings.rings i) (λ r. is_looked_at r ≡ true)
  still_looked b x keep = go (slice_get b.rings.rings i) refl
    where
      go : (o : Option RingState) → slice_get b.rings.rings i ≡ o → IsSomeAnd o (λ r. is_looked_at r ≡ true)
          → IsSomeAnd (slice_get (stepped b x).rings.rings i) (λ r. is_looked_at r ≡ true)
      go None none is = absurd is
      go (Some r) there is =
          subst (λ (o : Option RingState). IsSomeAnd o (λ r. is_looked_at r ≡ true)) (sym (goes_to b x i r there))
          (story_looked (events_of b x) b.rings r keep is)

-- one that is kicked is looked at
pub kick_looks : (b : BackendState) (i : ℕ) (r : RingState) → slice_get b.rings.rings i ≡ Some r
    → IsSomeAnd (slice_get (stepped b (Told (event.Ring i Kick))).rings.rings i) (λ r. is_looked_at r ≡ true)
kick_looks b i r there =
    let x : Happening = Told (event.Ring i Kick) in
    let rest = story_of i (events_of_waiting b (event.Ring i Kick) b.taken) (rings.happens b.rings (event.Ring i Kick)).0 in
    let on : is_looked_at (ring_story.after (story b x i) r) ≡ true =
    ap (λ (v : Bool). is_looked_at (ring_story.after ((if v && true then On Kick ∷ [] else []) ++ rest) r))
    (eq-eqb i i refl)
    ∙ story_looked i (events_of_waiting b (event.Ring i Kick) b.taken) (rings.happens b.rings (event.Ring i Kick)).0
    (record r { kicked = true }) (waiting_keep i b (event.Ring i Kick) b.taken) refl in
    subst (λ (o : Option RingState). IsSomeAnd o (λ r. is_looked_at r ≡ true)) (sym (goes_to b x i r there)) on

-- ---- what a back end is that was reached

these_both : (xs ys : List Occurrence) (b : BackendState) → after_these (xs ++ ys) b ≡ after_these ys (after_these xs b)
these_both [] ys b = refl
these_both (x ∷ xs) ys b = these_both xs ys (occurred b x)

pub reached_more : (b : BackendState) (x : Occurrence) → IsReached b → IsReached (occurred b x)
reached_more b x (c, ids, xs, is) = (
  c,
  ids,
  xs ++ x ∷ [],
  ap (λ (v : BackendState). occurred v x) is ∙ sym (these_both xs (x ∷ []) (new_backend c ids)),
)

same_rings : (b : BackendState) (o : Result Connection Refusal)
    → ((changed_by b o).rings ≡ b.rings) × ((changed_by b o).taken ≡ b.taken)
same_rings b (Ok new) = (refl, refl)
same_rings b (Err e) = (refl, refl)

pub config_rings : (b : BackendState) (offset : ℕ) (bytes : List ℕ) → (config_changed b offset bytes).rings ≡ b.rings
config_rings b offset bytes = (same_rings b (with_changed_config b.connection offset bytes)).0

-- as many rings as before
pub same_count : (b : BackendState) (x : Occurrence) → length (occurred b x).rings.rings ≡ length b.rings.rings
same_count b (happens x) =
    ap (λ (s : RingsState). length s.rings) (step_rings b x) ∙ all_count b.rings (events_of b x)
same_count b (reconfigures offset bytes) = ap (λ (s : RingsState). length s.rings) (config_rings b offset bytes)

occurred_fits : (b : BackendState) (x : Occurrence) → FitsIn b → FitsIn (occurred b x)
occurred_fits b (happens x) fits = step_fits b fits x
occurred_fits b (reconfigures offset bytes) fits = go (with_changed_config b.connection offset bytes)
  where
    go : (o : Result Connection Refusal) → FitsIn (changed_by b o)
    go (Ok new) = fits
    go (Err e) = fits

these_fit : (b : BackendState) (xs : List Occurrence) → FitsIn b → FitsIn (after_these xs b)
these_fit b [] fits = fits
these_fit b (x ∷ xs) fits = these_fit (occurred b x) xs (occurred_fits b x fits)

pub reached_fits : (b : BackendState) → IsReached b → FitsIn b
reached_fits b (c, ids, xs, is) = subst FitsIn (sym is) (these_fit (new_backend c ids) xs refl)
