-- Rings run as the protocol's state has it.
use Rattle.std.proofs.Common.{◌≡◌, ◌⊎◌, ◌∙◌, ℕ, zero, suc, ◌<◌, ◌==◌, ◌&&◌, not, nat_lt, Bool, true, false, List, [], ◌∷◌, ◌++◌, length, set, Option, Some, None, Result, Ok, Err, is_ok, if◌then◌else◌, refl, ap, subst, sym, arith, inl, inr}
use Rattle.std.specs.List.{list_any, slice_get}
use Rattle.std.proofs.Math.ListN.{length-replicate, length-set}
use Rattle.std.proofs.lemmas.Bool.{and_parts, cases_eq, cases_lt, eq-eqb, ne_eqb}
use Rattle.std.proofs.lemmas.List.{append-nil}
use Rattle.std.proofs.lemmas.Option.{slice_get_cases, slice_get_within}
use Rattle.vhost_message.specs.FrontendReq.{descriptors_of, request_of}
use Rattle.vhost_message.specs.declared.frontend_req.FrontendReq.{FrontendReq}
use Rattle.vhost_message.specs.declared.header.Header.{Header}
use Rattle.vhost_message.specs.declared.refusal.Refusal.{Refusal}
use Rattle.vhost_message.specs.declared.refusal.Refusal.TheVariants.{Descriptors}
use Rattle.vhost_user.specs.Connection.{Connection, connected, served, with_base}
use Rattle.vhost_user.specs.Running.{running, with_vring}
use Rattle.vhost_user.specs.Vring.{new_vring}
use Rattle.vhost_user.specs.declared.backend_req_handler.Offer.{Offer}
use Rattle.vhost_user.specs.declared.vring.Vring.{Vring}
use Rattle.vhost_backend.proofs.AnswerLemmas.{rebased_taken, refreshed_taken}
use Rattle.vhost_backend.proofs.AtRestLemmas.{all_count}
use Rattle.vhost_backend.proofs.BackendLemmas.{refreshed_length}
use Rattle.vhost_backend.proofs.FitLemmas.{FitsIn, FitsUntil, answered_at, answers_at, event_count, never, own_answers, step_fits, until_fits}
use Rattle.vhost_backend.proofs.MessageLemmas.{placed_connection, placed_rings, placed_taken, rebased_rings, refreshed_connection, step_rings}
use Rattle.vhost_backend.proofs.OwnWayLemmas.{get-replicate, one_event, released_same}
use Rattle.vhost_backend.proofs.RefuseLemmas.{hold_rings, step_keeps, stops_there}
use Rattle.vhost_backend.specs.Actions.{is_answer, if_so}
use Rattle.vhost_backend.specs.Backend.{BackendState, after_event, after_finish, after_message, begun, begun_by, begun_or_waits, decoded, finish_by, finished, happened, happened_by, is_due, is_free, is_outer, new_backend, placed, rebased, rebased_at, rebased_by, refreshed, refused, released, started_if, stopped_ring, taken_until, to_do, to_place, until_of, waited, with_outcome}
use Rattle.vhost_backend.specs.Messages.{Happening, Came, Done, Told, HungUp, after, events_of, stepped}
use Rattle.vhost_backend.specs.Ring.{RingState, Step, after_break, after_turn, begun as begun_ring, broken, ended, has_place, is_broken, is_idle, is_started, is_stopped, is_stopping, may_run, new_ring, pops, request_at, started, step, with_moved, with_request}
use Rattle.vhost_backend.specs.Ring as ring
use Rattle.vhost_backend.specs.Rings.{RingsState, admits, happens, nothing}
use Rattle.vhost_backend.specs.Story.{RingStep, On, Turn, actions, after as after_steps, stepped as stepped_ring}
use Rattle.vhost_backend.specs.Turns.{own_actions, steps_of, takes_turn}
use Rattle.vhost_backend.specs.declared.backend.Finish.{Finish}
use Rattle.vhost_backend.specs.declared.backend.Finish.TheVariants as end
use Rattle.vhost_backend.specs.declared.backend.Outcome.TheVariants.{Stays}
use Rattle.vhost_backend.specs.declared.backend.Placing.TheVariants.{Placed}
use Rattle.vhost_backend.specs.declared.backend.Placing.TheVariants as placing
use Rattle.vhost_backend.specs.declared.backend.Taken.{Taken}
use Rattle.vhost_backend.specs.declared.backend.Taken.TheVariants as taken
use Rattle.vhost_backend.specs.declared.backend.Until.{Until}
use Rattle.vhost_backend.specs.declared.backend.Until.TheVariants.{Now, Ring, AllRings}
use Rattle.vhost_backend.specs.declared.request.Chain.{Chain}
use Rattle.vhost_backend.specs.declared.request.PartEnd.{PartEnd}
use Rattle.vhost_backend.specs.declared.request.PartEnd.TheVariants.{Moved, Failed}
use Rattle.vhost_backend.specs.declared.request.Request.{Request}
use Rattle.vhost_backend.specs.declared.ring.Phase.{Phase}
use Rattle.vhost_backend.specs.declared.ring.Phase.TheVariants.{Stopped, Started, Broken, Stopping}
use Rattle.vhost_backend.specs.declared.ring.RingEvent.{RingEvent}
use Rattle.vhost_backend.specs.declared.ring.RingEvent.TheVariants.{Start, Stop, Enable, Break, Kick, Popped, Emptied, Ended}
use Rattle.vhost_backend.specs.declared.ring.actions.RingAction.{RingAction}
use Rattle.vhost_backend.specs.declared.ring.actions.RingAction.TheVariants as action
use Rattle.vhost_backend.specs.declared.rings.Actions.{Actions}
use Rattle.vhost_backend.specs.declared.rings.Event.{Event}
use Rattle.vhost_backend.specs.declared.rings.Event.TheVariants as event

abbrev chosen : Bool → Step → Step → Step
chosen b one other = if b then one else other

-- ---- a step of a ring from outside

abbrev Outer : RingState → Step → Type 0
Outer r t = (t.0.enabled ≡ r.enabled) × (is_stopping t.0.phase ≡ true → is_stopping r.phase ≡ true)
    × (is_stopped t.0.phase ≡ true → (is_stopped r.phase ≡ true)
    ⊎ ((is_stopping r.phase ≡ true) × (list_any is_answer t.1 ≡ true)))

module _ (r : RingState) where
  same_outer : (new : RingState) (acts : List RingAction) → new.enabled ≡ r.enabled → new.phase ≡ r.phase
      → Outer r (new, acts)
  same_outer new acts enabled phase =
      (enabled, λ is. ap is_stopping (sym phase) ∙ is, λ is. inl (ap is_stopped (sym phase) ∙ is))

  break_outer : (p : Phase) → Outer r (broken r p)
  break_outer Started = (refl, λ is. absurd (cc), λ is. absurd (cc))
  break_outer Stopped = same_outer r [] refl refl
  break_outer Broken = same_outer r [] refl refl
  break_outer Stopping = same_outer r [] refl refl

  begin_outer : (chain : Chain) (parts : ℕ) (none : Bool) → Outer r (chosen none
      (record r { owes = true }, action.Return chain 0 false ∷ []) (
        with_request r chain.id (Some (record { slots = chain.slots; left = parts; moved = 0 })),
        action.Serve chain.id parts ∷ [],
      ))
  begin_outer chain parts true =
      same_outer (record r { owes = true }) (action.Return chain 0 false ∷ []) refl refl
  begin_outer chain parts false =
      same_outer (with_request r chain.id (Some (record { slots = chain.slots; left = parts; moved = 0 })))
      (action.Serve chain.id parts ∷ []) refl refl

  pop_outer : (chain : Chain) (parts : ℕ) (runs has : Bool)
      → Outer r (chosen (not runs) (r, []) (chosen has (begun_ring r chain parts) (after_break r)))
  pop_outer chain parts false has = same_outer r [] refl refl
  pop_outer chain parts true false = break_outer r.phase
  pop_outer chain parts true true = begin_outer chain parts (parts == 0)

  return_outer : (new : RingState) (chain : Chain) (moved : ℕ) (failed b : Bool) → new.enabled ≡ r.enabled
      → new.phase ≡ r.phase → (is_stopping new.phase && is_idle new) ≡ b → (let gone = action.Return chain moved failed in
      Outer r (chosen b (record new { phase = Stopped; owes = false }, gone ∷ action.Notify ∷ action.Stopped ∷ [])
      (record new { owes = true }, gone ∷ [])))
  return_outer new chain moved failed true enabled phase is = (
    enabled,
    λ bad. absurd (cc),
    λ stops. inr (ap is_stopping (sym phase) ∙ (and_parts _ _ is).0, refl),
  )
  return_outer new chain moved failed false enabled phase is =
      same_outer (record new { owes = true }) (action.Return chain moved failed ∷ []) enabled phase

  gone_outer : (i : ℕ) (q : Request) (failed : Bool) → Outer r (ring.returned r i q failed)
  gone_outer i q failed = let new = with_request r i None in
      return_outer new (record { id = i; slots = q.slots }) q.moved failed (is_stopping new.phase && is_idle new) refl
      refl refl

  moved_outer : (i : ℕ) (q : Request) (b : Bool)
      → Outer r (chosen b (with_request r i (Some q), action.Serve i q.left ∷ []) (ring.returned r i q false))
  moved_outer i q true = same_outer (with_request r i (Some q)) (action.Serve i q.left ∷ []) refl refl
  moved_outer i q false = gone_outer i q false

  end_outer : (i : ℕ) (o : Option Request) (end : PartEnd) → Outer r (ended r i o end)
  end_outer i None end = same_outer r [] refl refl
  end_outer i (Some q) (Moved count) = moved_outer i (with_moved q count) (nat_lt 0 (with_moved q count).left)
  end_outer i (Some q) Failed = gone_outer i q true

  step_outer : (j : ℕ) (e : RingEvent) → is_outer (event.Ring j e) ≡ true → Outer r (step r e)
  step_outer j Start is = absurd (cc)
  step_outer j Stop is = absurd (cc)
  step_outer j (Enable on) is = absurd (cc)
  step_outer j Break is = break_outer r.phase
  step_outer j Kick is = same_outer (record r { kicked = true }) [] refl refl
  step_outer j (Popped chain parts bytes) is = pop_outer chain parts (may_run r) (has_place r chain.id)
  step_outer j Emptied is = same_outer (record r { kicked = false }) [] refl refl
  step_outer j (Ended i end) is = end_outer i (request_at r i) end

  listed_outer : (b : Bool) (x : RingStep) → Outer r (stepped_ring r x)
      → (let steps : List RingStep = if b then x ∷ [] else [] in Outer r (after_steps steps r, actions steps r))
  listed_outer true x outer = rw (append-nil (stepped_ring r x).1) outer
  listed_outer false x outer = same_outer r [] refl refl

  steps_outer : (i : ℕ) (s : RingsState) (e : Event) → is_outer e ≡ true
      → Outer r (after_steps (steps_of i s e) r, actions (steps_of i s e) r)
  steps_outer i s (event.Ring j e) is = listed_outer (j == i && admits s.turn j e) (On e) (step_outer j e is)
  steps_outer i s event.GoOn is = listed_outer (takes_turn s i) Turn
      (same_outer (after_turn r).0 (after_turn r).1 refl refl)
  steps_outer i s event.Hold is = absurd (cc)
  steps_outer i s event.Release is = absurd (cc)

-- ---- what rings are

-- a ring is enabled as the protocol's state has it, and is not stopped if it runs by that
abbrev Agrees : Bool → RingState → Type 0
Agrees on r = (r.enabled ≡ on) × (on ≡ true → is_stopped r.phase ≡ false)

abbrev AllAgree : Connection → List RingState → Type 0
AllAgree c rings = (i : ℕ) (r : RingState) → slice_get rings i ≡ Some r → Agrees (is_ok (running c i)) r

abbrev NoneStops : List RingState → Type 0
NoneStops rings = (i : ℕ) (r : RingState) → slice_get rings i ≡ Some r → is_stopping r.phase ≡ false

abbrev OneStops : ℕ → List RingState → Type 0
OneStops j rings = (i : ℕ) (r : RingState) → slice_get rings i ≡ Some r → is_stopping r.phase ≡ true → j ≡ i

abbrev Runs : Taken → Connection → List RingState → Type 0
Runs taken.Nothing c rings = AllAgree c rings × NoneStops rings
Runs (taken.Waits h request Now) c rings = AllAgree c rings × NoneStops rings
Runs (taken.Waits h request (Ring j)) c rings = AllAgree c rings × OneStops j rings
Runs (taken.Waits h request AllRings) c rings = AllAgree c rings × NoneStops rings
Runs (taken.Begun h request) c rings = NoneStops rings
Runs taken.Over c rings = Unit {0}

abbrev RunsIn : BackendState → Type 0
RunsIn b = Runs b.taken b.connection b.rings.rings

-- not true is false
not_true : (b : Bool) → (b ≡ true → ⊥) → b ≡ false
not_true true bad = absurd (bad refl)
not_true false bad = refl

same_ring : (o : Option RingState) (one other : RingState) → o ≡ Some one → o ≡ Some other → one ≡ other
same_ring o one other is was = let both : Some one ≡ Some other = sym is ∙ was in cc

-- a ring that is there after an event was there before
was_there : (s : RingsState) (e : Event) (i : ℕ) (new : RingState) → slice_get (happens s e).0.rings i ≡ Some new
    → (r : RingState) × (slice_get s.rings i ≡ Some r)
was_there s e i new there = elim (slice_get_cases s.rings i).1 [
  | inl (r, inside, found, other) ↦ (r, found)
  | inr (past, none) ↦
      absurd (omega (arith, slice_get_within (happens s e).0.rings i new there, past, event_count s e))
]

-- ---- an event from outside

outer_by : (r one other : RingState) (acts others : List RingAction) → one ≡ other → acts ≡ others
    → Outer r (one, acts) → Outer r (other, others)
outer_by r one other acts others same are changes = rw (← same, ← are) changes

module _ (s : RingsState) (e : Event) (outer : is_outer e ≡ true) where
  -- what it was, and how it changed
  changed : (i : ℕ) (new : RingState) → slice_get (happens s e).0.rings i ≡ Some new
      → (r : RingState) × (slice_get s.rings i ≡ Some r) × Outer r (new, own_actions i (happens s e).1)
  changed i new there =
      let (r, was) = was_there s e i new there in
      let (goes, does) = one_event i r s was e in
      let same : after_steps (steps_of i s e) r ≡ new =
      same_ring (slice_get (happens s e).0.rings i) (after_steps (steps_of i s e) r) new goes there in (
        r,
        was,
        outer_by r (after_steps (steps_of i s e) r) new (actions (steps_of i s e) r) (own_actions i (happens s e).1) same
            (sym does) (steps_outer r i s e outer),
      )

  outer_agrees : (c : Connection) → AllAgree c s.rings → ((i : ℕ) (r : RingState) → slice_get s.rings i ≡ Some r
      → is_stopping r.phase ≡ true → list_any is_answer (own_actions i (happens s e).1) ≡ false)
      → AllAgree c (happens s e).0.rings
  outer_agrees c agree silent i new there =
      let (r, was, (enabled, stopping, stopped)) = changed i new there in
      let (on, starts) = agree i r was in (
        enabled ∙ on,
        λ runs. not_true (is_stopped new.phase) (λ bad. elim (stopped bad) [
          | inl before ↦ never (is_stopped r.phase) (starts runs) before
          | inr (stops, answered) ↦
              never (list_any is_answer (own_actions i (happens s e).1)) (silent i r was stops) answered
        ]),
      )

  outer_none : NoneStops s.rings → NoneStops (happens s e).0.rings
  outer_none none i new there =
      let (r, was, (enabled, stopping, stopped)) = changed i new there in
      not_true (is_stopping new.phase) (λ bad. never (is_stopping r.phase) (none i r was) (stopping bad))

  outer_one : (j : ℕ) → OneStops j s.rings → OneStops j (happens s e).0.rings
  outer_one j one i new there stops =
      let (r, was, (enabled, stopping, stopped)) = changed i new there in
      one i r was (stopping stops)

-- ---- a ring that is stopped

module _ (s : RingsState) (j : ℕ) where
  -- another ring stays as it is
  other_stays : (i : ℕ) (new : RingState) → (j ≡ i → ⊥) → slice_get (happens s (event.Ring j Stop)).0.rings i ≡ Some new
      → slice_get s.rings i ≡ Some new
  other_stays i new differs there =
      let (r, was) = was_there s (event.Ring j Stop) i new there in
      let (goes, does) = rw (ne_eqb j i differs) at (one_event i r s was (event.Ring j Stop)) in
      let same : r ≡ new = same_ring (slice_get (happens s (event.Ring j Stop)).0.rings i) r new goes there in
      rw (← same) was

  -- it stops, if it is answered
  stop_changes : (r : RingState) (idle : Bool) → (let t = chosen idle
      (record r { phase = Stopped; owes = false }, if_so r.owes action.Notify ++ action.Stopped ∷ [])
      (record r { phase = Stopping }, []) in (t.0.enabled ≡ r.enabled)
      × (list_any is_answer t.1 ≡ false → is_stopped t.0.phase ≡ false))
  stop_changes r true = (refl, λ silent. absurd (go r.owes silent))
    where
      go : (owes : Bool) → list_any is_answer (if_so owes action.Notify ++ action.Stopped ∷ []) ≡ false → ⊥
      go true silent = absurd (cc)
      go false silent = absurd (cc)
  stop_changes r false = (refl, λ silent. refl)

  -- and is no longer stopped if it waits
  self_agrees : (c : Connection) → AllAgree c s.rings → answers_at j (happens s (event.Ring j Stop)).1 ≡ false
      → (new : RingState) → slice_get (happens s (event.Ring j Stop)).0.rings j ≡ Some new
      → Agrees (is_ok (running c j)) new
  self_agrees c agree due new there =
      let (r, was) = was_there s (event.Ring j Stop) j new there in
      let (goes, does) = rw (eq-eqb j j refl) at (one_event j r s was (event.Ring j Stop)) in
      let one : (step r Stop).0 ≡ new =
      same_ring (slice_get (happens s (event.Ring j Stop)).0.rings j) (step r Stop).0 new goes there in
      let silent : list_any is_answer (step r Stop).1 ≡ false =
      ap (list_any is_answer) (sym (append-nil (step r Stop).1) ∙ sym does)
      ∙ own_answers j (happens s (event.Ring j Stop)).1 ∙ due in
      let (enabled, stays) = stop_changes r (is_idle r) in
      let (on, starts) = agree j r was in
      (ap (λ q. q.enabled) (sym one) ∙ enabled ∙ on, λ runs. ap (λ q. is_stopped q.phase) (sym one) ∙ stays silent)

  waits_agrees : (c : Connection) → AllAgree c s.rings → answers_at j (happens s (event.Ring j Stop)).1 ≡ false
      → AllAgree c (happens s (event.Ring j Stop)).0.rings
  waits_agrees c agree due i new there = elim (cases_eq j i) [
    | inl same ↦ subst (λ k. slice_get (happens s (event.Ring j Stop)).0.rings k ≡ Some new
        → Agrees (is_ok (running c k)) new) same (self_agrees c agree due new) there
    | inr differs ↦ agree i new (other_stays i new differs there)
  ]

  one_stops : NoneStops s.rings → OneStops j (happens s (event.Ring j Stop)).0.rings
  one_stops none i new there stops = elim (cases_eq j i) [
    | inl same ↦ same
    | inr differs ↦ never (is_stopping new.phase) (none i new (other_stays i new differs there)) stops
  ]

-- none stops after the message is answered
none_after : (s : RingsState) (e : Event) (j : ℕ) (r : RingState) → slice_get s.rings j ≡ Some r
    → answers_at j (happens s e).1 ≡ true → OneStops j (happens s e).0.rings → NoneStops (happens s e).0.rings
none_after s e j r there due one i new found = not_true (is_stopping new.phase) (λ stops.
    let (rests, at, (phase, idle, owes)) = answered_at s j e r there due in
    let same : j ≡ i = one i new found stops in
    let here : slice_get (happens s e).0.rings i ≡ Some rests =
    subst (λ k. slice_get (happens s e).0.rings k ≡ Some rests) same at in
    let is : rests ≡ new = same_ring (slice_get (happens s e).0.rings i) rests new here found in
    let bad : is_stopping Stopped ≡ true = ap is_stopping (sym phase) ∙ ap (λ q. is_stopping q.phase) is ∙ stops in
    absurd (cc))

-- ---- messages that take effect or wait

begun_runs : (b : BackendState) (h : Header) (request : FrontendReq) (payload : List ℕ)
    → AllAgree b.connection b.rings.rings → NoneStops b.rings.rings → RunsIn (begun b h request payload).0
begun_runs b h request payload agree none = go (served b.connection request payload)
  where
    go : (o : Result Connection Refusal) → RunsIn (begun_by b h request o).0
    go (Ok new) = none
    go (Err e) = rw (released_same b.rings b.rings.hold).0 (agree, none)

-- one that stops a ring is not refused
stopping_runs : (b : BackendState) (h : Header) (request : FrontendReq) (payload : List ℕ) (j : ℕ)
    → stopped_ring request ≡ Some j → j < length b.connection.vrings → NoneStops b.rings.rings
    → RunsIn (begun b h request payload).0
stopping_runs b h request payload j is below none = go (served b.connection request payload) refl
  where
    go : (o : Result Connection Refusal) → served b.connection request payload ≡ o → RunsIn (begun_by b h request o).0
    go (Ok new) fails = none
    go (Err e) fails = absurd (stops_there b.connection request payload j e is below fails)

-- ---- a message comes

module _ (b : BackendState) (agree : AllAgree b.connection b.rings.rings) (none : NoneStops b.rings.rings)
    (count : length b.connection.vrings ≡ length b.rings.rings) (h : Header) (request : FrontendReq)
    (payload : List ℕ) where
  waited_runs : (until : Until) → FitsUntil request until (length b.rings.rings)
      → RunsIn (taken_until b h request payload until).0
  waited_runs Now fits =
      let old : BackendState = record b { rings = b.rings } in
      let new = placed old (nothing 0) in
      begun_runs new h request payload
      (rw (placed_connection old (nothing 0), placed_rings old (nothing 0)) agree) (rw (placed_rings old (nothing 0)) none)
  waited_runs AllRings fits =
      let t = happens b.rings event.Hold in
      let old : BackendState = record b { rings = t.0 } in
      let new = placed old t.1 in
      let rings : new.rings.rings ≡ b.rings.rings = ap (λ s. s.rings) (placed_rings old t.1) ∙ hold_rings b.rings in
      go new t.1.held (rw (placed_connection old t.1, rings) agree) (rw rings none)
    where
      go : (new : BackendState) (due : Bool) → AllAgree new.connection new.rings.rings → NoneStops new.rings.rings
          → RunsIn (begun_or_waits new h request payload AllRings due).0
      go new true agree none = begun_runs new h request payload agree none
      go new false agree none = (agree, none)
  waited_runs (Ring j) (calm, is, below) = elim (slice_get_cases b.rings.rings j).1 [
    | inl (r, inside, there, same) ↦
        let e = event.Ring j Stop in
        let t = happens b.rings e in
        let old : BackendState = record b { rings = t.0 } in
        go (placed old t.1) (answers_at j t.1) refl (placed_connection old t.1)
        (ap (λ s. s.rings) (placed_rings old t.1)) r there
    | inr (past, none) ↦ absurd (omega (arith, below, past))
  ]
    where
      go : (new : BackendState) (due : Bool) → answers_at j (happens b.rings (event.Ring j Stop)).1 ≡ due
          → new.connection ≡ b.connection → new.rings.rings ≡ (happens b.rings (event.Ring j Stop)).0.rings
          → (r : RingState) → slice_get b.rings.rings j ≡ Some r
          → RunsIn (begun_or_waits new h request payload (Ring j) due).0
      go new true due same rings r there =
          let stops = one_stops b.rings j none in
          let all = none_after b.rings (event.Ring j Stop) j r there due stops in
          stopping_runs new h request payload j is (rw (same, count) below) (rw rings all)
      go new false due same rings r there =
          rw (same, rings) (waits_agrees b.rings j b.connection agree due, one_stops b.rings j none)

-- ---- an event comes

module _ (b : BackendState) (runs : RunsIn b) (fits : FitsIn b)
    (count : length b.connection.vrings ≡ length b.rings.rings) (e : Event) (outer : is_outer e ≡ true) where
  abbrev later : RingsState
  later = (happens b.rings e).0

  happened_runs : (old : BackendState) (t : Taken) → b.taken ≡ t → old.taken ≡ t → old.connection ≡ b.connection
      → old.rings ≡ later → RunsIn (happened_by old (happens b.rings e).1 t).0
  happened_runs old taken.Nothing is was same rings =
      let (agree, none) = rw is at runs in
      rw (was, same, rings) (
        outer_agrees b.rings e outer b.connection agree
            (λ i r there stops. never (is_stopping r.phase) (none i r there) stops),
        outer_none b.rings e outer none,
      )
  happened_runs old taken.Over is was same rings = rw was tt
  happened_runs old (taken.Begun h request) is was same rings =
      rw (was, rings) (outer_none b.rings e outer (rw is at runs))
  happened_runs old (taken.Waits h request Now) is was same rings = absurd (rw is at fits)
  happened_runs old (taken.Waits h request AllRings) is was same rings =
      let (agree, none) = rw is at runs in
      go (happens b.rings e).1.held (rw (same, rings) (outer_agrees b.rings e outer b.connection agree
      (λ i r there stops. never (is_stopping r.phase) (none i r there) stops)))
      (rw rings (outer_none b.rings e outer none))
    where
      go : (due : Bool) → AllAgree old.connection old.rings.rings → NoneStops old.rings.rings
          → RunsIn (begun_or_waits old h request [] AllRings due).0
      go true agree none = begun_runs old h request [] agree none
      go false agree none = (agree, none)
  happened_runs old (taken.Waits h request (Ring j)) is was same rings =
      let (agree, one) = rw is at runs in
      let (free, (r, there, stops), calm, which) = rw is at fits in
      go (answers_at j (happens b.rings e).1) refl agree one r there which
    where
      go : (due : Bool) → answers_at j (happens b.rings e).1 ≡ due → AllAgree b.connection b.rings.rings
          → OneStops j b.rings.rings → (r : RingState) → slice_get b.rings.rings j ≡ Some r
          → stopped_ring request ≡ Some j → RunsIn (begun_or_waits old h request [] (Ring j) due).0
      go true due agree one r there which =
          let all = none_after b.rings e j r there due (outer_one b.rings e outer j one) in
          stopping_runs old h request [] j which
          (rw (same, count) (slice_get_within b.rings.rings j r there)) (rw rings all)
      go false due agree one r there which = rw (same, rings) (
        outer_agrees b.rings e outer b.connection agree (λ i q at stops.
            let equal : j ≡ i = one i q at stops in
            own_answers i (happens b.rings e).1 ∙ rw equal at due),
        outer_one b.rings e outer j one,
      )

-- ---- the end of a message

-- an event of a ring that is always admitted
ring_is : (s : RingsState) (n : ℕ) (e : RingEvent) → admits s.turn n e ≡ true → (k : ℕ) (r : RingState)
    → slice_get s.rings k ≡ Some r
    → slice_get (happens s (event.Ring n e)).0.rings k ≡ Some (if n == k then (step r e).0 else r)
ring_is s n e admitted k r there =
    let (goes, does) = rw admitted at (one_event k r s there (event.Ring n e)) in go (n == k) goes
  where
    go : (b : Bool) → slice_get (happens s (event.Ring n e)).0.rings k
        ≡ Some (after_steps (if b && true then On e ∷ [] else []) r)
        → slice_get (happens s (event.Ring n e)).0.rings k ≡ Some (if b then (step r e).0 else r)
    go true is = is
    go false is = is

-- what a ring becomes that is enabled or not, and then started if it is
abbrev started_ring : Bool → RingState → RingState
started_ring true r = (step (step r (Enable true)).0 Start).0
started_ring false r = (step r (Enable false)).0

refreshed_is : (on : Bool) (n : ℕ) (s : RingsState) (k : ℕ) (r : RingState) → slice_get s.rings k ≡ Some r
    → slice_get (started_if on n (happens s (event.Ring n (Enable on))).0).rings k
    ≡ Some (if n == k then started_ring on r else r)
refreshed_is false n s k r there = ring_is s n (Enable false) refl k r there
refreshed_is true n s k r there =
    let s' = (happens s (event.Ring n (Enable true))).0 in
    go (n == k) (ring_is s' n Start refl k (if n == k then (step r (Enable true)).0 else r)
    (ring_is s n (Enable true) refl k r there))
  where
    go : (b : Bool) → (let s' = (happens s (event.Ring n (Enable true))).0 in
        slice_get (happens s' (event.Ring n Start)).0.rings k
        ≡ Some (if b then (step (if b then (step r (Enable true)).0 else r) Start).0
        else (if b then (step r (Enable true)).0 else r))
        → slice_get (happens s' (event.Ring n Start)).0.rings k ≡ Some (if b then started_ring true r else r))
    go true is = is
    go false is = is

refreshed_count : (on : Bool) (n : ℕ) (s : RingsState)
    → length (started_if on n (happens s (event.Ring n (Enable on))).0).rings ≡ length s.rings
refreshed_count false n s = event_count s (event.Ring n (Enable false))
refreshed_count true n s = event_count (happens s (event.Ring n (Enable true))).0 (event.Ring n Start)
    ∙ event_count s (event.Ring n (Enable true))

started_agrees : (on : Bool) (r : RingState) → Agrees on (started_ring on r)
started_agrees false r = (refl, λ is. absurd (cc))
started_agrees true r = go r.phase refl
  where
    go : (p : Phase) → r.phase ≡ p → Agrees true (started (record r { enabled = true }) p)
    go Stopped is = (refl, λ runs. refl)
    go Started is = (refl, λ runs. ap is_stopped is)
    go Broken is = (refl, λ runs. ap is_stopped is)
    go Stopping is = (refl, λ runs. ap is_stopped is)

started_none : (on : Bool) (r : RingState) → is_stopping r.phase ≡ false → is_stopping (started_ring on r).phase ≡ false
started_none false r none = none
started_none true r none = go r.phase
  where
    go : (p : Phase) → is_stopping (started (record r { enabled = true }) p).phase ≡ false
    go Stopped = refl
    go Started = none
    go Broken = none
    go Stopping = none

-- what is known of rings of which the first N are as the protocol's state has them
abbrev FirstAgree : Connection → ℕ → List RingState → Type 0
FirstAgree c n rings = NoneStops rings
    × ((i : ℕ) (r : RingState) → i < n → slice_get rings i ≡ Some r → Agrees (is_ok (running c i)) r)

one_more : (c : Connection) (n : ℕ) (s : RingsState) → FirstAgree c n s.rings
    → (let on = is_ok (running c n) in
    FirstAgree c (suc n) (started_if on n (happens s (event.Ring n (Enable on))).0).rings)
one_more c n s (none, agree) = (
  λ i new there. let (r, was, is) = before i new there in stops i r new is (none i r was),
  λ i new below there. let (r, was, is) = before i new there in agrees i r new is below (λ less. agree i r less was),
)
  where
    on : Bool
    on = is_ok (running c n)

    next : RingsState
    next = started_if on n (happens s (event.Ring n (Enable on))).0

    -- what a ring was
    before : (i : ℕ) (new : RingState) → slice_get next.rings i ≡ Some new
        → (r : RingState) × (slice_get s.rings i ≡ Some r) × (new ≡ (if n == i then started_ring on r else r))
    before i new there = elim (slice_get_cases s.rings i).1 [
      | inl (r, inside, found, other) ↦ (
        r,
        found,
        same_ring (slice_get next.rings i) new (if n == i then started_ring on r else r) there (refreshed_is on n s i r found),
      )
      | inr (past, missing) ↦ absurd (omega (arith, slice_get_within next.rings i new there, past, refreshed_count on n s))
    ]

    stops : (i : ℕ) (r new : RingState) → new ≡ (if n == i then started_ring on r else r) → is_stopping r.phase ≡ false
        → is_stopping new.phase ≡ false
    stops i r new is not = rw is (go (n == i))
      where
        go : (b : Bool) → (let q : RingState = if b then started_ring on r else r in is_stopping q.phase ≡ false)
        go true = started_none on r not
        go false = not

    agrees : (i : ℕ) (r new : RingState) → new ≡ (if n == i then started_ring on r else r) → i < suc n
        → (i < n → Agrees (is_ok (running c i)) r) → Agrees (is_ok (running c i)) new
    agrees i r new is below agree = elim (cases_eq n i) [
      | inl same ↦ let started : new ≡ started_ring on r = is ∙ rw (same, eq-eqb i i refl) refl in
          rw (started, ← same) (started_agrees on r)
      | inr differs ↦ let stays : new ≡ r = is ∙ rw (ne_eqb n i differs) refl in
          rw stays (agree (less i below differs))
    ]
      where
        less : (i : ℕ) → i < suc n → (n ≡ i → ⊥) → i < n
        less i below differs = elim (cases_lt i n) [
          | inl is ↦ is
          | inr past ↦ let same : n ≡ i = omega arith in absurd (differs same)
        ]

agree_by : (c other : Connection) (n : ℕ) (rings : List RingState) → c ≡ other → FirstAgree c n rings
    → FirstAgree other n rings
agree_by c other n rings same agree = rw (← same) agree

refreshed_agree : (n : ℕ) (b : BackendState) → NoneStops b.rings.rings
    → FirstAgree b.connection n (refreshed n b).rings.rings
refreshed_agree zero b none = (none, λ i r below. absurd (omega arith))
refreshed_agree (suc n) b none =
    let before = refreshed n b in
    let same = refreshed_connection n b in
    agree_by before.connection b.connection (suc n) (refreshed (suc n) b).rings.rings same
    (one_more before.connection n before.rings
    (agree_by b.connection before.connection n before.rings.rings (sym same) (refreshed_agree n b none)))

refreshed_rings_count : (n : ℕ) (b : BackendState) → length (refreshed n b).rings.rings ≡ length b.rings.rings
refreshed_rings_count zero b = refl
refreshed_rings_count (suc n) b = let before = refreshed n b in
    refreshed_count (is_ok (running before.connection n)) n before.rings ∙ refreshed_rings_count n b

free_runs : (t : Taken) (c other : Connection) (rings : List RingState) → t ≡ taken.Nothing → c ≡ other
    → AllAgree other rings → NoneStops rings → Runs t c rings
free_runs t c other rings is same agree none = rw (is, same) (agree, none)

finished_runs : (request : FrontendReq) (h : Header) (t : BackendState × Bool) → t.0.taken ≡ taken.Nothing
    → NoneStops t.0.rings.rings → length t.0.placings ≡ length t.0.rings.rings → RunsIn (finished request h t).0
finished_runs request h (b, false) is none places = tt
finished_runs request h (b, true) is none places =
    let n = length b.placings in
    let (still, agree) = refreshed_agree n b none in
    let new = refreshed n b in
    free_runs new.taken new.connection b.connection new.rings.rings (refreshed_taken n b ∙ is) (refreshed_connection n b)
    (λ i r there. agree i r (omega (arith, slice_get_within new.rings.rings i r there, refreshed_rings_count n b, places))
    there) still

-- ---- as many places as rings

abbrev pub PlacesKept : BackendState → BackendState → Type 0
PlacesKept b new = length new.placings ≡ length b.placings

placed_places : (b : BackendState) (done : Actions) → PlacesKept b (placed b done)
placed_places b done = go (length done.actions == 0)
  where
    go : (none : Bool) → (let new : BackendState = if none then b else record b { placings = set b.placings done.ring Placed } in
        PlacesKept b new)
    go true = refl
    go false = length-set b.placings done.ring Placed

begun_places : (b : BackendState) (h : Header) (request : FrontendReq) (payload : List ℕ)
    → PlacesKept b (begun b h request payload).0
begun_places b h request payload = go (served b.connection request payload)
  where
    go : (o : Result Connection Refusal) → PlacesKept b (begun_by b h request o).0
    go (Ok new) = refl
    go (Err e) = refl

due_places : (b : BackendState) (h : Header) (request : FrontendReq) (payload : List ℕ) (until : Until) (due : Bool)
    → PlacesKept b (begun_or_waits b h request payload until due).0
due_places b h request payload until true = begun_places b h request payload
due_places b h request payload until false = refl

rebased_places : (b : BackendState) (request : FrontendReq) (end : Finish) → PlacesKept b (rebased b request end).0
rebased_places b request end.Done = refl
rebased_places b request (end.At base) = at (stopped_ring request)
  where
    by : (o : Result Connection Refusal) → PlacesKept b (rebased_by b o).0
    by (Ok new) = refl
    by (Err e) = refl

    at : (o : Option ℕ) → PlacesKept b (rebased_at b base o).0
    at None = refl
    at (Some i) = by (with_base b.connection i base)
rebased_places b request end.Failed = refl

module _ (b : BackendState) where
  message_places : (h : Header) (payload : List ℕ) (n : ℕ) (used : Bool) → PlacesKept b (after_message b h payload n used).0
  message_places h payload n used = go (is_free b.taken)
    where
      decoded_places : (o : Result FrontendReq Refusal) → PlacesKept b (decoded b h payload n used o).0
      decoded_places (Err e) = refl
      decoded_places (Ok request) = right (n == descriptors_of request)
        where
          right : (r : Bool) → PlacesKept b (if r then taken_until b h request payload (until_of b used request)
              else (b, refused b h Descriptors)).0
          right false = refl
          right true =
              let until = until_of b used request in
              let t = waited b.rings until in
              let old : BackendState = record b { rings = t.0 } in
              due_places (placed old t.1) h request payload until (is_due until t.1) ∙ placed_places old t.1

      go : (free : Bool) → PlacesKept b (if free then decoded b h payload n used (request_of h payload)
          else (b, to_do (nothing 0) None Stays)).0
      go true = decoded_places (request_of h payload)
      go false = refl

  event_places : (e : Event) → PlacesKept b (after_event b e).0
  event_places e = let t = happens b.rings e in let old : BackendState = record b { rings = t.0 } in
      go t old (is_outer e) (happened_places (placed old t.1) t.1 (placed old t.1).taken ∙ placed_places old t.1)
    where
      happened_places : (old : BackendState) (done : Actions) (t : Taken) → PlacesKept old (happened_by old done t).0
      happened_places old done taken.Nothing = refl
      happened_places old done taken.Over = refl
      happened_places old done (taken.Begun h request) = refl
      happened_places old done (taken.Waits h request until) = due_places old h request [] until (is_due until done)

      go : (t : RingsState × Actions) (old : BackendState) (outer : Bool)
          → PlacesKept b (happened (placed old t.1) t.1).0
          → PlacesKept b (if outer then with_outcome t.1 (to_place old t.1) (happened (placed old t.1) t.1)
          else (b, to_do (nothing 0) None Stays)).0
      go t old true keeps = keeps
      go t old false keeps = refl

  end_places : (f : Finish) → PlacesKept b (after_finish b f).0
  end_places f = go b.taken
    where
      over : (request : FrontendReq) (h : Header) (t : BackendState × Bool) → PlacesKept b t.0
          → PlacesKept b (finished request h t).0
      over request h (new, true) keeps = refreshed_length (length new.placings) new ∙ keeps
      over request h (new, false) keeps = keeps

      go : (t : Taken) → PlacesKept b (finish_by b f t).0
      go taken.Nothing = refl
      go taken.Over = refl
      go (taken.Waits h request until) = refl
      go (taken.Begun h request) =
          over request h (rebased (released b) request f) (rebased_places (released b) request f)

  pub step_places : (x : Happening) → PlacesKept b (stepped b x)
  step_places (Came h payload n used) = message_places h payload n used
  step_places (Done end) = end_places end
  step_places (Told e) = event_places e
  step_places HungUp = refl

-- ---- all of it

-- what holds of each state
abbrev Whole : BackendState → Type 0
Whole b = RunsIn b × FitsIn b × (length b.connection.vrings ≡ length b.rings.rings)
    × (length b.placings ≡ length b.rings.rings)

module _ (b : BackendState) (whole : Whole b) where
  message_runs : (h : Header) (payload : List ℕ) (n : ℕ) (used : Bool) → RunsIn (stepped b (Came h payload n used))
  message_runs h payload n used = go b.taken refl
    where
      decoded_runs : b.taken ≡ taken.Nothing → (o : Result FrontendReq Refusal) → RunsIn (decoded b h payload n used o).0
      decoded_runs is (Err e) = whole.0
      decoded_runs is (Ok request) = right (n == descriptors_of request)
        where
          right : (r : Bool) → RunsIn (if r then taken_until b h request payload (until_of b used request)
              else (b, refused b h Descriptors)).0
          right false = whole.0
          right true = let (runs, fits, count, places) = whole in let (agree, none) = rw is at runs in
              waited_runs b agree none count h request payload (until_of b used request) (until_fits b used request)

      go : (t : Taken) → b.taken ≡ t → RunsIn (if is_free b.taken
          then decoded b h payload n used (request_of h payload) else (b, to_do (nothing 0) None Stays)).0
      go taken.Nothing is = rw (ap is_free is) (decoded_runs is (request_of h payload))
      go taken.Over is = rw (ap is_free is) whole.0
      go (taken.Waits h' request until) is = rw (ap is_free is) whole.0
      go (taken.Begun h' request) is = rw (ap is_free is) whole.0

  event_runs : (e : Event) → RunsIn (stepped b (Told e))
  event_runs e = go (is_outer e) refl
    where
      go : (o : Bool) → is_outer e ≡ o → (let t = happens b.rings e in let old : BackendState = record b { rings = t.0 } in
          RunsIn (if o then with_outcome t.1 (to_place old t.1) (happened (placed old t.1) t.1)
          else (b, to_do (nothing 0) None Stays)).0)
      go true outer =
          let (runs, fits, count, places) = whole in
          let t = happens b.rings e in
          let old : BackendState = record b { rings = t.0 } in
          rw (placed_taken old t.1) (happened_runs b runs fits count e outer (placed old t.1) b.taken refl
          (placed_taken old t.1) (placed_connection old t.1) (placed_rings old t.1))
      go false outer = whole.0

  end_runs : (end : Finish) (t : Taken) → b.taken ≡ t → RunsIn (finish_by b end t).0
  end_runs end taken.Nothing is = whole.0
  end_runs end taken.Over is = whole.0
  end_runs end (taken.Waits h request until) is = whole.0
  end_runs end (taken.Begun h request) is =
      let (runs, fits, count, places) = whole in
      let none : NoneStops b.rings.rings = rw is at runs in
      let t = rebased (released b) request end in
      let rings : t.0.rings.rings ≡ b.rings.rings =
      ap (λ s. s.rings) (rebased_rings (released b) request end) ∙ (released_same b.rings b.rings.hold).0 in
      finished_runs request h t (rebased_taken (released b) request end) (rw rings none)
      (rebased_places (released b) request end ∙ places ∙ sym (ap length rings))

  step_runs : (x : Happening) → RunsIn (stepped b x)
  step_runs (Came h payload n used) = message_runs h payload n used
  step_runs (Done end) = end_runs end b.taken refl
  step_runs (Told e) = event_runs e
  step_runs HungUp = tt

  step_whole : (x : Happening) → Whole (stepped b x)
  step_whole x =
      let (runs, fits, count, places) = whole in
      let rings : length (stepped b x).rings.rings ≡ length b.rings.rings =
      ap (λ s. length s.rings) (step_rings b x) ∙ all_count b.rings (events_of b x) in (
        step_runs x,
        step_fits b fits x,
        step_keeps b x ∙ count ∙ sym rings,
        step_places b x ∙ places ∙ sym rings,
      )

all_whole : (b : BackendState) (xs : List Happening) → Whole b → Whole (after xs b)
all_whole b [] whole = whole
all_whole b (x ∷ xs) whole = all_whole (stepped b x) xs (step_whole b whole x)

-- ---- a new connection

none_runs : (c : Connection) (o : Option Vring) → ((v : Vring) → o ≡ Some v → v ≡ new_vring)
    → is_ok (with_vring c o) ≡ false
none_runs c None fresh = refl
none_runs c (Some v) fresh = rw (fresh v refl) refl

module _ (offer : Offer) (queues ids : ℕ) (config : List ℕ) where
  abbrev c : Connection
  c = connected offer queues config

  new_runs : RunsIn (new_backend c ids)
  new_runs = (
    λ i r there.
        let fresh : r ≡ new_ring ids = get-replicate (length c.vrings) i (new_ring ids) r there in
        rw (fresh, none_runs c (slice_get c.vrings i) (λ v at. get-replicate queues i new_vring v at))
        (refl, λ is. absurd (cc)),
    λ i r there.
        let fresh : r ≡ new_ring ids = get-replicate (length c.vrings) i (new_ring ids) r there in rw fresh refl,
  )

  new_whole : Whole (new_backend c ids)
  new_whole = (
    new_runs,
    refl,
    sym (length-replicate (length c.vrings) (new_ring ids)),
    length-replicate (length c.vrings) placing.Moved ∙ sym (length-replicate (length c.vrings) (new_ring ids)),
  )

  runs_by : (p : Phase) (enabled on : Bool) → enabled ≡ on → (on ≡ true → is_stopped p ≡ false)
      → is_stopping p ≡ false → (is_started p && enabled) ≡ (on && not (is_broken p))
  runs_by Started enabled true same stays none = same
  runs_by Started enabled false same stays none = same
  runs_by Stopped enabled true same stays none = never true (stays refl) refl
  runs_by Stopped enabled false same stays none = refl
  runs_by Broken enabled true same stays none = refl
  runs_by Broken enabled false same stays none = refl
  runs_by Stopping enabled on same stays none = absurd (cc)

  pub runs : (xs : List Happening) (i : ℕ) (r : RingState) → (let b = after xs (new_backend c ids) in
      is_free b.taken ≡ true → slice_get b.rings.rings i ≡ Some r
      → may_run r ≡ (is_ok (running b.connection i) && not (is_broken r.phase)))
  runs xs i r free there =
      let b = after xs (new_backend c ids) in
      let (run, fits, count, places) = all_whole (new_backend c ids) xs new_whole in
      go b run (b.taken) refl free there
    where
      go : (b : BackendState) → RunsIn b → (t : Taken) → b.taken ≡ t → is_free b.taken ≡ true
          → slice_get b.rings.rings i ≡ Some r → may_run r ≡ (is_ok (running b.connection i) && not (is_broken r.phase))
      go b run taken.Nothing is free there =
          let (agree, none) = rw is at run in
          let (enabled, stays) = agree i r there in
          runs_by r.phase r.enabled (is_ok (running b.connection i)) enabled stays (none i r there)
      go b run taken.Over is free there = never (is_free b.taken) (ap is_free is) free
      go b run (taken.Waits h request until) is free there = never (is_free b.taken) (ap is_free is) free
      go b run (taken.Begun h request) is free there = never (is_free b.taken) (ap is_free is) free
