-- What a message that was taken and the rings say of one another.
use Rattle.std.proofs.Common.{◌≡◌, ◌⊎◌, ◌∙◌, ℕ, zero, suc, ◌+◌, ◌<◌, ◌==◌, ◌&&◌, Bool, true, false, not, List, [], ◌∷◌, length, set, Option, Some, None, Result, Ok, Err, is_ok, if◌then◌else◌, refl, ap, subst, sym, arith, inl, inr}
use Rattle.std.specs.List.{list_any, slice_get}
use Rattle.std.proofs.Math.ListN.{length-set}
use Rattle.std.proofs.lemmas.Bool.{cases_lt, eq-eqb, le-ltb, lt-ltb, or_parts}
use Rattle.std.proofs.lemmas.List.{append-nil}
use Rattle.std.proofs.lemmas.List.Sums.{sum_by-cons}
use Rattle.std.proofs.lemmas.Option.{slice_get_cases}
use Rattle.vhost_message.specs.FrontendReq.{descriptors_of, request_of}
use Rattle.vhost_message.specs.declared.frontend_req.FrontendReq.{FrontendReq}
use Rattle.vhost_message.specs.declared.frontend_req.FrontendReq.TheVariants as req
use Rattle.vhost_message.specs.declared.header.Header.{Header}
use Rattle.vhost_message.specs.declared.refusal.Refusal.{Refusal}
use Rattle.vhost_message.specs.declared.refusal.Refusal.TheVariants.{Descriptors}
use Rattle.vhost_user.specs.Connection.{Connection, served}
use Rattle.vhost_user.specs.Running.{running}
use Rattle.vhost_backend.proofs.AnswerLemmas.{rebased_taken, refreshed_taken}
use Rattle.vhost_backend.proofs.MessageLemmas.{placed_rings, placed_taken, rebased_rings}
use Rattle.vhost_backend.proofs.OwnWayLemmas.{held_rings, one_event, released_same}
use Rattle.vhost_backend.proofs.StopLemmas as stop
use Rattle.vhost_backend.specs.Actions.{is_answer}
use Rattle.vhost_backend.specs.Backend.{BackendState, begun, begun_by, begun_or_waits, decoded, finish_by, finished, happened, happened_by, is_due, is_outer, new_backend, placed, rebased, refreshed, refused, started_if, stopped_ring, taken_until, to_do, to_place, until_of, waited, with_outcome}
use Rattle.vhost_backend.specs.Backend.{is_free as is_free_taken, released as released_message}
use Rattle.vhost_backend.specs.Messages.{Happening, Came, Done, Told, HungUp, changes_all}
use Rattle.vhost_backend.specs.Messages.{stepped as stepped_by}
use Rattle.vhost_backend.specs.Messages as message
use Rattle.vhost_backend.specs.Ring.{RingState, Step, after_turn, is_stopping, pops, step, wants}
use Rattle.vhost_backend.specs.Rings.{Happens, RingsState, admits, all_idle, happens, held, holding, is_free, is_stopped_at, is_waiting, next_turn, nothing, now_held, on_ring, released, turn_of, turn_taken, turn_used, with_step}
use Rattle.vhost_backend.specs.Line.{settled, without}
use Rattle.vhost_backend.specs.Story.{RingStep, On, Turn, actions, after, answers, is_start, is_stop, stepped, stops, waiting}
use Rattle.vhost_backend.specs.Turns.{steps_of, takes_turn}
use Rattle.vhost_backend.specs.Turns as turn
use Rattle.vhost_backend.specs.declared.backend.Finish.{Finish}
use Rattle.vhost_backend.specs.declared.backend.Outcome.TheVariants.{Stays}
use Rattle.vhost_backend.specs.declared.backend.Taken.{Taken}
use Rattle.vhost_backend.specs.declared.backend.Taken.TheVariants as taken
use Rattle.vhost_backend.specs.declared.backend.Until.{Until}
use Rattle.vhost_backend.specs.declared.backend.Until.TheVariants.{Now, Ring, AllRings}
use Rattle.vhost_backend.specs.declared.ring.RingEvent.{RingEvent}
use Rattle.vhost_backend.specs.declared.ring.RingEvent.TheVariants.{Stop}
use Rattle.vhost_backend.specs.declared.ring.RingEvent.TheVariants as ring
use Rattle.vhost_backend.specs.declared.ring.actions.RingAction.{RingAction}
use Rattle.vhost_backend.specs.declared.rings.Actions.{Actions}
use Rattle.vhost_backend.specs.declared.rings.Event.{Event}
use Rattle.vhost_backend.specs.declared.rings.Event.TheVariants as event
use Rattle.vhost_backend.specs.declared.rings.Hold.{Hold}
use Rattle.vhost_backend.specs.declared.rings.Hold.TheVariants.{Free, Waiting, Held}

-- ---- what holds the rings

-- what becomes of a hold by an event that neither holds nor releases, and says whether the message is done
abbrev pub held_by : Bool → Hold
held_by done = if done then Held else Waiting

abbrev pub HoldStep : Hold → Happens → Type 0
HoldStep Free t = t.0.hold ≡ Free
HoldStep Waiting t = t.0.hold ≡ held_by t.1.held
HoldStep Held t = t.0.hold ≡ Held

held_step : (s : RingsState) (h : Hold) (done : Actions) → s.hold ≡ h → done.held ≡ now_held s
    → HoldStep h (held s, done)
held_step s Free done is same = go (now_held s) (ap (λ h. is_waiting h && all_idle s.rings) is)
  where
    go : (now : Bool) → now ≡ false → (let new : RingsState = if now then record s { hold = Held } else s in
        new.hold ≡ Free)
    go false not = is
    go true not = absurd (cc)
held_step s Held done is same = go (now_held s)
  where
    go : (now : Bool) → (let new : RingsState = if now then record s { hold = Held } else s in new.hold ≡ Held)
    go false = is
    go true = refl
held_step s Waiting done is same = rw same (go (now_held s))
  where
    go : (now : Bool) → (let new : RingsState = if now then record s { hold = Held } else s in
        new.hold ≡ held_by now)
    go false = is
    go true = refl

still_step : (s : RingsState) (h : Hold) (done : Actions) → s.hold ≡ h → done.held ≡ false → HoldStep h (s, done)
still_step s Free done is not = is
still_step s Waiting done is not = rw not is
still_step s Held done is not = is

module _ (s : RingsState) (h : Hold) (is : s.hold ≡ h) where
  step_hold : (new : RingsState) (i : ℕ) (t : Step) → new.hold ≡ s.hold → HoldStep h (with_step new i t)
  step_hold new i t same =
      let next : RingsState = record new { rings = set new.rings i t.0; line = settled new.line i (wants t.0) } in
      held_step next h (with_step new i t).1 (same ∙ is) refl

  pub ring_hold : (i : ℕ) (e : RingEvent) → HoldStep h (happens s (event.Ring i e))
  ring_hold i e = go (slice_get s.rings i)
    where
      one : (r : RingState) (b : Bool) → HoldStep h (if b
          then with_step (record s { turn = turn_used s.turn i e }) i (step r e) else (s, nothing i))
      one r true = step_hold (record s { turn = turn_used s.turn i e }) i (step r e) refl
      one r false = still_step s h (nothing i) is refl

      go : (o : Option RingState) → HoldStep h (on_ring s i o e)
      go None = still_step s h (nothing i) is refl
      go (Some r) = one r (admits s.turn i e)

  pub turn_hold : HoldStep h (happens s event.GoOn)
  turn_hold = go (is_free s.hold) (slice_get s.line 0)
    where
      taken_hold : (k : ℕ) (o : Option RingState) → HoldStep h (turn_taken s k o)
      taken_hold k None = still_step (turn_taken s k None).0 h (nothing k) is refl
      taken_hold k (Some q) =
          step_hold (record s { turn = turn_of k (pops q); line = without s.line k }) k (after_turn q) refl

      go : (free : Bool) (o : Option ℕ) → HoldStep h (if free then next_turn s o else (s, nothing 0))
      go false o = still_step s h (nothing 0) is refl
      go true None = still_step (record s { turn = None }) h (nothing 0) is refl
      go true (Some k) = taken_hold k (slice_get s.rings k)

  outer_hold : (e : Event) → is_outer e ≡ true → HoldStep h (happens s e)
  outer_hold (event.Ring i e) outer = ring_hold i e
  outer_hold event.GoOn outer = turn_hold
  outer_hold event.Hold outer = absurd (cc)
  outer_hold event.Release outer = absurd (cc)

-- a message holds what is free
pub held_from_free : (s : RingsState) → s.hold ≡ Free → (happens s event.Hold).0.hold ≡ held_by (happens s event.Hold).1.held
held_from_free s is = rw is
    (held_step (holding s) Waiting (record { ring = 0; actions = []; held = now_held (holding s) }) refl refl)

-- none has a turn after a message that holds them
pub hold_not_free : (s : RingsState) → is_free (happens s event.Hold).0.hold ≡ false
hold_not_free s = go (is_free s.hold) refl
  where
    holds : (now : Bool) → (let new : RingsState = if now then record (holding s) { hold = Held } else holding s in
        is_free new.hold ≡ false)
    holds true = refl
    holds false = refl

    go : (free : Bool) → is_free s.hold ≡ free → (let t : Happens = if free
        then (held (holding s), record { ring = 0; actions = []; held = now_held (holding s) })
        else (s, nothing 0) in is_free t.0.hold ≡ false)
    go true is = holds (now_held (holding s))
    go false is = is

-- and what does not wait is free after it was released
pub released_free : (s : RingsState) → is_waiting s.hold ≡ false → (happens s event.Release).0.hold ≡ Free
released_free s not = go s.hold refl
  where
    go : (h : Hold) → s.hold ≡ h → (released s h).hold ≡ Free
    go Free is = is
    go Waiting is = let bad : true ≡ false = ap is_waiting (sym is) ∙ not in absurd (cc)
    go Held is = refl

-- ---- how many rings there are

held_count : (s : RingsState) → length (held s).rings ≡ length s.rings
held_count s = ap length (held_rings s)

module _ (s : RingsState) where
  step_count : (new : RingsState) (i : ℕ) (t : Step) → new.rings ≡ s.rings
      → length (with_step new i t).0.rings ≡ length s.rings
  step_count new i t same =
      let next : RingsState = record new { rings = set new.rings i t.0; line = settled new.line i (wants t.0) } in
      held_count next ∙ length-set new.rings i t.0 ∙ ap length same

  turn_count : (k : ℕ) (o : Option RingState) → length (turn_taken s k o).0.rings ≡ length s.rings
  turn_count k None = refl
  turn_count k (Some q) =
      step_count (record s { turn = turn_of k (pops q); line = without s.line k }) k (after_turn q) refl

  pub event_count : (e : Event) → length (happens s e).0.rings ≡ length s.rings
  event_count (event.Ring i e) = go (slice_get s.rings i)
    where
      one : (r : RingState) (b : Bool) → length (if b
          then with_step (record s { turn = turn_used s.turn i e }) i (step r e) else (s, nothing i)).0.rings
          ≡ length s.rings
      one r true = step_count (record s { turn = turn_used s.turn i e }) i (step r e) refl
      one r false = refl

      go : (o : Option RingState) → length (on_ring s i o e).0.rings ≡ length s.rings
      go None = refl
      go (Some r) = one r (admits s.turn i e)
  event_count event.GoOn = go (is_free s.hold) (slice_get s.line 0)
    where
      go : (free : Bool) (o : Option ℕ) → length (if free then next_turn s o else (s, nothing 0)).0.rings
          ≡ length s.rings
      go false o = refl
      go true None = refl
      go true (Some k) = turn_count k (slice_get s.rings k)
  event_count event.Hold = go (is_free s.hold)
    where
      go : (free : Bool) → (let t : Happens = if free
          then (held (holding s), record { ring = 0; actions = []; held = now_held (holding s) })
          else (s, nothing 0) in length t.0.rings ≡ length s.rings)
      go true = held_count (holding s)
      go false = refl
  event_count event.Release = ap length (released_same s s.hold).0

-- ---- a ring that is stopped

answers_none : (all : List RingAction) → list_any is_answer all ≡ false → answers all ≡ 0
answers_none [] none = refl
answers_none (a ∷ all) none =
    let (not, rest) = or_parts (is_answer a) (list_any is_answer all) none in
    let same : answers (a ∷ all) ≡ 0 + answers all = sum_by-cons _ a all ∙ rw not refl in
    let zero : answers all ≡ 0 = answers_none all rest in
    omega arith

answers_some : (all : List RingAction) → list_any is_answer all ≡ true → 0 < answers all
answers_some [] some = absurd (cc)
answers_some (a ∷ all) some = go (is_answer a) refl (answers_some all)
  where
    go : (b : Bool) → is_answer a ≡ b → (list_any is_answer all ≡ true → 0 < answers all) → 0 < answers (a ∷ all)
    go true is more = let one : answers (a ∷ all) ≡ 1 + answers all = sum_by-cons _ a all ∙ rw is refl in omega arith
    go false is more =
        let rest : list_any is_answer all ≡ true = rw is at some in
        let same : answers (a ∷ all) ≡ 0 + answers all = sum_by-cons _ a all ∙ rw is refl in
        let left : 0 < answers all = more rest in omega arith

-- a ring has one step at most by an event
abbrev OneAtMost : List RingStep → Type 0
OneAtMost steps = (steps ≡ []) ⊎ ((x : RingStep) × (steps ≡ x ∷ []))

one_if_so : (b : Bool) (x : RingStep) → OneAtMost (if b then x ∷ [] else [])
one_if_so true x = inr (x, refl)
one_if_so false x = inl refl

one_at_most : (i : ℕ) (s : RingsState) (e : Event) → OneAtMost (steps_of i s e)
one_at_most i s (event.Ring j e) = one_if_so (j == i && admits s.turn j e) (On e)
one_at_most i s event.GoOn = one_if_so (takes_turn s i) Turn
one_at_most i s event.Hold = inl refl
one_at_most i s event.Release = inl refl

rests_after : (r : RingState) (steps : List RingStep) → OneAtMost steps → 0 < answers (actions steps r)
    → stop.Rests (after steps r)
rests_after r steps (inl none) some = let no : answers (actions steps r) ≡ 0 = rw none refl in absurd (omega arith)
rests_after r steps (inr (x, one)) some =
    let more : 0 < answers (stepped r x).1 =
    rw (one, append-nil (stepped r x).1) at some in
    rw one (stop.answers_last r x more).0

-- the ring of a number is being stopped, or rests
abbrev pub StopsAt : ℕ → RingsState → Type 0
StopsAt i s = (r : RingState) × (slice_get s.rings i ≡ Some r) × (is_stopping r.phase ≡ true)

abbrev pub RestsAt : ℕ → RingsState → Type 0
RestsAt i s = (r : RingState) × (slice_get s.rings i ≡ Some r) × stop.Rests r

-- whether an event answers the message that stops a ring
abbrev pub answers_at : ℕ → Actions → Bool
answers_at i done = done.ring == i && list_any is_answer done.actions

pub own_answers : (i : ℕ) (done : Actions) → list_any is_answer (turn.own_actions i done) ≡ answers_at i done
own_answers i done = go (done.ring == i)
  where
    go : (b : Bool) → list_any is_answer (if b then done.actions else []) ≡ (b && list_any is_answer done.actions)
    go true = refl
    go false = refl

module _ (s : RingsState) (i : ℕ) (e : Event) (r : RingState) (there : slice_get s.rings i ≡ Some r) where
  pub answered_at : answers_at i (happens s e).1 ≡ true → RestsAt i (happens s e).0
  answered_at due =
      let (new, does) = one_event i r s there e in
      let steps = steps_of i s e in
      let some : list_any is_answer (actions steps r) ≡ true =
      ap (list_any is_answer) (sym does) ∙ own_answers i (happens s e).1 ∙ due in
      (after steps r, new, rests_after r steps (one_at_most i s e) (answers_some (actions steps r) some))

  -- as many stops wait as waited or came, if none is answered
  waits_at : answers_at i (happens s e).1 ≡ false → waiting r + stops (steps_of i s e) r ≡ 1 → StopsAt i (happens s e).0
  waits_at due one =
      let (new, does) = one_event i r s there e in
      let steps = steps_of i s e in
      let none : list_any is_answer (actions steps r) ≡ false =
      ap (list_any is_answer) (sym does) ∙ own_answers i (happens s e).1 ∙ due in
      let count : waiting r + stops steps r ≡ answers (actions steps r) + waiting (after steps r) =
      stop.each_answered r steps in
      let zero : answers (actions steps r) ≡ 0 = answers_none (actions steps r) none in
      let still : waiting (after steps r) ≡ 1 = omega arith in
      (after steps r, new, go (is_stopping (after steps r).phase) still)
    where
      go : (b : Bool) → (let n : ℕ = if b then 1 else 0 in n ≡ 1) → b ≡ true
      go true is = refl
      go false is = absurd (omega arith)

-- what a request that took effect finds: the ring that it stops rests
abbrev pub FoundAtRest : FrontendReq → RingsState → Type 0
FoundAtRest request s = (i : ℕ) → stopped_ring request ≡ Some i → i < length s.rings → RestsAt i s

abbrev pub Fits : Taken → RingsState → Type 0
Fits taken.Nothing s = s.hold ≡ Free
Fits taken.Over s = is_free s.hold ≡ false
Fits (taken.Waits h request Now) s = ⊥
Fits (taken.Waits h request (Ring i)) s = (s.hold ≡ Free) × StopsAt i s × (changes_all request ≡ false)
    × (stopped_ring request ≡ Some i)
Fits (taken.Waits h request AllRings) s = (s.hold ≡ Waiting) × (stopped_ring request ≡ None)
Fits (taken.Begun h request) s = (is_waiting s.hold ≡ false) × (changes_all request ≡ true → s.hold ≡ Held)
    × FoundAtRest request s

-- ---- what is waited for

-- what a request waits for, of so many rings
abbrev pub FitsUntil : FrontendReq → Until → ℕ → Type 0
FitsUntil request Now n = (changes_all request ≡ false) × ((i : ℕ) → stopped_ring request ≡ Some i → i < n → ⊥)
FitsUntil request (Ring i) n = (changes_all request ≡ false) × (stopped_ring request ≡ Some i) × (i < n)
FitsUntil request AllRings n = stopped_ring request ≡ None

pub until_fits : (b : BackendState) (used : Bool) (request : FrontendReq)
    → FitsUntil request (until_of b used request) (length b.rings.rings)
until_fits b used req.GetFeatures = (refl, λ i is there. absurd (cc))
until_fits b used (req.SetFeatures features) = refl
until_fits b used req.SetOwner = (refl, λ i is there. absurd (cc))
until_fits b used req.ResetOwner = (refl, λ i is there. absurd (cc))
until_fits b used (req.SetMemTable table) = refl
until_fits b used (req.SetLogBase size offset) = refl
until_fits b used req.SetLogFd = (refl, λ i is there. absurd (cc))
until_fits b used (req.SetVringNum index num) = (refl, λ i is there. absurd (cc))
until_fits b used (req.SetVringAddr address) = go (is_stopped_at b.rings address.index)
  where
    go : (stopped : Bool) → FitsUntil (req.SetVringAddr address) (if stopped then Now else AllRings)
        (length b.rings.rings)
    go true = (refl, λ i is there. absurd (cc))
    go false = refl
until_fits b used (req.SetVringBase index base) = (refl, λ i is there. absurd (cc))
until_fits b used (req.GetVringBase index) = elim (cases_lt index (length b.rings.rings)) [
  | inl below ↦ rw (lt-ltb index (length b.rings.rings) below) (refl, refl, below)
  | inr past ↦ rw (le-ltb index (length b.rings.rings) past) (
    refl,
    λ i is there.
        let same : index ≡ i = cc in absurd (omega (arith, there, same, past)),
  )
]
until_fits b used (req.SetVringKick index descriptor) = (refl, λ i is there. absurd (cc))
until_fits b used (req.SetVringCall index descriptor) = (refl, λ i is there. absurd (cc))
until_fits b used (req.SetVringErr index descriptor) = (refl, λ i is there. absurd (cc))
until_fits b used req.GetProtocolFeatures = (refl, λ i is there. absurd (cc))
until_fits b used (req.SetProtocolFeatures features) = (refl, λ i is there. absurd (cc))
until_fits b used req.GetQueueNum = (refl, λ i is there. absurd (cc))
until_fits b used (req.SetVringEnable index enable) = (refl, λ i is there. absurd (cc))
until_fits b used req.SetBackendReqFd = (refl, λ i is there. absurd (cc))
until_fits b used (req.IotlbMsg message) = go used
  where
    go : (u : Bool) → FitsUntil (req.IotlbMsg message) (if u then AllRings else Now) (length b.rings.rings)
    go true = refl
    go false = (refl, λ i is there. absurd (cc))
until_fits b used (req.GetConfig space) = (refl, λ i is there. absurd (cc))
until_fits b used (req.SetConfig space) = (refl, λ i is there. absurd (cc))
until_fits b used (req.GetInflightFd region) = (refl, λ i is there. absurd (cc))
until_fits b used (req.SetInflightFd region) = refl

-- ---- messages

abbrev pub FitsIn : BackendState → Type 0
FitsIn b = Fits b.taken b.rings

-- what a message that takes effect has to find
abbrev Ready : FrontendReq → RingsState → Type 0
Ready request s = (is_waiting s.hold ≡ false) × (changes_all request ≡ true → s.hold ≡ Held) × FoundAtRest request s

begun_fits : (b : BackendState) (h : Header) (request : FrontendReq) (payload : List ℕ) → Ready request b.rings
    → FitsIn (begun b h request payload).0
begun_fits b h request payload ready = go (served b.connection request payload)
  where
    go : (o : Result Connection Refusal) → FitsIn (begun_by b h request o).0
    go (Ok new) = ready
    go (Err e) = released_free b.rings ready.0

due_fits : (b : BackendState) (h : Header) (request : FrontendReq) (payload : List ℕ) (until : Until) (due : Bool)
    → (due ≡ true → Ready request b.rings) → (due ≡ false → Fits (taken.Waits h request until) b.rings)
    → FitsIn (begun_or_waits b h request payload until due).0
due_fits b h request payload until true ready waits = begun_fits b h request payload (ready refl)
due_fits b h request payload until false ready waits = waits refl

none_ready : (request : FrontendReq) (s : RingsState) → stopped_ring request ≡ None → FoundAtRest request s
none_ready request s none i is there = let bad : None ≡ Some i = sym none ∙ is in absurd (cc)

one_ready : (request : FrontendReq) (s : RingsState) (i : ℕ) → stopped_ring request ≡ Some i → RestsAt i s
    → FoundAtRest request s
one_ready request s i is rests j same there =
    let equal : Some i ≡ Some j = sym is ∙ same in
    let one : i ≡ j = cc in
    subst (λ k. RestsAt k s) one rests

pub never : {P : Type 0} (b : Bool) → b ≡ false → b ≡ true → P
never true one other = absurd (cc)
never false one other = absurd (cc)

module _ (s : RingsState) (free : s.hold ≡ Free) (h : Header) (request : FrontendReq) where
  waited_ready : (until : Until) → FitsUntil request until (length s.rings) → (let t = waited s until in
      is_due until t.1 ≡ true → Ready request t.0)
  waited_ready Now (calm, none) due =
      (rw free refl, λ changes. never (changes_all request) calm changes, λ i is there. absurd (none i is there))
  waited_ready (Ring i) (calm, is, below) due = elim (slice_get_cases s.rings i).1 [
    | inl (r, inside, there, same) ↦ let still = ring_hold s Free free i Stop in (
      rw still refl,
      λ changes. never (changes_all request) calm changes,
      one_ready request (happens s (event.Ring i Stop)).0 i is (answered_at s i (event.Ring i Stop) r there due),
    )
    | inr (past, none) ↦ absurd (omega (arith, below, past))
  ]
  waited_ready AllRings none due = let held : (happens s event.Hold).0.hold ≡ Held =
      held_from_free s free ∙ ap held_by due in
      (rw held refl, λ changes. held, none_ready request (happens s event.Hold).0 none)

  stop_waits : (i : ℕ) (r : RingState) → waiting r + stops (steps_of i s (event.Ring i Stop)) r ≡ 1
  stop_waits i r = rw (eq-eqb i i refl) (go (is_stopping r.phase))
    where
      go : (b : Bool) → (let n : ℕ = if b then 1 else 0 in let m : ℕ = if not b then 1 else 0 in n + (m + 0) ≡ 1)
      go true = refl
      go false = refl

  waited_waits : (until : Until) → FitsUntil request until (length s.rings) → (let t = waited s until in
      is_due until t.1 ≡ false → Fits (taken.Waits h request until) t.0)
  waited_waits Now fits due = absurd (cc)
  waited_waits (Ring i) (calm, is, below) due = elim (slice_get_cases s.rings i).1 [
    | inl (r, inside, there, same) ↦ (
      ring_hold s Free free i Stop,
      waits_at s i (event.Ring i Stop) r there due (stop_waits i r),
      calm,
      is,
    )
    | inr (past, none) ↦ absurd (omega (arith, below, past))
  ]
  waited_waits AllRings none due = (held_from_free s free ∙ ap held_by due, none)

-- ---- what happens to rings meanwhile

-- an event from outside stops and starts no ring
module _ (i : ℕ) (s : RingsState) (r : RingState) where
  listed_stops : (b : Bool) (x : RingStep) → is_stop x ≡ false → stops (if b then x ∷ [] else []) r ≡ 0
  listed_stops true x none = rw none refl
  listed_stops false x none = refl

  outer_stops : (e : Event) → is_outer e ≡ true → stops (steps_of i s e) r ≡ 0
  outer_stops (event.Ring j ring.Start) outer = absurd (cc)
  outer_stops (event.Ring j ring.Stop) outer = absurd (cc)
  outer_stops (event.Ring j (ring.Enable on)) outer = absurd (cc)
  outer_stops (event.Ring j ring.Break) outer = listed_stops (j == i && admits s.turn j ring.Break) (On ring.Break) refl
  outer_stops (event.Ring j ring.Kick) outer = listed_stops (j == i && admits s.turn j ring.Kick) (On ring.Kick) refl
  outer_stops (event.Ring j (ring.Popped chain parts bytes)) outer = let e = ring.Popped chain parts bytes in
      listed_stops (j == i && admits s.turn j e) (On e) refl
  outer_stops (event.Ring j ring.Emptied) outer =
      listed_stops (j == i && admits s.turn j ring.Emptied) (On ring.Emptied) refl
  outer_stops (event.Ring j (ring.Ended id end)) outer = let e = ring.Ended id end in
      listed_stops (j == i && admits s.turn j e) (On e) refl
  outer_stops event.GoOn outer = listed_stops (takes_turn s i) Turn refl
  outer_stops event.Hold outer = absurd (cc)
  outer_stops event.Release outer = absurd (cc)

  listed_rest : (b : Bool) (x : RingStep) → is_start x ≡ false → stop.Rests r
      → stop.Rests (after (if b then x ∷ [] else []) r)
  listed_rest true x none rests = (stop.step_sleeps r rests x none).1
  listed_rest false x none rests = rests

  outer_rests : (e : Event) → is_outer e ≡ true → stop.Rests r → stop.Rests (after (steps_of i s e) r)
  outer_rests (event.Ring j ring.Start) outer rests = absurd (cc)
  outer_rests (event.Ring j ring.Stop) outer rests = absurd (cc)
  outer_rests (event.Ring j (ring.Enable on)) outer rests = absurd (cc)
  outer_rests (event.Ring j ring.Break) outer rests =
      listed_rest (j == i && admits s.turn j ring.Break) (On ring.Break) refl rests
  outer_rests (event.Ring j ring.Kick) outer rests =
      listed_rest (j == i && admits s.turn j ring.Kick) (On ring.Kick) refl rests
  outer_rests (event.Ring j (ring.Popped chain parts bytes)) outer rests = let e = ring.Popped chain parts bytes in
      listed_rest (j == i && admits s.turn j e) (On e) refl rests
  outer_rests (event.Ring j ring.Emptied) outer rests =
      listed_rest (j == i && admits s.turn j ring.Emptied) (On ring.Emptied) refl rests
  outer_rests (event.Ring j (ring.Ended id end)) outer rests = let e = ring.Ended id end in
      listed_rest (j == i && admits s.turn j e) (On e) refl rests
  outer_rests event.GoOn outer rests = listed_rest (takes_turn s i) Turn refl rests
  outer_rests event.Hold outer rests = absurd (cc)
  outer_rests event.Release outer rests = absurd (cc)

module _ (s : RingsState) (e : Event) (outer : is_outer e ≡ true) where
  rests_still : (i : ℕ) → RestsAt i s → RestsAt i (happens s e).0
  rests_still i (r, there, rests) =
      (after (steps_of i s e) r, (one_event i r s there e).0, outer_rests i s r e outer rests)

  stops_still : (i : ℕ) → StopsAt i s → answers_at i (happens s e).1 ≡ false → StopsAt i (happens s e).0
  stops_still i (r, there, stopping) none =
      let zero : stops (steps_of i s e) r ≡ 0 = outer_stops i s r e outer in
      let one : waiting r ≡ 1 = rw stopping refl in
      waits_at s i e r there none (omega arith)

  ready_still : (request : FrontendReq) → Ready request s → Ready request (happens s e).0
  ready_still request (calm, changes, found) = (
    go s.hold refl,
    λ is. outer_hold s Held (changes is) e outer,
    λ i is there. rests_still i (found i is (rw (← event_count s e) there)),
  )
    where
      go : (h : Hold) → s.hold ≡ h → is_waiting (happens s e).0.hold ≡ false
      go Free is = rw (outer_hold s Free is e outer) refl
      go Held is = rw (outer_hold s Held is e outer) refl
      go Waiting is = never (is_waiting s.hold) calm (ap is_waiting is)

  -- none has a turn after the end
  held_still : is_free s.hold ≡ false → is_free (happens s e).0.hold ≡ false
  held_still not = go s.hold refl
    where
      waits : (b : Bool) → is_free (held_by b) ≡ false
      waits true = refl
      waits false = refl

      go : (h : Hold) → s.hold ≡ h → is_free (happens s e).0.hold ≡ false
      go Free is = never (is_free s.hold) not (ap is_free is)
      go Waiting is = ap is_free (outer_hold s Waiting is e outer) ∙ waits (happens s e).1.held
      go Held is = ap is_free (outer_hold s Held is e outer)

  -- of the connection, by what was taken
  happened_fits : (b : BackendState) (t : Taken) → b.taken ≡ t → b.rings ≡ (happens s e).0 → Fits t s
      → FitsIn (happened_by b (happens s e).1 t).0
  happened_fits b taken.Nothing is rings fits = rw (is, rings) (outer_hold s Free fits e outer)
  happened_fits b taken.Over is rings fits = rw (is, rings) (held_still fits)
  happened_fits b (taken.Begun h request) is rings fits = rw (is, rings) (ready_still request fits)
  happened_fits b (taken.Waits h request Now) is rings fits = absurd fits
  happened_fits b (taken.Waits h request (Ring i)) is rings (free, stopping, calm, which) =
      let still = outer_hold s Free free e outer in
      let (r, there, waits) = stopping in
      due_fits b h request [] (Ring i) (answers_at i (happens s e).1)
      (λ due. rw rings (
        rw still refl,
        λ changes. never (changes_all request) calm changes,
        one_ready request (happens s e).0 i which (answered_at s i e r there due),
      ))
      (λ due. rw rings (still, stops_still i stopping due, calm, which))
  happened_fits b (taken.Waits h request AllRings) is rings (waits, none) =
      let still = outer_hold s Waiting waits e outer in
      due_fits b h request [] AllRings (happens s e).1.held
      (λ due. let held : (happens s e).0.hold ≡ Held = still ∙ ap held_by due in
      rw rings (rw held refl, λ changes. held, none_ready request (happens s e).0 none))
      (λ due. rw rings (still ∙ ap held_by due, none))

-- ---- the end of a message

refreshed_free : (n : ℕ) (b : BackendState) → b.rings.hold ≡ Free → (refreshed n b).rings.hold ≡ Free
refreshed_free zero b free = free
refreshed_free (suc n) b free =
    let before = refreshed n b in
    let on = is_ok (running before.connection n) in
    let enabled = (happens before.rings (event.Ring n (ring.Enable on))).0 in
    let still : enabled.hold ≡ Free = ring_hold before.rings Free (refreshed_free n b free) n (ring.Enable on) in
    go on enabled still
  where
    go : (on : Bool) (s : RingsState) → s.hold ≡ Free → (started_if on n s).hold ≡ Free
    go true s free = ring_hold s Free free n ring.Start
    go false s free = free

free_fits : (t : Taken) (s : RingsState) → t ≡ taken.Nothing → s.hold ≡ Free → Fits t s
free_fits t s is free = rw is free

finished_fits : (request : FrontendReq) (h : Header) (t : BackendState × Bool) → t.0.taken ≡ taken.Nothing
    → t.0.rings.hold ≡ Free → FitsIn (finished request h t).0
finished_fits request h (b, true) none free = let n = length b.placings in
    free_fits (refreshed n b).taken (refreshed n b).rings (refreshed_taken n b ∙ none) (refreshed_free n b free)
finished_fits request h (b, false) none free = hold_not_free b.rings

end_fits : (b : BackendState) (end : Finish) (t : Taken) → b.taken ≡ t → Fits t b.rings
    → FitsIn (finish_by b end t).0
end_fits b end taken.Nothing is fits = rw is fits
end_fits b end taken.Over is fits = rw is fits
end_fits b end (taken.Waits h request until) is fits = rw is fits
end_fits b end (taken.Begun h request) is fits =
    let t = rebased (released_message b) request end in
    let free : t.0.rings.hold ≡ Free =
    ap (λ s. s.hold) (rebased_rings (released_message b) request end) ∙ released_free b.rings fits.0 in
    finished_fits request h t (rebased_taken (released_message b) request end) free

-- ---- all of it

module _ (b : BackendState) (fits : FitsIn b) where
  message_fits : (h : Header) (payload : List ℕ) (n : ℕ) (used : Bool) → FitsIn (stepped_by b (Came h payload n used))
  message_fits h payload n used = go b.taken refl
    where
      decoded_fits : b.taken ≡ taken.Nothing → (o : Result FrontendReq Refusal) → FitsIn (decoded b h payload n used o).0
      decoded_fits is (Err e) = fits
      decoded_fits is (Ok request) = right (n == descriptors_of request)
        where
          right : (r : Bool) → FitsIn (if r then taken_until b h request payload (until_of b used request)
              else (b, refused b h Descriptors)).0
          right false = fits
          right true =
              let free : b.rings.hold ≡ Free = rw is at fits in
              let until = until_of b used request in
              let t = waited b.rings until in
              let old : BackendState = record b { rings = t.0 } in
              due_fits (placed old t.1) h request payload until (is_due until t.1)
              (λ due. rw (placed_rings old t.1) (waited_ready b.rings free h request until (until_fits b used request) due))
              (λ due. rw (placed_rings old t.1) (waited_waits b.rings free h request until (until_fits b used request) due))

      go : (t : Taken) → b.taken ≡ t → FitsIn (if is_free_taken b.taken
          then decoded b h payload n used (request_of h payload) else (b, to_do (nothing 0) None Stays)).0
      go taken.Nothing is = rw (ap is_free_taken is) (decoded_fits is (request_of h payload))
      go taken.Over is = rw (ap is_free_taken is) fits
      go (taken.Waits h' request until) is = rw (ap is_free_taken is) fits
      go (taken.Begun h' request) is = rw (ap is_free_taken is) fits

  event_fits : (e : Event) → FitsIn (stepped_by b (Told e))
  event_fits e = go (is_outer e) refl
    where
      go : (o : Bool) → is_outer e ≡ o → (let t = happens b.rings e in let old : BackendState = record b { rings = t.0 } in
          FitsIn (if o then with_outcome t.1 (to_place old t.1) (happened (placed old t.1) t.1)
          else (b, to_do (nothing 0) None Stays)).0)
      go true outer =
          let t = happens b.rings e in
          let old : BackendState = record b { rings = t.0 } in
          rw (placed_taken old t.1) (happened_fits b.rings e outer (placed old t.1) b.taken (placed_taken old t.1)
          (placed_rings old t.1) fits)
      go false outer = fits

  pub step_fits : (x : Happening) → FitsIn (stepped_by b x)
  step_fits (Came h payload n used) = message_fits h payload n used
  step_fits (Done end) = end_fits b end b.taken refl fits
  step_fits (Told e) = event_fits e
  step_fits HungUp = hold_not_free b.rings

all_fit : (b : BackendState) (xs : List Happening) → FitsIn b → FitsIn (message.after xs b)
all_fit b [] fits = fits
all_fit b (x ∷ xs) fits = all_fit (stepped_by b x) xs (step_fits b fits x)

pub always_fits : (c : Connection) (ids : ℕ) (xs : List Happening) → FitsIn (message.after xs (new_backend c ids))
always_fits c ids xs = all_fit (new_backend c ids) xs refl
