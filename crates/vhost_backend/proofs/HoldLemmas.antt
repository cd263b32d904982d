-- Messages that hold all rings.
use Rattle.std.proofs.Common.{◌≡◌, ◌∙◌, ℕ, zero, suc, ◌+◌, ◌&&◌, not, Bool, true, false, List, [], ◌∷◌, ◌++◌, set, Option, Some, None, is_some, if◌then◌else◌, refl, ap, sym, arith, inl, inr}
use Rattle.std.specs.List.{list_any, slice_get}
use Rattle.std.proofs.lemmas.Bool.{and_cases, and_from, and_parts, and_right, or_from, or_parts}
use Rattle.std.proofs.lemmas.List.Sums.{sum_by-cons}
use Rattle.vhost_backend.proofs.BoundLemmas.{held_turn, step_turn}
use Rattle.vhost_backend.proofs.StopLemmas.{idle_at}
use Rattle.vhost_backend.specs.Actions.{if_so}
use Rattle.vhost_backend.specs.Line.{settled, without}
use Rattle.vhost_backend.specs.Ring.{RingState, Step, after_break, after_stop, after_turn, broken, ended, is_idle, request_at, started, step, wants}
use Rattle.vhost_backend.specs.Ring as ring
use Rattle.vhost_backend.specs.Rings.{Happens, RingsState, admits, after_hold, all_idle, happens, held, holding, is_free, is_waiting, new_rings, next_turn, now_held, nothing, on_ring, released, turn_of, turn_taken, turn_used, with_step}
use Rattle.vhost_backend.specs.Turns.{after_all, all_done, any_touches, held_count, holds, is_hold, is_release, popped, popped_by, touches, waits_to_hold}
use Rattle.vhost_backend.specs.declared.request.PartEnd.{PartEnd}
use Rattle.vhost_backend.specs.declared.request.Request.{Request}
use Rattle.vhost_backend.specs.declared.ring.Phase.{Phase}
use Rattle.vhost_backend.specs.declared.ring.Phase.TheVariants as phase
use Rattle.vhost_backend.specs.declared.ring.RingEvent.{RingEvent}
use Rattle.vhost_backend.specs.declared.ring.RingEvent.TheVariants.{Start, Stop, Enable, Break, Kick, Popped, Emptied, Ended}
use Rattle.vhost_backend.specs.declared.ring.actions.RingAction.TheVariants as action
use Rattle.vhost_backend.specs.declared.rings.Actions.{Actions}
use Rattle.vhost_backend.specs.declared.rings.Event.{Event}
use Rattle.vhost_backend.specs.declared.rings.Event.TheVariants as event
use Rattle.vhost_backend.specs.declared.rings.Hold.{Hold}
use Rattle.vhost_backend.specs.declared.rings.Hold.TheVariants.{Free, Waiting, Held}
use Rattle.vhost_backend.specs.declared.rings.Turn.{Turn}

abbrev one_if : Bool → ℕ
one_if b = if b then 1 else 0

abbrev chosen : Bool → Happens → Happens → Happens
chosen b one other = if b then one else other

abbrev or_held : Bool → RingsState → RingsState
or_held b s = if b then record s { hold = Held } else s

abbrev step_to : RingsState → ℕ → Step → RingsState
step_to s i t = record s { rings = set s.rings i t.0; line = settled s.line i (wants t.0) }

-- ---- no ring has a turn while they are held

abbrev pub HasNoTurn : RingsState → Type 0
HasNoTurn s = is_free s.hold ≡ false → s.turn ≡ None

unused : (i : ℕ) (e : RingEvent) (t : Option Turn) → t ≡ None → turn_used t i e ≡ None
unused i Start t is = is
unused i Stop t is = rw is refl
unused i (Enable on) t is = is
unused i Break t is = is
unused i Kick t is = is
unused i (Popped chain parts bytes) t is = rw is refl
unused i Emptied t is = refl
unused i (Ended id end) t is = is

held_not_free : (s : RingsState) → is_free s.hold ≡ false → is_free (held s).hold ≡ false
held_not_free s not = go (now_held s)
  where
    go : (b : Bool) → is_free (or_held b s).hold ≡ false
    go true = refl
    go false = not

held_free : (s : RingsState) → is_free s.hold ≡ true → is_free (held s).hold ≡ true
held_free s free = go s.hold free (now_held s) refl
  where
    go : (h : Hold) → is_free h ≡ true → (b : Bool) → (is_waiting h && all_idle s.rings) ≡ b
        → is_free (or_held b (record s { hold = h })).hold ≡ true
    go Free is true now = absurd (cc)
    go Free is false now = refl
    go Waiting is b now = absurd (cc)
    go Held is b now = absurd (cc)

-- while they are held they stay so until the message was done
module _ (s : RingsState) (not_free : is_free s.hold ≡ false) (no_turn : s.turn ≡ None) where
  abbrev Stays : RingsState → Type 0
  Stays new = (is_free new.hold ≡ false) × (new.turn ≡ None)

  ring_stays : (i : ℕ) (e : RingEvent) (o : Option RingState) (b : Bool) → admits s.turn i e ≡ b
      → Stays (on_ring s i o e).0
  ring_stays i e None b is = (not_free, no_turn)
  ring_stays i e (Some r) false is = rw is (not_free, no_turn)
  ring_stays i e (Some r) true is = let old : RingsState = record s { turn = turn_used s.turn i e } in rw is
      (held_not_free (step_to old i (step r e)) not_free, step_turn old i (step r e) ∙ unused i e s.turn no_turn)

  go_stays : (free : Bool) → free ≡ false → Stays (chosen free (next_turn s (slice_get s.line 0)) (s, nothing 0)).0
  go_stays true is = absurd (cc)
  go_stays false is = (not_free, no_turn)

  hold_stays : (free : Bool) → free ≡ false → Stays (chosen free
      (held (holding s), record { ring = 0; actions = []; held = now_held (holding s) }) (s, nothing 0)).0
  hold_stays true is = absurd (cc)
  hold_stays false is = (not_free, no_turn)

  event_stays : (e : Event) → is_release e ≡ false → Stays (happens s e).0
  event_stays (event.Ring i e) not = ring_stays i e (slice_get s.rings i) (admits s.turn i e) refl
  event_stays event.GoOn not = go_stays (is_free s.hold) not_free
  event_stays event.Hold not = hold_stays (is_free s.hold) not_free
  event_stays event.Release not = absurd (cc)

  no_pop : (e : Event) → popped_by s e ≡ []
  no_pop (event.Ring i Start) = refl
  no_pop (event.Ring i Stop) = refl
  no_pop (event.Ring i (Enable on)) = refl
  no_pop (event.Ring i Break) = refl
  no_pop (event.Ring i Kick) = refl
  no_pop (event.Ring i (Popped chain parts bytes)) =
      rw (no_turn, and_right (is_some (slice_get s.rings i)) false refl) refl
  no_pop (event.Ring i Emptied) = refl
  no_pop (event.Ring i (Ended id end)) = refl
  no_pop event.GoOn = refl
  no_pop event.Hold = refl
  no_pop event.Release = refl

pub none_popped : (s : RingsState) (events : List Event) → is_free s.hold ≡ false → s.turn ≡ None
    → list_any is_release events ≡ false → popped events s ≡ []
none_popped s [] not_free no_turn none = refl
none_popped s (e ∷ es) not_free no_turn none =
    let (not, later) = or_parts (is_release e) (list_any is_release es) none in
    let (still, without_turn) = event_stays s not_free no_turn e not in
    let rest : popped es (happens s e).0 ≡ [] = none_popped (happens s e).0 es still without_turn later in
    rw (no_pop s not_free no_turn e, rest) refl

pub pops_nothing : (s : RingsState) (events : List Event) → is_free s.hold ≡ true
    → list_any is_release events ≡ false → popped events (after_hold s).0 ≡ []
pops_nothing s events free none =
    let new : RingsState = held (holding s) in
    rw free (none_popped new events (held_not_free (holding s) refl) (held_turn (holding s)) none)

-- ---- which rings may have a turn

ring_free : (s : RingsState) (i : ℕ) (e : RingEvent) (o : Option RingState) (b : Bool) → is_free s.hold ≡ true
    → admits s.turn i e ≡ b → is_free (on_ring s i o e).0.hold ≡ true
ring_free s i e None b free is = free
ring_free s i e (Some r) false free is = rw is free
ring_free s i e (Some r) true free is = let old : RingsState = record s { turn = turn_used s.turn i e } in
    rw is (held_free (step_to old i (step r e)) free)

taken_free : (s : RingsState) (k : ℕ) (o : Option RingState) → is_free s.hold ≡ true
    → is_free (turn_taken s k o).0.hold ≡ true
taken_free s k None free = free
taken_free s k (Some q) free = let old : RingsState = record s {
  turn = turn_of k
      (ring.pops q);
  line = without s.line k;
} in
    held_free (step_to old k (after_turn q)) free

go_free : (s : RingsState) (b : Bool) (o : Option ℕ) → is_free s.hold ≡ true
    → is_free (chosen b (next_turn s o) (s, nothing 0)).0.hold ≡ true
go_free s false o free = free
go_free s true None free = free
go_free s true (Some k) free = taken_free s k (slice_get s.rings k) free

released_free : (s : RingsState) (h : Hold) → is_free s.hold ≡ true → is_free (released s h).hold ≡ true
released_free s Free free = free
released_free s Waiting free = free
released_free s Held free = refl

released_turns : (s : RingsState) (h : Hold) → HasNoTurn s → is_free (released s h).hold ≡ false
    → (released s h).turn ≡ None
released_turns s Free has not = has not
released_turns s Waiting has not = has not
released_turns s Held has not = absurd (cc)

hold_turns : (s : RingsState) (b : Bool) → HasNoTurn s → HasNoTurn (chosen b
    (held (holding s), record { ring = 0; actions = []; held = now_held (holding s) }) (s, nothing 0)).0
hold_turns s true has = λ not. held_turn (holding s)
hold_turns s false has = has

-- rings that are free stay so, or have no turn
pub event_turns : (s : RingsState) (e : Event) → HasNoTurn s → HasNoTurn (happens s e).0
event_turns s (event.Ring i e) has not = go (is_free s.hold) refl
  where
    go : (f : Bool) → is_free s.hold ≡ f → (on_ring s i (slice_get s.rings i) e).0.turn ≡ None
    go false held = (ring_stays s held (has held) i e (slice_get s.rings i) (admits s.turn i e) refl).1
    go true free =
        let still = ring_free s i e (slice_get s.rings i) (admits s.turn i e) free refl in
        let bad : true ≡ false = sym still ∙ not in absurd (cc)
event_turns s event.GoOn has not = go (is_free s.hold) refl
  where
    go : (f : Bool) → is_free s.hold ≡ f → (happens s event.GoOn).0.turn ≡ None
    go false held = (event_stays s held (has held) event.GoOn refl).1
    go true free =
        let still = go_free s (is_free s.hold) (slice_get s.line 0) free in
        let bad : true ≡ false = sym still ∙ not in absurd (cc)
event_turns s event.Hold has not = hold_turns s (is_free s.hold) has not
event_turns s event.Release has not = released_turns s s.hold has not

all_turns : (s : RingsState) (events : List Event) → HasNoTurn s → HasNoTurn (after_all events s)
all_turns s [] has = has
all_turns s (e ∷ es) has = all_turns (happens s e).0 es (event_turns s e has)

-- ---- what is held is idle

abbrev pub IsIdle : Happens → Type 0
IsIdle t = t.1.held ≡ true → (all_idle t.0.rings ≡ true) × (t.0.hold ≡ Held)

held_idle : (s : RingsState) → now_held s ≡ true → (all_idle (held s).rings ≡ true) × ((held s).hold ≡ Held)
held_idle s now = rw now ((and_parts _ _ now).1, refl)

taken_idle : (s : RingsState) (k : ℕ) (o : Option RingState) → IsIdle (turn_taken s k o)
taken_idle s k None now = absurd (cc)
taken_idle s k (Some q) now =
    let old : RingsState = record s {
      turn = turn_of k (ring.pops q);
      line =
          without s.line k;
    } in held_idle (step_to old k (after_turn q)) now

on_idle : (s : RingsState) (i : ℕ) (e : RingEvent) (o : Option RingState) (b : Bool) → admits s.turn i e ≡ b
    → IsIdle (on_ring s i o e)
on_idle s i e None b is = λ now. absurd (cc)
on_idle s i e (Some r) b is = go b is
  where
    go : (b : Bool) → admits s.turn i e ≡ b → IsIdle (on_ring s i (Some r) e)
    go false is = rw is (λ now. absurd (cc))
    go true is = let old : RingsState = record s { turn = turn_used s.turn i e } in
        rw is (held_idle (step_to old i (step r e)))

go_idle : (s : RingsState) (b : Bool) (o : Option ℕ) → IsIdle (chosen b (next_turn s o) (s, nothing 0))
go_idle s false o now = absurd (cc)
go_idle s true None now = absurd (cc)
go_idle s true (Some k) now = taken_idle s k (slice_get s.rings k) now

hold_idle : (s : RingsState) (b : Bool) → IsIdle (chosen b
    (held (holding s), record { ring = 0; actions = []; held = now_held (holding s) }) (s, nothing 0))
hold_idle s true now = held_idle (holding s) now
hold_idle s false now = absurd (cc)

pub idle : (s : RingsState) (e : Event) → IsIdle (happens s e)
idle s (event.Ring i e) = on_idle s i e (slice_get s.rings i) (admits s.turn i e) refl
idle s event.GoOn = go_idle s (is_free s.hold) (slice_get s.line 0)
idle s event.Hold = hold_idle s (is_free s.hold)
idle s event.Release = λ now. absurd (cc)

-- ---- what is held touches nothing

-- a step of a ring of which nothing is under way, other than a pop
abbrev pub Calm : Step → Type 0
Calm t = (list_any touches t.1 ≡ false) × (is_idle t.0 ≡ true)

module _ (r : RingState) (idle : is_idle r ≡ true) where
  start_calm : (p : Phase) → Calm (started r p, [])
  start_calm phase.Stopped = (refl, idle)
  start_calm phase.Started = (refl, idle)
  start_calm phase.Broken = (refl, idle)
  start_calm phase.Stopping = (refl, idle)

  break_calm : (p : Phase) → Calm (broken r p)
  break_calm phase.Stopped = (refl, idle)
  break_calm phase.Started = (refl, idle)
  break_calm phase.Broken = (refl, idle)
  break_calm phase.Stopping = (refl, idle)

  stop_calm : (b owes : Bool) → b ≡ true → (let t : Step = if b
      then (record r { phase = phase.Stopped; owes = false }, if_so owes action.Notify ++ action.Stopped ∷ [])
      else (record r { phase = phase.Stopping }, []) in Calm t)
  stop_calm true true is = (refl, idle)
  stop_calm true false is = (refl, idle)
  stop_calm false owes is = absurd (cc)

  end_calm : (id : ℕ) (o : Option Request) (end : PartEnd) → o ≡ None → Calm (ended r id o end)
  end_calm id None end is = (refl, idle)
  end_calm id (Some q) end is = absurd (cc)

  step_calm : (t : Option Turn) (i : ℕ) (e : RingEvent) → t ≡ None → admits t i e ≡ true → Calm (step r e)
  step_calm t i Start none may = start_calm r.phase
  step_calm t i Stop none may = stop_calm (is_idle r) r.owes idle
  step_calm t i (Enable on) none may = (refl, idle)
  step_calm t i Break none may = break_calm r.phase
  step_calm t i Kick none may = (refl, idle)
  step_calm t i (Popped chain parts bytes) none may = let bad : false ≡ true = rw none at may in absurd (cc)
  step_calm t i Emptied none may = (refl, idle)
  step_calm t i (Ended id end) none may = end_calm id (request_at r id) end (idle_at r id idle)

pub all_idle_at : (rings : List RingState) (i : ℕ) (r : RingState) → all_idle rings ≡ true → slice_get rings i ≡ Some r
    → is_idle r ≡ true
all_idle_at [] i r all there = absurd (cc)
all_idle_at (q ∷ rings) zero r all there = let same : q ≡ r = cc in
    ap is_idle (sym same) ∙ (and_parts (is_idle q) _ all).0
all_idle_at (q ∷ rings) (suc i) r all there = all_idle_at rings i r (and_parts (is_idle q) _ all).1 there

all_idle-set : (rings : List RingState) (i : ℕ) (r : RingState) → all_idle rings ≡ true → is_idle r ≡ true
    → all_idle (set rings i r) ≡ true
all_idle-set [] i r all one = refl
all_idle-set (q ∷ rings) zero r all one = and_from _ _ one (and_parts (is_idle q) _ all).1
all_idle-set (q ∷ rings) (suc i) r all one = let (here, rest) = and_parts (is_idle q) _ all in
    and_from _ _ here (all_idle-set rings i r rest one)

-- nothing is under way, and no ring has a turn
abbrev pub Rests : RingsState → Type 0
Rests s = (s.hold ≡ Held) × (all_idle s.rings ≡ true) × (s.turn ≡ None)

abbrev pub Sleeps : Happens → Type 0
Sleeps t = (list_any touches t.1.actions ≡ false) × Rests t.0

held_same : (s : RingsState) → s.hold ≡ Held → held s ≡ s
held_same s is = go (now_held s) (ap (λ h. is_waiting h && all_idle s.rings) is)
  where
    go : (b : Bool) → b ≡ false → or_held b s ≡ s
    go false not = refl
    go true not = absurd (cc)

module _ (s : RingsState) (rests : Rests s) where
  ring_sleeps : (i : ℕ) (e : RingEvent) (o : Option RingState) (b : Bool) → slice_get s.rings i ≡ o
      → admits s.turn i e ≡ b → Sleeps (on_ring s i o e)
  ring_sleeps i e None b there is = (refl, rests)
  ring_sleeps i e (Some r) false there is = rw is (refl, rests)
  ring_sleeps i e (Some r) true there is =
      let old : RingsState = record s { turn = turn_used s.turn i e } in
      let new : RingsState = step_to old i (step r e) in
      let (calm, still) = step_calm r (all_idle_at s.rings i r rests.1 there) s.turn i e rests.2 is in
      rw (is, held_same new rests.0)
      (calm, (rests.0, all_idle-set s.rings i (step r e).0 rests.1 still, unused i e s.turn rests.2))

  go_sleeps : (b : Bool) (o : Option ℕ) → b ≡ false → Sleeps (chosen b (next_turn s o) (s, nothing 0))
  go_sleeps false o not = (refl, rests)
  go_sleeps true o not = absurd (cc)

  hold_sleeps : (b : Bool) → b ≡ false → Sleeps (chosen b
      (held (holding s), record { ring = 0; actions = []; held = now_held (holding s) }) (s, nothing 0))
  hold_sleeps false not = (refl, rests)
  hold_sleeps true not = absurd (cc)

  pub event_sleeps : (e : Event) → is_release e ≡ false → Sleeps (happens s e)
  event_sleeps (event.Ring i e) not = ring_sleeps i e (slice_get s.rings i) (admits s.turn i e) refl refl
  event_sleeps event.GoOn not = go_sleeps (is_free s.hold) (slice_get s.line 0) (ap is_free rests.0)
  event_sleeps event.Hold not = hold_sleeps (is_free s.hold) (ap is_free rests.0)
  event_sleeps event.Release not = absurd (cc)

pub sleeps : (s : RingsState) (events : List Event) → Rests s → list_any is_release events ≡ false
    → any_touches (all_done events s) ≡ false
sleeps s [] rests none = refl
sleeps s (e ∷ es) rests none =
    let (not, later) = or_parts (is_release e) (list_any is_release es) none in
    let (calm, still) = event_sleeps s rests e not in
    or_from _ _ calm (sleeps (happens s e).0 es still later)

pub free_turns : (count ids : ℕ) (events : List Event) → HasNoTurn (after_all events (new_rings count ids))
free_turns count ids events = all_turns (new_rings count ids) events (λ not. absurd (cc))

pub gone : (count ids : ℕ) (events : List Event) (e : Event) (later : List Event)
    → (happens (after_all events (new_rings count ids)) e).1.held ≡ true → list_any is_release later ≡ false
    → any_touches (all_done later (happens (after_all events (new_rings count ids)) e).0) ≡ false
gone count ids events e later now none =
    let s = after_all events (new_rings count ids) in
    let (all, is) = idle s e now in
    let turns = event_turns s e (free_turns count ids events) (ap is_free is) in
    sleeps (happens s e).0 later (is, all, turns) none

-- ---- one that waits, waits for what is under way

abbrev pub Waits : RingsState → Type 0
Waits s = is_waiting s.hold ≡ true → all_idle s.rings ≡ false

held_waits : (s : RingsState) → Waits (held s)
held_waits s = go (now_held s) refl
  where
    go : (b : Bool) → now_held s ≡ b → Waits (or_held b s)
    go true now waiting = absurd (cc)
    go false now waiting = elim (and_cases (is_waiting s.hold) (all_idle s.rings) now) [
      | inl not ↦ let bad : true ≡ false = sym waiting ∙ not in absurd (cc)
      | inr busy ↦ busy
    ]

ring_waits : (s : RingsState) (i : ℕ) (e : RingEvent) (o : Option RingState) (b : Bool) → Waits s
    → admits s.turn i e ≡ b → Waits (on_ring s i o e).0
ring_waits s i e None b waits is = waits
ring_waits s i e (Some r) false waits is = rw is waits
ring_waits s i e (Some r) true waits is =
    rw is (held_waits (step_to (record s { turn = turn_used s.turn i e }) i (step r e)))

taken_waits : (s : RingsState) (k : ℕ) (o : Option RingState) → Waits s → Waits (turn_taken s k o).0
taken_waits s k None waits = waits
taken_waits s k (Some q) waits = held_waits (step_to (record s {
  turn = turn_of k
      (ring.pops q);
  line = without s.line k;
}) k (after_turn q))

go_waits : (s : RingsState) (b : Bool) (o : Option ℕ) → Waits s → Waits (chosen b (next_turn s o) (s, nothing 0)).0
go_waits s false o waits = waits
go_waits s true None waits = waits
go_waits s true (Some k) waits = taken_waits s k (slice_get s.rings k) waits

hold_waits : (s : RingsState) (b : Bool) → Waits s → Waits (chosen b
    (held (holding s), record { ring = 0; actions = []; held = now_held (holding s) }) (s, nothing 0)).0
hold_waits s true waits = held_waits (holding s)
hold_waits s false waits = waits

released_waits : (s : RingsState) (h : Hold) → Waits s → Waits (released s h)
released_waits s Free waits = waits
released_waits s Waiting waits = waits
released_waits s Held waits = λ waiting. absurd (cc)

event_waits : (s : RingsState) (e : Event) → Waits s → Waits (happens s e).0
event_waits s (event.Ring i e) waits = ring_waits s i e (slice_get s.rings i) (admits s.turn i e) waits refl
event_waits s event.GoOn waits = go_waits s (is_free s.hold) (slice_get s.line 0) waits
event_waits s event.Hold waits = hold_waits s (is_free s.hold) waits
event_waits s event.Release waits = released_waits s s.hold waits

all_wait : (s : RingsState) (events : List Event) → Waits s → Waits (after_all events s)
all_wait s [] waits = waits
all_wait s (e ∷ es) waits = all_wait (happens s e).0 es (event_waits s e waits)

pub waits : (count ids : ℕ) (events : List Event) → Waits (after_all events (new_rings count ids))
waits count ids events = all_wait (new_rings count ids) events (λ waiting. absurd (cc))

-- ---- each is done

abbrev pub Counts : RingsState → ℕ → Happens → Type 0
Counts s came t = waits_to_hold s + came ≡ one_if t.1.held + waits_to_hold t.0

same_counts : (s new : RingsState) (done : Actions) → new.hold ≡ s.hold → done.held ≡ false → Counts s 0 (new, done)
same_counts s new done hold not = rw (hold, not) (omega arith)

held_counts : (s new : RingsState) (done : Actions) → new.hold ≡ s.hold → done.held ≡ now_held new
    → Counts s 0 (held new, done)
held_counts s new done hold is = rw is (go (now_held new) refl)
  where
    go : (b : Bool) → now_held new ≡ b → waits_to_hold s + 0 ≡ one_if b + waits_to_hold (or_held b new)
    go true now = let waiting : is_waiting s.hold ≡ true = ap is_waiting (sym hold) ∙ (and_parts _ _ now).0 in
        rw waiting refl
    go false now = rw hold (omega arith)

ring_counts : (s : RingsState) (i : ℕ) (e : RingEvent) (o : Option RingState) (b : Bool) → admits s.turn i e ≡ b
    → Counts s 0 (on_ring s i o e)
ring_counts s i e None b is = same_counts s s (nothing i) refl refl
ring_counts s i e (Some r) false is = rw is (same_counts s s (nothing i) refl refl)
ring_counts s i e (Some r) true is =
    let old : RingsState = record s { turn = turn_used s.turn i e } in
    rw is (held_counts s (step_to old i (step r e)) (with_step old i (step r e)).1 refl refl)

taken_counts : (s : RingsState) (k : ℕ) (o : Option RingState) → Counts s 0 (turn_taken s k o)
taken_counts s k None = same_counts s (turn_taken s k None).0 (nothing k) refl refl
taken_counts s k (Some q) =
    let old : RingsState = record s { turn = turn_of k (ring.pops q); line = without s.line k } in
    held_counts s (step_to old k (after_turn q)) (with_step old k (after_turn q)).1 refl refl

go_counts : (s : RingsState) (b : Bool) (o : Option ℕ) → Counts s 0 (chosen b (next_turn s o) (s, nothing 0))
go_counts s false o = same_counts s s (nothing 0) refl refl
go_counts s true None = same_counts s (record s { turn = None }) (nothing 0) refl refl
go_counts s true (Some k) = taken_counts s k (slice_get s.rings k)

free_not_waiting : (h : Hold) → is_free h ≡ true → is_waiting h ≡ false
free_not_waiting Free is = refl
free_not_waiting Waiting is = absurd (cc)
free_not_waiting Held is = refl

hold_counts : (s : RingsState) (b : Bool) → is_free s.hold ≡ b → Counts s (one_if (true && b)) (chosen b
    (held (holding s), record { ring = 0; actions = []; held = now_held (holding s) }) (s, nothing 0))
hold_counts s true free = rw (free_not_waiting s.hold free) (go (now_held (holding s)))
  where
    go : (b : Bool) → 0 + 1 ≡ one_if b + waits_to_hold (or_held b (holding s))
    go true = refl
    go false = refl
hold_counts s false free = same_counts s s (nothing 0) refl refl

released_counts : (s : RingsState) (h : Hold) → s.hold ≡ h → Counts s 0 (released s h, nothing 0)
released_counts s Free is = same_counts s s (nothing 0) refl refl
released_counts s Waiting is = same_counts s s (nothing 0) refl refl
released_counts s Held is = rw is refl

event_counts : (s : RingsState) (e : Event) → Counts s (one_if (is_hold e && is_free s.hold)) (happens s e)
event_counts s (event.Ring i e) = ring_counts s i e (slice_get s.rings i) (admits s.turn i e) refl
event_counts s event.GoOn = go_counts s (is_free s.hold) (slice_get s.line 0)
event_counts s event.Hold = hold_counts s (is_free s.hold) refl
event_counts s event.Release = released_counts s s.hold refl

pub each : (s : RingsState) (events : List Event)
    → waits_to_hold s + holds events s ≡ held_count (all_done events s) + waits_to_hold (after_all events s)
each s [] = omega arith
each s (e ∷ es) =
    let new = (happens s e).0 in
    let here : waits_to_hold s + one_if (is_hold e && is_free s.hold)
    ≡ one_if (happens s e).1.held + waits_to_hold new = event_counts s e in
    let rest : waits_to_hold new + holds es new ≡ held_count (all_done es new) + waits_to_hold (after_all es new) =
    each new es in
    let both : held_count ((happens s e).1 ∷ all_done es new)
    ≡ one_if (happens s e).1.held + held_count (all_done es new) =
    sum_by-cons _ (happens s e).1 (all_done es new) in
    omega arith
