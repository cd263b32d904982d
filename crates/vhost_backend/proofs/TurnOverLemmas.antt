-- A ring that has a turn was started, and was not stopped since.
use Rattle.std.proofs.Common.{◌≡◌, ◌∙◌, ℕ, ◌==◌, ◌&&◌, not, Bool, true, false, List, [], ◌∷◌, set, Option, Some, None, if◌then◌else◌, refl, ap, sym, inl, inr}
use Rattle.std.specs.List.{slice_get}
use Rattle.std.proofs.lemmas.Bool.{and_parts, cases_eq, eqb-true}
use Rattle.vhost_backend.proofs.BoundLemmas.{held_turn, released_turn, step_turn}
use Rattle.vhost_backend.proofs.OwnWayLemmas.{get-set_other, get-set_same, held_rings, released_same}
use Rattle.vhost_backend.specs.Line.{settled, without}
use Rattle.vhost_backend.specs.Ring.{RingState, Step, after_pop, after_turn, begun, broken, ended, has_place, is_idle, is_on, is_started, is_stopping, may_run, pops, request_at, returned, returning, started, step, wants, with_moved, with_request}
use Rattle.vhost_backend.specs.Rings.{Happens, RingsState, admits, happens, has_turn, held, holding, is_free, less, new_rings, next_turn, now_held, nothing, on_ring, turn_of, turn_taken, turn_used, unless_of, with_step}
use Rattle.vhost_backend.specs.Turns.{after_all}
use Rattle.vhost_backend.specs.declared.request.Chain.{Chain}
use Rattle.vhost_backend.specs.declared.request.PartEnd.{PartEnd}
use Rattle.vhost_backend.specs.declared.request.PartEnd.TheVariants.{Moved, Failed}
use Rattle.vhost_backend.specs.declared.request.Request.{Request}
use Rattle.vhost_backend.specs.declared.ring.Phase.{Phase}
use Rattle.vhost_backend.specs.declared.ring.Phase.TheVariants.{Stopped, Started, Broken, Stopping}
use Rattle.vhost_backend.specs.declared.ring.RingEvent.{RingEvent}
use Rattle.vhost_backend.specs.declared.ring.RingEvent.TheVariants.{Start, Stop, Enable, Break, Kick, Popped, Emptied, Ended}
use Rattle.vhost_backend.specs.declared.ring.actions.RingAction.{RingAction}
use Rattle.vhost_backend.specs.declared.ring.actions.RingAction.TheVariants as action
use Rattle.vhost_backend.specs.declared.rings.Event.{Event}
use Rattle.vhost_backend.specs.declared.rings.Event.TheVariants as event
use Rattle.vhost_backend.specs.declared.rings.Turn.{Turn}

abbrev TurnsAreOn : RingsState → Type 0
TurnsAreOn s = (i : ℕ) (r : RingState) → has_turn s.turn i ≡ true → slice_get s.rings i ≡ Some r → is_on r.phase ≡ true

-- ---- what is left of a turn

less_has : (t : Option Turn) (bytes i : ℕ) → has_turn (less t bytes) i ≡ true → has_turn t i ≡ true
less_has None bytes i has = has
less_has (Some t) bytes i has = has

unless_has : (t : Option Turn) (j i : ℕ) → has_turn (unless_of t j) i ≡ true → has_turn t i ≡ true
unless_has None j i has = has
unless_has (Some t) j i has = go (t.ring == j) has
  where
    go : (b : Bool) → has_turn (if b then None else Some t) i ≡ true → has_turn (Some t) i ≡ true
    go true bad = absurd (cc)
    go false has = has

used_has : (t : Option Turn) (j : ℕ) (e : RingEvent) (i : ℕ) → has_turn (turn_used t j e) i ≡ true → has_turn t i ≡ true
used_has t j Start i has = has
used_has t j Stop i has = unless_has t j i has
used_has t j (Enable on) i has = has
used_has t j Break i has = has
used_has t j Kick i has = has
used_has t j (Popped chain parts bytes) i has = less_has t bytes i has
used_has t j Emptied i has = absurd (cc)
used_has t j (Ended id end) i has = has

-- a ring has no turn after it is stopped
none_after_stop : (t : Option Turn) (j : ℕ) → has_turn (unless_of t j) j ≡ true → ⊥
none_after_stop None j has = absurd (cc)
none_after_stop (Some t) j has = go (t.ring == j) refl has
  where
    go : (b : Bool) → t.ring == j ≡ b → has_turn (if b then None else Some t) j ≡ true → ⊥
    go true is has = absurd (cc)
    go false is has = let bad : true ≡ false = sym has ∙ is in absurd (cc)

-- ---- steps of a ring that is on

module _ (r : RingState) (on : is_on r.phase ≡ true) where
  start_on : (p : Phase) → r.phase ≡ p → is_on (started r p).phase ≡ true
  start_on Stopped is = refl
  start_on Started is = on
  start_on Broken is = on
  start_on Stopping is = on

  break_on : (p : Phase) → is_on (broken r p).0.phase ≡ true
  break_on Started = refl
  break_on Stopped = on
  break_on Broken = on
  break_on Stopping = on

  begun_on : (chain : Chain) (parts : ℕ) → is_on (begun r chain parts).0.phase ≡ true
  begun_on chain parts = go (parts == 0)
    where
      go : (b : Bool) → (let t : Step = if b then (record r { owes = true }, action.Return chain 0 false ∷ [])
          else (
            with_request r chain.id (Some (record { slots = chain.slots; left = parts; moved = 0 })),
            action.Serve chain.id parts ∷ [],
          ) in is_on t.0.phase ≡ true)
      go true = on
      go false = on

  pop_on : (chain : Chain) (parts : ℕ) → is_on (after_pop r chain parts).0.phase ≡ true
  pop_on chain parts = go (not (may_run r)) (has_place r chain.id)
    where
      go : (b d : Bool) → (let t : Step = if b then (r, []) else (if d then begun r chain parts else broken r r.phase) in
          is_on t.0.phase ≡ true)
      go true d = on
      go false true = begun_on chain parts
      go false false = break_on r.phase

  not_stopping : is_stopping r.phase ≡ false
  not_stopping = go r.phase on
    where
      go : (p : Phase) → is_on p ≡ true → is_stopping p ≡ false
      go Stopped is = absurd (cc)
      go Started is = refl
      go Broken is = refl
      go Stopping is = absurd (cc)

returning_on : (r : RingState) (a : RingAction) → is_on r.phase ≡ true → is_on (returning r a).0.phase ≡ true
returning_on r a on = go (is_stopping r.phase && is_idle r) (ap (λ b. b && is_idle r) (not_stopping r on))
  where
    go : (b : Bool) → b ≡ false → (let t : Step = if b
        then (record r { phase = Stopped; owes = false }, a ∷ action.Notify ∷ action.Stopped ∷ [])
        else (record r { owes = true }, a ∷ []) in is_on t.0.phase ≡ true)
    go true bad = absurd (cc)
    go false not = on

returned_on : (r : RingState) (id : ℕ) (q : Request) (failed : Bool) → is_on r.phase ≡ true
    → is_on (returned r id q failed).0.phase ≡ true
returned_on r id q failed on = returning_on (with_request r id None) _ on

moved_on : (r : RingState) (id : ℕ) (q : Request) (b : Bool) → is_on r.phase ≡ true
    → (let t : Step = if b then (with_request r id (Some q), action.Serve id q.left ∷ []) else returned r id q false in
    is_on t.0.phase ≡ true)
moved_on r id q true on = on
moved_on r id q false on = returned_on r id q false on

end_on : (r : RingState) (id : ℕ) (o : Option Request) (end : PartEnd) → is_on r.phase ≡ true
    → is_on (ended r id o end).0.phase ≡ true
end_on r id None end on = on
end_on r id (Some q) (Moved count) on = moved_on r id (with_moved q count) _ on
end_on r id (Some q) Failed on = returned_on r id q true on

step_on : (t : Option Turn) (j : ℕ) (r : RingState) (e : RingEvent) → has_turn (turn_used t j e) j ≡ true
    → is_on r.phase ≡ true → is_on (step r e).0.phase ≡ true
step_on t j r Start has on = start_on r on r.phase refl
step_on t j r Stop has on = absurd (none_after_stop t j has)
step_on t j r (Enable is) has on = on
step_on t j r Break has on = break_on r on r.phase
step_on t j r Kick has on = on
step_on t j r (Popped chain parts bytes) has on = pop_on r on chain parts
step_on t j r Emptied has on = absurd (cc)
step_on t j r (Ended id end) has on = end_on r id (request_at r id) end on

-- ---- steps of rings

module _ (s : RingsState) where
  -- a step of one of them, if it is on as long as it has a turn, and the others are
  stepped_on : (j : ℕ) (q : RingState) (t : Step) → slice_get s.rings j ≡ Some q
      → (has_turn s.turn j ≡ true → is_on t.0.phase ≡ true)
      → ((i : ℕ) (r : RingState) → (j ≡ i → ⊥) → has_turn s.turn i ≡ true → slice_get s.rings i ≡ Some r
      → is_on r.phase ≡ true) → TurnsAreOn (with_step s j t).0
  stepped_on j q t is own others i r has there =
      let new : RingsState = record s { rings = set s.rings j t.0; line = settled s.line j (wants t.0) } in
      let has' : has_turn s.turn i ≡ true = ap (λ u. has_turn u i) (sym (step_turn s j t)) ∙ has in
      let found : slice_get (set s.rings j t.0) i ≡ Some r =
      ap (λ all. slice_get all i) (sym (held_rings new)) ∙ there in
      elim (cases_eq j i) [
        | inl same ↦
            let at : slice_get (set s.rings j t.0) j ≡ Some t.0 = get-set_same s.rings j t.0 q is in
            let also : slice_get (set s.rings j t.0) j ≡ Some r = ap (slice_get (set s.rings j t.0)) same ∙ found in
            let one : t.0 ≡ r = cc in
            ap (λ (v : RingState). is_on v.phase) (sym one) ∙ own (ap (has_turn s.turn) same ∙ has')
        | inr differs ↦ others i r differs has'
            (sym (get-set_other s.rings j i t.0 (λ same. differs (sym same))) ∙ found)
      ]

ring_on : (s : RingsState) (j : ℕ) (e : RingEvent) (o : Option RingState) (b : Bool) → TurnsAreOn s
    → slice_get s.rings j ≡ o → admits s.turn j e ≡ b → TurnsAreOn (on_ring s j o e).0
ring_on s j e None b are is may = are
ring_on s j e (Some q) false are is may = rw may are
ring_on s j e (Some q) true are is may = rw may (
    stepped_on (record s { turn = turn_used s.turn j e }) j q (step q e) is
    (λ has. step_on s.turn j q e has (are j q (used_has s.turn j e j has) is))
    (λ i r differs has there. are i r (used_has s.turn j e i has) there)
    )

-- a ring that takes its turn and pops was started
pops_on : (q : RingState) → pops q ≡ true → is_on q.phase ≡ true
pops_on q is = let run = (and_parts q.kicked _ is).1 in go q.phase (and_parts (is_started q.phase) _ run).0
  where
    go : (p : Phase) → is_started p ≡ true → is_on p ≡ true
    go Stopped is = absurd (cc)
    go Started is = refl
    go Broken is = absurd (cc)
    go Stopping is = absurd (cc)

turn_of_has : (k i : ℕ) (b : Bool) → has_turn (turn_of k b) i ≡ true → (b ≡ true) × (k ≡ i)
turn_of_has k i true has = (refl, eqb-true k i has)
turn_of_has k i false has = absurd (cc)

taken_on : (s : RingsState) (k : ℕ) (o : Option RingState) → slice_get s.rings k ≡ o → TurnsAreOn (turn_taken s k o).0
taken_on s k None is = λ i r has there. absurd (cc)
taken_on s k (Some q) is =
    stepped_on (record s { turn = turn_of k (pops q); line = without s.line k }) k q (after_turn q) is
    (λ has. pops_on q (turn_of_has k k (pops q) has).0)
    (λ i r differs has there. absurd (differs (turn_of_has k i (pops q) has).1))

go_on_on : (s : RingsState) (free : Bool) (o : Option ℕ) → TurnsAreOn s
    → TurnsAreOn (if free then next_turn s o else (s, nothing 0)).0
go_on_on s false o are = are
go_on_on s true None are = λ i r has there. absurd (cc)
go_on_on s true (Some k) are = taken_on s k (slice_get s.rings k) refl

hold_on : (s : RingsState) (free : Bool) → TurnsAreOn s → (let t : Happens = if free
    then (held (holding s), record { ring = 0; actions = []; held = now_held (holding s) }) else (s, nothing 0) in
    TurnsAreOn t.0)
hold_on s true are = λ i r has there.
    let bad : false ≡ true = ap (λ t. has_turn t i) (sym (held_turn (holding s))) ∙ has in absurd (cc)
hold_on s false are = are

event_on : (s : RingsState) (e : Event) → TurnsAreOn s → TurnsAreOn (happens s e).0
event_on s (event.Ring j e) are = ring_on s j e (slice_get s.rings j) (admits s.turn j e) are refl refl
event_on s event.GoOn are = go_on_on s (is_free s.hold) (slice_get s.line 0) are
event_on s event.Hold are = hold_on s (is_free s.hold) are
event_on s event.Release are = λ i r has there. are i r (ap (λ t. has_turn t i) (sym (released_turn s s.hold)) ∙ has)
    (ap (λ all. slice_get all i) (sym (released_same s s.hold).0) ∙ there)

all_on : (s : RingsState) (events : List Event) → TurnsAreOn s → TurnsAreOn (after_all events s)
all_on s [] are = are
all_on s (e ∷ es) are = all_on (happens s e).0 es (event_on s e are)

pub turns_are_on : (count ids : ℕ) (events : List Event) → TurnsAreOn (after_all events (new_rings count ids))
turns_are_on count ids events = all_on (new_rings count ids) events (λ i r has there. absurd (cc))
