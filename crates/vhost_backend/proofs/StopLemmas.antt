-- A message that stops a ring is answered after all that is under way.
use Rattle.std.proofs.Common.{◌≡◌, ◌∙◌, ℕ, zero, suc, ◌+◌, ◌<◌, ◌&&◌, ◌==◌, nat_lt, not, Bool, true, false, List, [], ◌∷◌, ◌++◌, length, get_or, Option, Some, None, if◌then◌else◌, refl, ap, sym, arith, inl, inr}
use Rattle.std.specs.List.{list_all}
use Rattle.std.proofs.lemmas.Bool.{and_cases, and_from, and_parts, cases_lt, eqb-true, or_parts}
use Rattle.std.proofs.lemmas.List.{get_or-set_same, get_or_past}
use Rattle.std.proofs.lemmas.List.Sums.{sum_by-append, sum_by-cons}
use Rattle.vhost_backend.specs.Actions.{if_so, is_answer}
use Rattle.vhost_backend.specs.Ring.{RingState, Step, after_break, after_pop, after_stop, after_turn, begun, broken, count_of, ended, has_place, is_idle, is_started, is_stopping, may_run, new_ring, part_ended, part_moved, pops, request_at, returning, started, step, with_moved, with_request}
use Rattle.vhost_backend.specs.Ring as ring
use Rattle.vhost_backend.specs.Story.{RingStep, On, Turn, actions, after, answers, has_start, is_start, is_stop, popped, stepped, stops, taken, waiting}
use Rattle.vhost_backend.specs.declared.request.Chain.{Chain}
use Rattle.vhost_backend.specs.declared.request.PartEnd.{PartEnd}
use Rattle.vhost_backend.specs.declared.request.PartEnd.TheVariants.{Moved, Failed}
use Rattle.vhost_backend.specs.declared.request.Request.{Request}
use Rattle.vhost_backend.specs.declared.ring.Phase.{Phase}
use Rattle.vhost_backend.specs.declared.ring.Phase.TheVariants.{Stopped, Started, Broken, Stopping}
use Rattle.vhost_backend.specs.declared.ring.RingEvent.TheVariants.{Start, Stop, Enable, Break, Kick, Popped, Emptied, Ended}
use Rattle.vhost_backend.specs.declared.ring.actions.RingAction.{RingAction}
use Rattle.vhost_backend.specs.declared.ring.actions.RingAction.TheVariants as action

-- ---- what is under way

-- with none under way there is none of any id
none_at : (requests : List (Option Request)) (id : ℕ) → count_of requests ≡ 0 → get_or requests id None ≡ None
none_at [] id none = refl
none_at (None ∷ rest) zero none = refl
none_at (None ∷ rest) (suc id) none = none_at rest id none
none_at (Some q ∷ rest) id none =
    let more : 1 + count_of rest ≡ 0 = sym (sum_by-cons _ (Some q) rest) ∙ none in absurd (omega arith)

pub idle_at : (r : RingState) (id : ℕ) → is_idle r ≡ true → request_at r id ≡ None
idle_at r id idle = none_at r.requests id (eqb-true _ _ idle)

busy_at : (r : RingState) (id : ℕ) (q : Request) → request_at r id ≡ Some q → is_idle r ≡ false
busy_at r id q found = go (is_idle r) refl
  where
    go : (b : Bool) → is_idle r ≡ b → b ≡ false
    go false is = refl
    go true is = let none : request_at r id ≡ None = idle_at r id is in absurd (cc)

pub place_of : (r : RingState) (id : ℕ) (q : Request) → request_at r id ≡ Some q → id < length r.requests
place_of r id q found = elim (cases_lt id (length r.requests)) [
  | inl below ↦ below
  | inr past ↦ let none : request_at r id ≡ None = get_or_past r.requests id None past in absurd (cc)
]

still_busy : (r : RingState) (id : ℕ) (q next : Request) → request_at r id ≡ Some q
    → is_idle (with_request r id (Some next)) ≡ false
still_busy r id q next found = busy_at (with_request r id (Some next)) id next
    (get_or-set_same r.requests id (Some next) None (place_of r id q found))

-- ---- an answer comes last

abbrev pub Last : List RingAction → Type 0
Last all = (before : List RingAction) × (all ≡ before ++ action.Stopped ∷ []) × (answers before ≡ 0)

abbrev pub Rests : RingState → Type 0
Rests r = (r.phase ≡ Stopped) × (is_idle r ≡ true) × (r.owes ≡ false)

abbrev pub Answers : Step → Type 0
Answers t = 0 < answers t.1 → Rests t.0 × Last t.1

no_answer : {P : Type 0} → 0 < 0 → P
no_answer some = absurd (omega arith)

-- a step that is chosen
abbrev chosen : Bool → Step → Step → Step
chosen b one other = if b then one else other

module _ (r : RingState) where
  start_answers : (p : Phase) → Answers (started r p, [])
  start_answers p = no_answer

  break_answers : (p : Phase) → Answers (broken r p)
  break_answers Stopped = no_answer
  break_answers Started = no_answer
  break_answers Broken = no_answer
  break_answers Stopping = no_answer

  stop_answers : (idle owes : Bool) → is_idle r ≡ idle → Answers (if idle
      then (record r { phase = Stopped; owes = false }, if_so owes action.Notify ++ action.Stopped ∷ [])
      else (record r { phase = Stopping }, []))
  stop_answers true true is = λ some. ((refl, is, refl), (action.Notify ∷ [], refl, refl))
  stop_answers true false is = λ some. ((refl, is, refl), ([], refl, refl))
  stop_answers false owes is = no_answer

  turn_answers : (new : RingState) (owes pops : Bool)
      → Answers (new, if_so owes action.Notify ++ if_so pops action.Pop)
  turn_answers new true true = no_answer
  turn_answers new true false = no_answer
  turn_answers new false true = no_answer
  turn_answers new false false = no_answer

  begin_answers : (chain : Chain) (parts : ℕ) (none : Bool) → Answers (if none
      then (record r { owes = true }, action.Return chain 0 false ∷ [])
      else (
        with_request r chain.id (Some (record { slots = chain.slots; left = parts; moved = 0 })),
        action.Serve chain.id parts ∷ [],
      ))
  begin_answers chain parts true = no_answer
  begin_answers chain parts false = no_answer

  pop_answers : (chain : Chain) (parts : ℕ) (runs has : Bool)
      → Answers (if not runs then (r, []) else (if has then begun r chain parts else after_break r))
  pop_answers chain parts false has = no_answer
  pop_answers chain parts true false = break_answers r.phase
  pop_answers chain parts true true = begin_answers chain parts (parts == 0)

  return_answers : (chain : Chain) (moved : ℕ) (failed b : Bool) → (is_stopping r.phase && is_idle r) ≡ b
      → (let gone = action.Return chain moved failed in
      Answers (if b then (record r { phase = Stopped; owes = false }, gone ∷ action.Notify ∷ action.Stopped ∷ [])
      else (record r { owes = true }, gone ∷ [])))
  return_answers chain moved failed true is = λ some.
      ((refl, (and_parts _ _ is).1, refl), (action.Return chain moved failed ∷ action.Notify ∷ [], refl, refl))
  return_answers chain moved failed false is = no_answer

gone_answers : (r : RingState) (i : ℕ) (q : Request) (failed : Bool) → Answers (ring.returned r i q failed)
gone_answers r i q failed =
    let new = with_request r i None in
    return_answers new (record { id = i; slots = q.slots }) q.moved failed (is_stopping new.phase && is_idle new) refl

moved_answers : (r : RingState) (i : ℕ) (q : Request) (b : Bool)
    → Answers (if b then (with_request r i (Some q), action.Serve i q.left ∷ []) else ring.returned r i q false)
moved_answers r i q true = no_answer
moved_answers r i q false = gone_answers r i q false

end_answers : (r : RingState) (i : ℕ) (o : Option Request) (end : PartEnd) → Answers (ended r i o end)
end_answers r i None end = no_answer
end_answers r i (Some q) (Moved count) = moved_answers r i (with_moved q count) (nat_lt 0 (with_moved q count).left)
end_answers r i (Some q) Failed = gone_answers r i q true

pub answers_last : (r : RingState) (s : RingStep) → Answers (stepped r s)
answers_last r (On Start) = start_answers r r.phase
answers_last r (On Stop) = stop_answers r (is_idle r) r.owes refl
answers_last r (On (Enable on)) = no_answer
answers_last r (On Break) = break_answers r r.phase
answers_last r (On Kick) = no_answer
answers_last r (On (Popped chain parts bytes)) = pop_answers r chain parts (may_run r) (has_place r chain.id)
answers_last r (On Emptied) = no_answer
answers_last r (On (Ended i end)) = end_answers r i (request_at r i) end
answers_last r Turn = turn_answers r (after_turn r).0 r.owes (pops r)

-- ---- a ring that is not started pops nothing

abbrev pub Down : RingState → Type 0
Down r = is_started r.phase ≡ false

-- a step takes nothing, and the ring is not started by it
abbrev pub Sinks : List Chain → Step → Type 0
Sinks chains t = (chains ≡ []) × Down t.0

module _ (r : RingState) (down : Down r) where
  cannot_run : may_run r ≡ false
  cannot_run = rw down refl

  break_sinks : (p : Phase) → r.phase ≡ p → Sinks [] (broken r p)
  break_sinks Stopped is = (refl, down)
  break_sinks Started is = (refl, refl)
  break_sinks Broken is = (refl, down)
  break_sinks Stopping is = (refl, down)

  stop_sinks : (idle : Bool) (acts : List RingAction) → Sinks [] (if idle
      then (record r { phase = Stopped; owes = false }, acts) else (record r { phase = Stopping }, []))
  stop_sinks true acts = (refl, refl)
  stop_sinks false acts = (refl, refl)

  pop_sinks : (chain : Chain) (parts : ℕ) (runs : Bool) → runs ≡ false
      → Sinks (if runs && has_place r chain.id then chain ∷ [] else [])
      (if not runs then (r, []) else (if has_place r chain.id then begun r chain parts else after_break r))
  pop_sinks chain parts false is = (refl, down)
  pop_sinks chain parts true is = absurd (cc)

  return_sinks : (new : RingState) (chain : RingAction) (b : Bool) → new.phase ≡ r.phase
      → Down (chosen b (record new { phase = Stopped; owes = false }, chain ∷ action.Notify ∷ action.Stopped ∷ [])
      (record new { owes = true }, chain ∷ [])).0
  return_sinks new chain true same = refl
  return_sinks new chain false same = rw same down

  gone_sinks : (i : ℕ) (q : Request) (failed : Bool) → Down (ring.returned r i q failed).0
  gone_sinks i q failed = let new = with_request r i None in
      return_sinks new (action.Return (record { id = i; slots = q.slots }) q.moved failed)
      (is_stopping new.phase && is_idle new) refl

  moved_sinks : (i : ℕ) (q : Request) (b : Bool)
      → Down (chosen b (with_request r i (Some q), action.Serve i q.left ∷ []) (ring.returned r i q false)).0
  moved_sinks i q true = down
  moved_sinks i q false = gone_sinks i q false

  end_sinks : (i : ℕ) (o : Option Request) (end : PartEnd) → Down (ended r i o end).0
  end_sinks i None end = down
  end_sinks i (Some q) (Moved count) = moved_sinks i (with_moved q count) (nat_lt 0 (with_moved q count).left)
  end_sinks i (Some q) Failed = gone_sinks i q true

  step_sinks : (s : RingStep) → is_start s ≡ false → Sinks (taken r s) (stepped r s)
  step_sinks (On Start) not = absurd (cc)
  step_sinks (On Stop) not = stop_sinks (is_idle r) (if_so r.owes action.Notify ++ action.Stopped ∷ [])
  step_sinks (On (Enable on)) not = (refl, down)
  step_sinks (On Break) not = break_sinks r.phase refl
  step_sinks (On Kick) not = (refl, down)
  step_sinks (On (Popped chain parts bytes)) not = pop_sinks chain parts (may_run r) cannot_run
  step_sinks (On Emptied) not = (refl, down)
  step_sinks (On (Ended i end)) not = (refl, end_sinks i (request_at r i) end)
  step_sinks Turn not = (refl, down)

nothing_popped : (r : RingState) (steps : List RingStep) → Down r → has_start steps ≡ false → popped steps r ≡ []
nothing_popped r [] down none = refl
nothing_popped r (s ∷ ss) down none =
    let (not, later) = or_parts (is_start s) (has_start ss) none in
    let (here, still) = step_sinks r down s not in
    rw here (nothing_popped (stepped r s).0 ss still later)

pub pops_nothing : (r : RingState) (steps : List RingStep) → has_start steps ≡ false
    → popped steps (after_stop r).0 ≡ []
pops_nothing r steps none = nothing_popped (after_stop r).0 steps (go (is_idle r)) none
  where
    go : (b : Bool) → Down (chosen b
        (record r { phase = Stopped; owes = false }, if_so r.owes action.Notify ++ action.Stopped ∷ [])
        (record r { phase = Stopping }, [])).0
    go true = refl
    go false = refl

-- ---- a ring that rests does nothing

-- a step does nothing but answer, and the ring rests after it
abbrev pub Sleeps : Step → Type 0
Sleeps t = (list_all is_answer t.1 ≡ true) × Rests t.0

module _ (r : RingState) (rests : Rests r) where
  is_down : Down r
  is_down = rw rests.0 refl

  runs_not : may_run r ≡ false
  runs_not = cannot_run r is_down

  break_sleeps : (p : Phase) → r.phase ≡ p → Sleeps (broken r p)
  break_sleeps Stopped is = (refl, rests)
  break_sleeps Started is = let bad : Stopped ≡ Started = sym rests.0 ∙ is in absurd (cc)
  break_sleeps Broken is = (refl, rests)
  break_sleeps Stopping is = (refl, rests)

  stop_sleeps : (idle owes : Bool) → idle ≡ true → owes ≡ false → Sleeps (chosen idle
      (record r { phase = Stopped; owes = false }, if_so owes action.Notify ++ action.Stopped ∷ [])
      (record r { phase = Stopping }, []))
  stop_sleeps true false is told = (refl, (refl, rests.1, refl))
  stop_sleeps true true is told = absurd (cc)
  stop_sleeps false owes is told = absurd (cc)

  turn_sleeps : (new : RingState) (owes runs : Bool) → owes ≡ false → runs ≡ false → Rests new
      → Sleeps (new, if_so owes action.Notify ++ if_so runs action.Pop)
  turn_sleeps new false false told down still = (refl, still)
  turn_sleeps new true runs told down still = absurd (cc)
  turn_sleeps new false true told down still = absurd (cc)

  pop_sleeps : (chain : Chain) (parts : ℕ) (runs : Bool) → runs ≡ false
      → Sleeps (chosen (not runs) (r, []) (chosen (has_place r chain.id) (begun r chain parts) (after_break r)))
  pop_sleeps chain parts false is = (refl, rests)
  pop_sleeps chain parts true is = absurd (cc)

  end_sleeps : (o : Option Request) (i : ℕ) (end : PartEnd) → o ≡ None → Sleeps (ended r i o end)
  end_sleeps None i end none = (refl, rests)
  end_sleeps (Some q) i end none = absurd (cc)

  does_not_pop : pops r ≡ false
  does_not_pop = go r.kicked (may_run r) runs_not
    where
      go : (kicked runs : Bool) → runs ≡ false → (kicked && runs) ≡ false
      go true runs none = none
      go false runs none = refl

  pub step_sleeps : (s : RingStep) → is_start s ≡ false → Sleeps (stepped r s)
  step_sleeps (On Start) not = absurd (cc)
  step_sleeps (On Stop) not = stop_sleeps (is_idle r) r.owes rests.1 rests.2
  step_sleeps (On (Enable on)) not = (refl, rests)
  step_sleeps (On Break) not = break_sleeps r.phase refl
  step_sleeps (On Kick) not = (refl, rests)
  step_sleeps (On (Popped chain parts bytes)) not = pop_sleeps chain parts (may_run r) runs_not
  step_sleeps (On Emptied) not = (refl, rests)
  step_sleeps (On (Ended i end)) not = end_sleeps (request_at r i) i end (idle_at r i rests.1)
  step_sleeps Turn not = turn_sleeps (after_turn r).0 r.owes (pops r) rests.2 does_not_pop (rests.0, rests.1, refl)

list_all-append : (xs ys : List RingAction) → list_all is_answer xs ≡ true → list_all is_answer ys ≡ true
    → list_all is_answer (xs ++ ys) ≡ true
list_all-append [] ys these those = those
list_all-append (x ∷ xs) ys these those = let (here, rest) = and_parts (is_answer x) (list_all is_answer xs) these in
    and_from _ _ here (list_all-append xs ys rest those)

sleeps : (r : RingState) (steps : List RingStep) → Rests r → has_start steps ≡ false
    → list_all is_answer (actions steps r) ≡ true
sleeps r [] rests none = refl
sleeps r (s ∷ ss) rests none =
    let (not, later) = or_parts (is_start s) (has_start ss) none in
    let (here, still) = step_sleeps r rests s not in
    list_all-append (stepped r s).1 (actions ss (stepped r s).0) here (sleeps (stepped r s).0 ss still later)

pub gone : (r : RingState) (s : RingStep) (steps : List RingStep) → 0 < answers (stepped r s).1
    → has_start steps ≡ false → list_all is_answer (actions steps (stepped r s).0) ≡ true
gone r s steps some none = sleeps (stepped r s).0 steps (answers_last r s some).0 none

-- ---- a stop that waits, waits for what is under way

abbrev pub Waits : RingState → Type 0
Waits r = is_stopping r.phase ≡ true → is_idle r ≡ false

module _ (r : RingState) (waits : Waits r) where
  start_waits : (p : Phase) → Waits (started r p)
  start_waits Stopped stopping = absurd (cc)
  start_waits Started stopping = waits stopping
  start_waits Broken stopping = waits stopping
  start_waits Stopping stopping = waits stopping

  break_waits : (p : Phase) → Waits (broken r p).0
  break_waits Stopped stopping = waits stopping
  break_waits Started stopping = absurd (cc)
  break_waits Broken stopping = waits stopping
  break_waits Stopping stopping = waits stopping

  stop_waits : (idle : Bool) (acts : List RingAction) → is_idle r ≡ idle → Waits (chosen idle
      (record r { phase = Stopped; owes = false }, acts) (record r { phase = Stopping }, [])).0
  stop_waits true acts is stopping = absurd (cc)
  stop_waits false acts is stopping = is

  started_waits : (p : Phase) → is_started p ≡ true → is_stopping p ≡ true → ⊥
  started_waits Stopped one other = absurd (cc)
  started_waits Started one other = absurd (cc)
  started_waits Broken one other = absurd (cc)
  started_waits Stopping one other = absurd (cc)

  begin_waits : (chain : Chain) (parts : ℕ) (none : Bool) → is_started r.phase ≡ true → Waits (chosen none
      (record r { owes = true }, action.Return chain 0 false ∷ []) (
        with_request r chain.id (Some (record { slots = chain.slots; left = parts; moved = 0 })),
        action.Serve chain.id parts ∷ [],
      )).0
  begin_waits chain parts true runs stopping = waits stopping
  begin_waits chain parts false runs stopping = absurd (started_waits r.phase runs stopping)

  pop_waits : (chain : Chain) (parts : ℕ) (runs has : Bool) → may_run r ≡ runs
      → Waits (chosen (not runs) (r, []) (chosen has (begun r chain parts) (after_break r))).0
  pop_waits chain parts false has is = waits
  pop_waits chain parts true false is = break_waits r.phase
  pop_waits chain parts true true is = begin_waits chain parts (parts == 0) (and_parts _ _ is).0

return_waits : (new : RingState) (chain : RingAction) (b : Bool) → (is_stopping new.phase && is_idle new) ≡ b
    → Waits (chosen b (record new { phase = Stopped; owes = false }, chain ∷ action.Notify ∷ action.Stopped ∷ [])
    (record new { owes = true }, chain ∷ [])).0
return_waits new chain true is stopping = absurd (cc)
return_waits new chain false is stopping = elim (and_cases (is_stopping new.phase) (is_idle new) is) [
  | inl goes ↦ let bad : true ≡ false = sym stopping ∙ goes in absurd (cc)
  | inr busy ↦ busy
]

gone_waits : (r : RingState) (i : ℕ) (q : Request) (failed : Bool) → Waits (ring.returned r i q failed).0
gone_waits r i q failed = let new = with_request r i None in
    return_waits new (action.Return (record { id = i; slots = q.slots }) q.moved failed)
    (is_stopping new.phase && is_idle new) refl

moved_waits : (r : RingState) (i : ℕ) (q next : Request) (b : Bool) → request_at r i ≡ Some q
    → Waits (chosen b (with_request r i (Some next), action.Serve i next.left ∷ []) (ring.returned r i next false)).0
moved_waits r i q next true found = λ stopping. still_busy r i q next found
moved_waits r i q next false found = gone_waits r i next false

end_waits : (r : RingState) (i : ℕ) (o : Option Request) (end : PartEnd) → Waits r → request_at r i ≡ o
    → Waits (ended r i o end).0
end_waits r i None end waits found = waits
end_waits r i (Some q) (Moved count) waits found =
    moved_waits r i q (with_moved q count) (nat_lt 0 (with_moved q count).left) found
end_waits r i (Some q) Failed waits found = gone_waits r i q true

step_waits : (r : RingState) (s : RingStep) → Waits r → Waits (stepped r s).0
step_waits r (On Start) waits = start_waits r waits r.phase
step_waits r (On Stop) waits = stop_waits r waits (is_idle r) (if_so r.owes action.Notify ++ action.Stopped ∷ []) refl
step_waits r (On (Enable on)) waits = waits
step_waits r (On Break) waits = break_waits r waits r.phase
step_waits r (On Kick) waits = waits
step_waits r (On (Popped chain parts bytes)) waits = pop_waits r waits chain parts (may_run r)
    (has_place r chain.id) refl
step_waits r (On Emptied) waits = waits
step_waits r (On (Ended i end)) waits = end_waits r i (request_at r i) end waits refl
step_waits r Turn waits = waits

all_wait : (r : RingState) (steps : List RingStep) → Waits r → Waits (after steps r)
all_wait r [] waits = waits
all_wait r (s ∷ ss) waits = all_wait (stepped r s).0 ss (step_waits r s waits)

pub waits_for_some : (ids : ℕ) (steps : List RingStep) → Waits (after steps (new_ring ids))
waits_for_some ids steps = all_wait (new_ring ids) steps (λ stopping. absurd (cc))

-- ---- each stop is answered

abbrev pub count_if : Bool → ℕ
count_if b = if b then 1 else 0

-- what waited and what came is answered or waits
abbrev pub Counts : RingState → ℕ → Step → Type 0
Counts r came t = waiting r + came ≡ answers t.1 + waiting t.0

quiet_counts : (r new : RingState) (acts : List RingAction) → new.phase ≡ r.phase → answers acts ≡ 0
    → Counts r 0 (new, acts)
quiet_counts r new acts same none = rw (same, none) (omega arith)

module _ (r : RingState) where
  start_counts : (p : Phase) → r.phase ≡ p → Counts r 0 (started r p, [])
  start_counts Stopped is = rw is refl
  start_counts Started is = quiet_counts r r [] refl refl
  start_counts Broken is = quiet_counts r r [] refl refl
  start_counts Stopping is = quiet_counts r r [] refl refl

  break_counts : (p : Phase) → r.phase ≡ p → Counts r 0 (broken r p)
  break_counts Stopped is = quiet_counts r r [] refl refl
  break_counts Started is = rw is refl
  break_counts Broken is = quiet_counts r r [] refl refl
  break_counts Stopping is = quiet_counts r r [] refl refl

  stop_counts : (waits idle owes : Bool) → is_stopping r.phase ≡ waits → Counts r (count_if (not waits)) (chosen idle
      (record r { phase = Stopped; owes = false }, if_so owes action.Notify ++ action.Stopped ∷ [])
      (record r { phase = Stopping }, []))
  stop_counts true true true is = rw is refl
  stop_counts true true false is = rw is refl
  stop_counts true false owes is = rw is refl
  stop_counts false true true is = rw is refl
  stop_counts false true false is = rw is refl
  stop_counts false false owes is = rw is refl

  turn_counts : (owes runs : Bool) → answers (if_so owes action.Notify ++ if_so runs action.Pop) ≡ 0
  turn_counts true true = refl
  turn_counts true false = refl
  turn_counts false true = refl
  turn_counts false false = refl

  begin_counts : (chain : Chain) (parts : ℕ) (none : Bool) → Counts r 0 (chosen none
      (record r { owes = true }, action.Return chain 0 false ∷ []) (
        with_request r chain.id (Some (record { slots = chain.slots; left = parts; moved = 0 })),
        action.Serve chain.id parts ∷ [],
      ))
  begin_counts chain parts true =
      quiet_counts r (record r { owes = true }) (action.Return chain 0 false ∷ []) refl refl
  begin_counts chain parts false =
      quiet_counts r (with_request r chain.id None) (action.Serve chain.id parts ∷ []) refl refl

  pop_counts : (chain : Chain) (parts : ℕ) (runs has : Bool)
      → Counts r 0 (chosen (not runs) (r, []) (chosen has (begun r chain parts) (after_break r)))
  pop_counts chain parts false has = quiet_counts r r [] refl refl
  pop_counts chain parts true false = break_counts r.phase refl
  pop_counts chain parts true true = begin_counts chain parts (parts == 0)

  return_counts : (new : RingState) (chain : Chain) (moved : ℕ) (failed b : Bool) → new.phase ≡ r.phase
      → (is_stopping new.phase && is_idle new) ≡ b → (let gone = action.Return chain moved failed in
      Counts r 0 (chosen b (record new { phase = Stopped; owes = false }, gone ∷ action.Notify ∷ action.Stopped ∷ [])
      (record new { owes = true }, gone ∷ [])))
  return_counts new chain moved failed true same is =
      let waits : is_stopping r.phase ≡ true = ap is_stopping (sym same) ∙ (and_parts _ _ is).0 in rw waits refl
  return_counts new chain moved failed false same is =
      quiet_counts r (record new { owes = true }) (action.Return chain moved failed ∷ []) same refl

  gone_counts : (i : ℕ) (q : Request) (failed : Bool) → Counts r 0 (ring.returned r i q failed)
  gone_counts i q failed = let new = with_request r i None in
      return_counts new (record { id = i; slots = q.slots }) q.moved failed
      (is_stopping new.phase && is_idle new) refl refl

  moved_counts : (i : ℕ) (q : Request) (b : Bool)
      → Counts r 0 (chosen b (with_request r i (Some q), action.Serve i q.left ∷ []) (ring.returned r i q false))
  moved_counts i q true = quiet_counts r (with_request r i (Some q)) (action.Serve i q.left ∷ []) refl refl
  moved_counts i q false = gone_counts i q false

  end_counts : (i : ℕ) (o : Option Request) (end : PartEnd) → Counts r 0 (ended r i o end)
  end_counts i None end = quiet_counts r r [] refl refl
  end_counts i (Some q) (Moved count) = moved_counts i (with_moved q count) (nat_lt 0 (with_moved q count).left)
  end_counts i (Some q) Failed = gone_counts i q true

  step_counts : (s : RingStep) → Counts r (count_if (is_stop s && not (is_stopping r.phase))) (stepped r s)
  step_counts (On Start) = start_counts r.phase refl
  step_counts (On Stop) = stop_counts (is_stopping r.phase) (is_idle r) r.owes refl
  step_counts (On (Enable on)) = quiet_counts r (record r { enabled = on }) [] refl refl
  step_counts (On Break) = break_counts r.phase refl
  step_counts (On Kick) = quiet_counts r (record r { kicked = true }) [] refl refl
  step_counts (On (Popped chain parts bytes)) = pop_counts chain parts (may_run r) (has_place r chain.id)
  step_counts (On Emptied) = quiet_counts r (record r { kicked = false }) [] refl refl
  step_counts (On (Ended i end)) = end_counts i (request_at r i) end
  step_counts Turn = quiet_counts r (after_turn r).0 (after_turn r).1 refl (turn_counts r.owes (pops r))

pub each_answered : (r : RingState) (steps : List RingStep)
    → waiting r + stops steps r ≡ answers (actions steps r) + waiting (after steps r)
each_answered r [] = omega arith
each_answered r (s ∷ ss) =
    let t = stepped r s in
    let here : waiting r + count_if (is_stop s && not (is_stopping r.phase)) ≡ answers t.1 + waiting t.0 =
    step_counts r s in
    let rest : waiting t.0 + stops ss t.0 ≡ answers (actions ss t.0) + waiting (after ss t.0) = each_answered t.0 ss in
    let both : answers (t.1 ++ actions ss t.0) ≡ answers t.1 + answers (actions ss t.0) =
    sum_by-append _ t.1 (actions ss t.0) in
    omega arith
