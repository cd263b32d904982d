-- Each chain is returned once.
use Rattle.std.proofs.Common.{◌≡◌, ◌∙◌, ℕ, ◌<◌, ◌&&◌, ◌==◌, nat_lt, not, Bool, true, false, List, [], ◌∷◌, ◌++◌, length, get_or, set, Option, Some, None, is_some, if◌then◌else◌, refl, ap, sym, inl, inr, append_assoc}
use Rattle.std.specs.List.{slice_get}
use Rattle.std.proofs.lemmas.Bool.{and_parts, cases_eq, cases_lt, eq-eqb, ltb-true, ne_eqb, not-true}
use Rattle.std.proofs.lemmas.List.{append-nil, get_or-set_other, get_or-set_same, get_or_past}
use Rattle.std.proofs.lemmas.List.Elements.{filter-append, filter_map-append}
use Rattle.vhost_backend.proofs.OwnWayLemmas.{becomes, done}
use Rattle.vhost_backend.specs.Actions.{if_so}
use Rattle.vhost_backend.specs.Ring.{RingState, Step, after_break, after_pop, after_stop, after_turn, begun, broken, count_of, ended, has_place, is_idle, is_stopping, may_run, part_ended, part_moved, pops, request_at, returning, started, step, with_moved, with_request}
use Rattle.vhost_backend.specs.Ring as ring
use Rattle.vhost_backend.specs.Story.{RingStep, On, Turn, actions, after, chain_of, chain_under_way, of_id, popped, returned, stepped, taken, under_way}
use Rattle.vhost_backend.specs.Rings.{RingsState}
use Rattle.vhost_backend.specs.Turns.{actions_of, after_all, all_done, story_of}
use Rattle.vhost_backend.specs.declared.request.Chain.{Chain}
use Rattle.vhost_backend.specs.declared.request.PartEnd.{PartEnd}
use Rattle.vhost_backend.specs.declared.request.PartEnd.TheVariants.{Moved, Failed}
use Rattle.vhost_backend.specs.declared.request.Request.{Request}
use Rattle.vhost_backend.specs.declared.ring.Phase.{Phase}
use Rattle.vhost_backend.specs.declared.ring.Phase.TheVariants.{Stopped, Started, Broken, Stopping}
use Rattle.vhost_backend.specs.declared.ring.RingEvent.TheVariants.{Start, Stop, Enable, Break, Kick, Popped, Emptied, Ended}
use Rattle.vhost_backend.specs.declared.rings.Event.{Event}
use Rattle.vhost_backend.specs.declared.ring.actions.RingAction.TheVariants as action

-- a step that takes these chains loses none of an id
abbrev pub Keeps : RingState → ℕ → List Chain → Step → Type 0
Keeps r id chains t = under_way r id ++ of_id id chains ≡ of_id id (returned t.1) ++ under_way t.0 id

module _ (r : RingState) (id : ℕ) where
  start_keeps : (p : Phase) → Keeps r id [] (started r p, [])
  start_keeps Stopped = append-nil (under_way r id)
  start_keeps Started = append-nil (under_way r id)
  start_keeps Broken = append-nil (under_way r id)
  start_keeps Stopping = append-nil (under_way r id)

  break_keeps : (p : Phase) → Keeps r id [] (broken r p)
  break_keeps Stopped = append-nil (under_way r id)
  break_keeps Started = append-nil (under_way r id)
  break_keeps Broken = append-nil (under_way r id)
  break_keeps Stopping = append-nil (under_way r id)

  stop_keeps : (idle owes : Bool) → Keeps r id [] (if idle
      then (record r { phase = Stopped; owes = false }, if_so owes action.Notify ++ action.Stopped ∷ [])
      else (record r { phase = Stopping }, []))
  stop_keeps true true = append-nil (under_way r id)
  stop_keeps true false = append-nil (under_way r id)
  stop_keeps false _ = append-nil (under_way r id)

  turn_keeps : (owes pops : Bool) (new : RingState) → new.requests ≡ r.requests
      → Keeps r id [] (new, if_so owes action.Notify ++ if_so pops action.Pop)
  turn_keeps true true new same = append-nil (under_way r id)
      ∙ ap (λ q. chain_under_way id (get_or q id None)) (sym same)
  turn_keeps true false new same = append-nil (under_way r id)
      ∙ ap (λ q. chain_under_way id (get_or q id None)) (sym same)
  turn_keeps false true new same = append-nil (under_way r id)
      ∙ ap (λ q. chain_under_way id (get_or q id None)) (sym same)
  turn_keeps false false new same = append-nil (under_way r id)
      ∙ ap (λ q. chain_under_way id (get_or q id None)) (sym same)

  none_under_way : (o : Option Request) → is_some o ≡ false → chain_under_way id o ≡ []
  none_under_way None is = refl
  none_under_way (Some q) is = absurd (cc)

  -- what is under way after a request of some id comes or goes
  pub at_own : (o : Option Request) (i : ℕ) → i ≡ id → i < length r.requests → request_at (with_request r i o) id ≡ o
  at_own o i is inside = ap (λ j. get_or (set r.requests i o) j None) (sym is)
      ∙ get_or-set_same r.requests i o None inside

  pub at_other : (o : Option Request) (i : ℕ) → (i ≡ id → ⊥) → request_at (with_request r i o) id ≡ request_at r id
  at_other o i differs = get_or-set_other r.requests i id o None (λ e. differs (sym e))

  -- a chain that has a place
  module _ (chain : Chain) (inside : chain.id < length r.requests) (free : is_some (request_at r chain.id)
      ≡ false) where
    own : chain.id ≡ id → (under_way r id ≡ []) × (of_id id (chain ∷ []) ≡ chain ∷ [])
    own is = (
      ap (λ i. chain_under_way id (request_at r i)) (sym is) ∙ none_under_way (request_at r chain.id) free,
      rw (eq-eqb chain.id id is) refl,
    )

    other : (chain.id ≡ id → ⊥) → of_id id (chain ∷ []) ≡ []
    other differs = rw (ne_eqb chain.id id differs) refl

    begin_keeps : (parts : ℕ) (none : Bool) → Keeps r id (chain ∷ []) (if none
        then (record r { owes = true }, action.Return chain 0 false ∷ [])
        else (
          with_request r chain.id (Some (record { slots = chain.slots; left = parts; moved = 0 })),
          action.Serve chain.id parts ∷ [],
        ))
    begin_keeps parts true = elim (cases_eq chain.id id) [
      | inl is ↦ rw (own is).0 (sym (append-nil (of_id id (chain ∷ []))))
      | inr differs ↦ rw (other differs) (append-nil (under_way r id))
    ]
    begin_keeps parts false = elim (cases_eq chain.id id) [
      | inl is ↦ rw ((own is).0, (own is).1) (ap (λ i. record { id = i; slots = chain.slots } ∷ []) is
          ∙ ap (chain_under_way id) (sym (at_own _ chain.id is inside)))
      | inr differs ↦ rw (other differs) (append-nil (under_way r id)
          ∙ ap (chain_under_way id) (sym (at_other _ chain.id differs)))
    ]

  pop_keeps : (chain : Chain) (parts : ℕ) (runs has : Bool) → may_run r ≡ runs → has_place r chain.id ≡ has
      → Keeps r id (if runs && has then chain ∷ [] else [])
      (if not runs then (r, []) else (if has then begun r chain parts else after_break r))
  pop_keeps chain parts false has runs places = append-nil (under_way r id)
  pop_keeps chain parts true false runs places = break_keeps r.phase
  pop_keeps chain parts true true runs places =
      let (inside, free) = and_parts _ _ places in
      begin_keeps chain (ltb-true _ _ inside) (not-true _ free) parts (parts == 0)

  -- a request that is under way
  module _ (i : ℕ) (q : Request) (found : request_at r i ≡ Some q) where
    inside : i < length r.requests
    inside = elim (cases_lt i (length r.requests)) [
      | inl below ↦ below
      | inr past ↦ let none : request_at r i ≡ None = get_or_past r.requests i None past in absurd (cc)
    ]

    was : i ≡ id → under_way r id ≡ record { id = i; slots = q.slots } ∷ []
    was is = ap (λ j. chain_under_way id (request_at r j)) (sym is) ∙ ap (chain_under_way id) found
        ∙ ap (λ j. record { id = j; slots = q.slots } ∷ []) (sym is)

    serve_keeps : (next : Request) (left : ℕ) → next.slots ≡ q.slots
        → Keeps r id [] (with_request r i (Some next), action.Serve i left ∷ [])
    serve_keeps next left same = elim (cases_eq i id) [
      | inl is ↦ append-nil (under_way r id) ∙ was is ∙ ap (λ j. record { id = j; slots = q.slots } ∷ []) is
          ∙ ap (λ n. record { id = id; slots = n } ∷ []) (sym same)
          ∙ ap (chain_under_way id) (sym (at_own (Some next) i is inside))
      | inr differs ↦ append-nil (under_way r id)
          ∙ ap (chain_under_way id) (sym (at_other (Some next) i differs))
    ]

    gone_keeps : under_way r id ++ [] ≡ of_id id (record { id = i; slots = q.slots } ∷ [])
        ++ under_way (with_request r i None) id
    gone_keeps = elim (cases_eq i id) [
      | inl is ↦ rw (eq-eqb i id is) (append-nil (under_way r id) ∙ was is
          ∙ ap (λ o. record { id = i; slots = q.slots } ∷ chain_under_way id o) (sym (at_own None i is inside)))
      | inr differs ↦ rw (ne_eqb i id differs) (append-nil (under_way r id)
          ∙ ap (chain_under_way id) (sym (at_other None i differs)))
    ]

    return_keeps : (q' : Request) → q'.slots ≡ q.slots → (failed b : Bool) → (let new = with_request r i None in
        let gone = action.Return (record { id = i; slots = q'.slots }) q'.moved failed in
        Keeps r id [] (if b then
        (record new { phase = Stopped; owes = false }, gone ∷ action.Notify ∷ action.Stopped ∷ [])
        else (record new { owes = true }, gone ∷ [])))
    return_keeps q' same failed true = rw same gone_keeps
    return_keeps q' same failed false = rw same gone_keeps

    moved_keeps : (q' : Request) → q'.slots ≡ q.slots → (b : Bool)
        → Keeps r id [] (if b then (with_request r i (Some q'), action.Serve i q'.left ∷ [])
        else ring.returned r i q' false)
    moved_keeps q' same true = serve_keeps q' q'.left same
    moved_keeps q' same false =
        return_keeps q' same false (let new = with_request r i None in is_stopping new.phase && is_idle new)

    part_keeps : (end : PartEnd) → Keeps r id [] (part_ended r i q end)
    part_keeps (Moved count) = moved_keeps (with_moved q count) refl (nat_lt 0 (with_moved q count).left)
    part_keeps Failed =
        return_keeps q refl true (let new = with_request r i None in is_stopping new.phase && is_idle new)

  end_keeps : (i : ℕ) (o : Option Request) (end : PartEnd) → request_at r i ≡ o → Keeps r id [] (ended r i o end)
  end_keeps i None end found = append-nil (under_way r id)
  end_keeps i (Some q) end found = part_keeps i q found end

  pub step_keeps : (s : RingStep) → Keeps r id (taken r s) (stepped r s)
  step_keeps (On Start) = start_keeps r.phase
  step_keeps (On Stop) = stop_keeps (is_idle r) r.owes
  step_keeps (On (Enable on)) = append-nil (under_way r id)
  step_keeps (On Break) = break_keeps r.phase
  step_keeps (On Kick) = append-nil (under_way r id)
  step_keeps (On (Popped chain parts bytes)) = pop_keeps chain parts (may_run r) (has_place r chain.id) refl refl
  step_keeps (On Emptied) = append-nil (under_way r id)
  step_keeps (On (Ended i end)) = end_keeps i (request_at r i) end refl
  step_keeps Turn = turn_keeps r.owes (pops r) (after_turn r).0 refl

-- no step loses a chain, and so no story does
pub once : (r : RingState) (steps : List RingStep) (id : ℕ)
    → under_way r id ++ of_id id (popped steps r)
    ≡ of_id id (returned (actions steps r)) ++ under_way (after steps r) id
once r [] id = append-nil (under_way r id)
once r (s ∷ ss) id =
    let t = stepped r s in
    let here : under_way r id ++ of_id id (taken r s) ≡ of_id id (returned t.1) ++ under_way t.0 id =
    step_keeps r id s in
    let rest = once t.0 ss id in
    ap (λ cs. under_way r id ++ cs) (filter-append _ (taken r s) (popped ss t.0))
    ∙ sym (append_assoc (under_way r id) (of_id id (taken r s)) (of_id id (popped ss t.0)))
    ∙ ap (λ cs. cs ++ of_id id (popped ss t.0)) here
    ∙ append_assoc (of_id id (returned t.1)) (under_way t.0 id) (of_id id (popped ss t.0))
    ∙ ap (λ cs. of_id id (returned t.1) ++ cs) rest
    ∙ sym (append_assoc (of_id id (returned t.1)) (of_id id (returned (actions ss t.0))) (under_way (after ss t.0) id))
    ∙ ap (λ cs. cs ++ under_way (after ss t.0) id)
    (sym (ap (of_id id) (filter_map-append chain_of t.1 (actions ss t.0))
    ∙ filter-append _ (returned t.1) (returned (actions ss t.0))))

pub of_rings : (s : RingsState) (events : List Event) (i id : ℕ) (old new : RingState) → slice_get s.rings i ≡ Some old
    → slice_get (after_all events s).rings i ≡ Some new
    → under_way old id ++ of_id id (popped (story_of i events s) old)
    ≡ of_id id (returned (actions_of i (all_done events s))) ++ under_way new id
of_rings s events i id old new was is =
    let story = story_of i events s in
    let here : Some new ≡ Some (after story old) = sym is ∙ becomes s events i old was in
    let same : new ≡ after story old = cc in
    once old story id
    ∙ ap (λ acts. of_id id (returned acts) ++ under_way (after story old) id) (sym (done s events i old was))
    ∙ ap (λ r. of_id id (returned (actions_of i (all_done events s))) ++ under_way r id) (sym same)
