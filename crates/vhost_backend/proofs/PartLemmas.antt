-- Parts are served one after another.
use Rattle.std.proofs.Common.{◌≡◌, ◌∙◌, ℕ, ◌+◌, ◌<◌, ◌&&◌, ◌==◌, nat_lt, not, Bool, true, false, List, [], ◌∷◌, ◌++◌, length, Option, Some, None, is_some, if◌then◌else◌, refl, ap, sym, arith, inl, inr}
use Rattle.std.proofs.lemmas.Bool.{and_parts, cases_eq, eq-eqb, ltb-true, ne_eqb, not-true}
use Rattle.std.proofs.lemmas.List.Sums.{sum_by-append}
use Rattle.vhost_backend.proofs.OnceLemmas.{at_other, at_own}
use Rattle.vhost_backend.proofs.StopLemmas.{place_of}
use Rattle.vhost_backend.specs.Actions.{if_so}
use Rattle.vhost_backend.specs.Ring.{RingState, Step, after_break, after_turn, begun, broken, ended, has_place, is_idle, is_stopping, may_run, part_ended, pops, request_at, started, with_moved, with_request}
use Rattle.vhost_backend.specs.Ring as ring
use Rattle.vhost_backend.specs.Story.{RingStep, On, Turn, actions, after, busy, ends, is_end, served, stepped}
use Rattle.vhost_backend.specs.declared.request.Chain.{Chain}
use Rattle.vhost_backend.specs.declared.request.PartEnd.{PartEnd}
use Rattle.vhost_backend.specs.declared.request.PartEnd.TheVariants.{Moved, Failed}
use Rattle.vhost_backend.specs.declared.request.Request.{Request}
use Rattle.vhost_backend.specs.declared.ring.Phase.{Phase}
use Rattle.vhost_backend.specs.declared.ring.Phase.TheVariants.{Stopped, Started, Broken, Stopping}
use Rattle.vhost_backend.specs.declared.ring.RingEvent.TheVariants.{Start, Stop, Enable, Break, Kick, Popped, Emptied, Ended}
use Rattle.vhost_backend.specs.declared.ring.actions.RingAction.TheVariants as action

abbrev one_if : Bool → ℕ
one_if b = if b then 1 else 0

abbrev chosen : Bool → Step → Step → Step
chosen b one other = if b then one else other

-- a step at which so many parts of an id end
abbrev pub Serves : RingState → ℕ → ℕ → Step → Type 0
Serves r id over t = served id t.1 + busy r id ≡ over + busy t.0 id

module _ (r : RingState) (id : ℕ) where
  -- one that serves nothing, and leaves what is under way
  quiet : (t : Step) → served id t.1 ≡ 0 → request_at t.0 id ≡ request_at r id → Serves r id 0 t
  quiet t none same = rw (none, same) (omega arith)

  start_serves : (p : Phase) → Serves r id 0 (started r p, [])
  start_serves Stopped = quiet (started r Stopped, []) refl refl
  start_serves Started = quiet (r, []) refl refl
  start_serves Broken = quiet (r, []) refl refl
  start_serves Stopping = quiet (r, []) refl refl

  break_serves : (p : Phase) → Serves r id 0 (broken r p)
  break_serves Stopped = quiet (broken r Stopped) refl refl
  break_serves Started = quiet (broken r Started) refl refl
  break_serves Broken = quiet (broken r Broken) refl refl
  break_serves Stopping = quiet (broken r Stopping) refl refl

  stop_serves : (idle owes : Bool) → Serves r id 0 (chosen idle
      (record r { phase = Stopped; owes = false }, if_so owes action.Notify ++ action.Stopped ∷ [])
      (record r { phase = Stopping }, []))
  stop_serves true true =
      quiet (record r { phase = Stopped; owes = false }, action.Notify ∷ action.Stopped ∷ []) refl refl
  stop_serves true false = quiet (record r { phase = Stopped; owes = false }, action.Stopped ∷ []) refl refl
  stop_serves false owes = quiet (record r { phase = Stopping }, []) refl refl

  turn_served : (owes runs : Bool) → served id (if_so owes action.Notify ++ if_so runs action.Pop) ≡ 0
  turn_served true true = refl
  turn_served true false = refl
  turn_served false true = refl
  turn_served false false = refl

  begin_serves : (chain : Chain) (parts : ℕ) (none : Bool) → chain.id < length r.requests
      → is_some (request_at r chain.id) ≡ false → Serves r id 0 (chosen none
      (record r { owes = true }, action.Return chain 0 false ∷ []) (
        with_request r chain.id (Some (record { slots = chain.slots; left = parts; moved = 0 })),
        action.Serve chain.id parts ∷ [],
      ))
  begin_serves chain parts true inside free =
      quiet (record r { owes = true }, action.Return chain 0 false ∷ []) refl refl
  begin_serves chain parts false inside free =
      let o : Option Request = Some (record { slots = chain.slots; left = parts; moved = 0 }) in
      elim (cases_eq chain.id id) [
        | inl is ↦
            let none : is_some (request_at r id) ≡ false = ap (λ j. is_some (request_at r j)) (sym is) ∙ free in
            rw (eq-eqb chain.id id is, none, at_own r id o chain.id is inside) refl
        | inr differs ↦ rw (ne_eqb chain.id id differs, at_other r id o chain.id differs) (omega arith)
      ]

  pop_serves : (chain : Chain) (parts : ℕ) (runs has : Bool) → has_place r chain.id ≡ has
      → Serves r id 0 (chosen (not runs) (r, []) (chosen has (begun r chain parts) (after_break r)))
  pop_serves chain parts false has is = quiet (r, []) refl refl
  pop_serves chain parts true false is = break_serves r.phase
  pop_serves chain parts true true is = let (inside, free) = and_parts _ _ is in
      begin_serves chain parts (parts == 0) (ltb-true _ _ inside) (not-true _ free)

  module _ (i : ℕ) (q : Request) (found : request_at r i ≡ Some q) where
    was : i ≡ id → request_at r id ≡ Some q
    was is = ap (request_at r) (sym is) ∙ found

    next_serves : (next : Request) → Serves r id (one_if (i == id && is_some (request_at r id)))
        (with_request r i (Some next), action.Serve i next.left ∷ [])
    next_serves next = elim (cases_eq i id) [
      | inl is ↦ rw (eq-eqb i id is, was is, at_own r id (Some next) i is (place_of r i q found)) refl
      | inr differs ↦ rw (ne_eqb i id differs, at_other r id (Some next) i differs) (omega arith)
    ]

    gone_serves : (next : Request) (failed b : Bool) → (let new = with_request r i None in
        let gone = action.Return (record { id = i; slots = next.slots }) next.moved failed in
        Serves r id (one_if (i == id && is_some (request_at r id))) (chosen b
        (record new { phase = Stopped; owes = false }, gone ∷ action.Notify ∷ action.Stopped ∷ [])
        (record new { owes = true }, gone ∷ [])))
    gone_serves next failed true = elim (cases_eq i id) [
      | inl is ↦ rw (eq-eqb i id is, was is, at_own r id None i is (place_of r i q found)) refl
      | inr differs ↦ rw (ne_eqb i id differs, at_other r id None i differs) (omega arith)
    ]
    gone_serves next failed false = elim (cases_eq i id) [
      | inl is ↦ rw (eq-eqb i id is, was is, at_own r id None i is (place_of r i q found)) refl
      | inr differs ↦ rw (ne_eqb i id differs, at_other r id None i differs) (omega arith)
    ]

    moved_serves : (next : Request) (b : Bool) → Serves r id (one_if (i == id && is_some (request_at r id)))
        (chosen b (with_request r i (Some next), action.Serve i next.left ∷ []) (ring.returned r i next false))
    moved_serves next true = next_serves next
    moved_serves next false = let new = with_request r i None in
        gone_serves next false (is_stopping new.phase && is_idle new)

    part_serves : (end : PartEnd) → Serves r id (one_if (i == id && is_some (request_at r id))) (part_ended r i q end)
    part_serves (Moved count) = moved_serves (with_moved q count) (nat_lt 0 (with_moved q count).left)
    part_serves Failed = let new = with_request r i None in
        gone_serves q true (is_stopping new.phase && is_idle new)

  end_serves : (i : ℕ) (o : Option Request) (end : PartEnd) → request_at r i ≡ o
      → Serves r id (one_if (i == id && is_some (request_at r id))) (ended r i o end)
  end_serves i (Some q) end found = part_serves i q found end
  end_serves i None end found = elim (cases_eq i id) [
    | inl is ↦ let none : request_at r id ≡ None = ap (request_at r) (sym is) ∙ found in
        rw (eq-eqb i id is, none) refl
    | inr differs ↦ rw (ne_eqb i id differs) (quiet (r, []) refl refl)
  ]

  step_serves : (s : RingStep) → Serves r id (one_if (is_end id r s)) (stepped r s)
  step_serves (On Start) = start_serves r.phase
  step_serves (On Stop) = stop_serves (is_idle r) r.owes
  step_serves (On (Enable on)) = quiet (record r { enabled = on }, []) refl refl
  step_serves (On Break) = break_serves r.phase
  step_serves (On Kick) = quiet (record r { kicked = true }, []) refl refl
  step_serves (On (Popped chain parts bytes)) =
      pop_serves chain parts (may_run r) (has_place r chain.id) refl
  step_serves (On Emptied) = quiet (record r { kicked = false }, []) refl refl
  step_serves (On (Ended i end)) = end_serves i (request_at r i) end refl
  step_serves Turn = quiet (after_turn r) (turn_served r.owes (pops r)) refl

pub one_after_another : (r : RingState) (steps : List RingStep) (id : ℕ)
    → served id (actions steps r) + busy r id ≡ ends id steps r + busy (after steps r) id
one_after_another r [] id = omega arith
one_after_another r (s ∷ ss) id =
    let t = stepped r s in
    let here : served id t.1 + busy r id ≡ one_if (is_end id r s) + busy t.0 id = step_serves r id s in
    let rest : served id (actions ss t.0) + busy t.0 id ≡ ends id ss t.0 + busy (after ss t.0) id =
    one_after_another t.0 ss id in
    let both : served id (t.1 ++ actions ss t.0) ≡ served id t.1 + served id (actions ss t.0) =
    sum_by-append _ t.1 (actions ss t.0) in
    omega arith
