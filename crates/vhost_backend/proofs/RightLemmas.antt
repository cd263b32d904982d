-- Chains are returned with what their parts did.
use Rattle.std.proofs.Common.{◌≡◌, ◌∙◌, ℕ, ◌+◌, ◌^◌, ◌<◌, ◌&&◌, ◌==◌, nat_lt, not, Bool, true, false, List, [], ◌∷◌, ◌++◌, length, Option, Some, None, is_some, if◌then◌else◌, refl, ap, sym, arith, inl, inr}
use Rattle.std.proofs.lemmas.Bool.{and_parts, and_right, cases_eq, eq-eqb, ltb-true, ne_eqb, not-true}
use Rattle.std.proofs.lemmas.List.Sums.{sum_by-append}
use Rattle.vhost_backend.proofs.OnceLemmas.{at_other, at_own}
use Rattle.vhost_backend.proofs.StopLemmas.{place_of}
use Rattle.vhost_backend.specs.Actions.{if_so}
use Rattle.vhost_backend.specs.Ring.{RingState, Step, after_break, after_turn, begun, broken, ended, has_place, is_idle, is_stopping, may_run, part_ended, pops, request_at, started, with_moved, with_request}
use Rattle.vhost_backend.specs.Ring as ring
use Rattle.vhost_backend.specs.Story.{RingStep, On, Turn, actions, after, all_returned_bytes, failures, is_failure, moved, moved_by, moved_of, returned_failed, so_far, stepped}
use Rattle.vhost_backend.specs.declared.request.Chain.{Chain}
use Rattle.vhost_backend.specs.declared.request.PartEnd.{PartEnd}
use Rattle.vhost_backend.specs.declared.request.PartEnd.TheVariants.{Moved, Failed}
use Rattle.vhost_backend.specs.declared.request.Request.{Request}
use Rattle.vhost_backend.specs.declared.ring.Phase.{Phase}
use Rattle.vhost_backend.specs.declared.ring.Phase.TheVariants.{Stopped, Started, Broken, Stopping}
use Rattle.vhost_backend.specs.declared.ring.RingEvent.TheVariants.{Start, Stop, Enable, Break, Kick, Popped, Emptied, Ended}
use Rattle.vhost_backend.specs.declared.ring.actions.RingAction.TheVariants as action

abbrev one_if : Bool → ℕ
one_if b = if b then 1 else 0

abbrev chosen : Bool → Step → Step → Step
chosen b one other = if b then one else other

-- a step at which parts of an id move so many bytes, and fail so often
abbrev pub Right : RingState → ℕ → ℕ → ℕ → Step → Type 0
Right r id count failures t =
    (so_far r id + count < 2 ^ 64 → all_returned_bytes id t.1 + so_far t.0 id ≡ so_far r id + count)
    × (returned_failed id t.1 ≡ failures)

module _ (r : RingState) (id : ℕ) where
  -- one that returns nothing, and leaves what is under way
  quiet : (t : Step) → all_returned_bytes id t.1 ≡ 0 → returned_failed id t.1 ≡ 0
      → request_at t.0 id ≡ request_at r id → Right r id 0 0 t
  quiet t none fine same = (λ fits. rw (none, same) (omega arith), fine)

  start_right : (p : Phase) → Right r id 0 0 (started r p, [])
  start_right Stopped = quiet (started r Stopped, []) refl refl refl
  start_right Started = quiet (r, []) refl refl refl
  start_right Broken = quiet (r, []) refl refl refl
  start_right Stopping = quiet (r, []) refl refl refl

  break_right : (p : Phase) → Right r id 0 0 (broken r p)
  break_right Stopped = quiet (broken r Stopped) refl refl refl
  break_right Started = quiet (broken r Started) refl refl refl
  break_right Broken = quiet (broken r Broken) refl refl refl
  break_right Stopping = quiet (broken r Stopping) refl refl refl

  stop_right : (idle owes : Bool) → Right r id 0 0 (chosen idle
      (record r { phase = Stopped; owes = false }, if_so owes action.Notify ++ action.Stopped ∷ [])
      (record r { phase = Stopping }, []))
  stop_right true true =
      quiet (record r { phase = Stopped; owes = false }, action.Notify ∷ action.Stopped ∷ []) refl refl refl
  stop_right true false = quiet (record r { phase = Stopped; owes = false }, action.Stopped ∷ []) refl refl refl
  stop_right false owes = quiet (record r { phase = Stopping }, []) refl refl refl

  turn_right : (owes runs : Bool) → (let acts = if_so owes action.Notify ++ if_so runs action.Pop in
      (all_returned_bytes id acts ≡ 0) × (returned_failed id acts ≡ 0))
  turn_right true true = (refl, refl)
  turn_right true false = (refl, refl)
  turn_right false true = (refl, refl)
  turn_right false false = (refl, refl)

  -- a chain without parts
  empty_right : (chain : Chain) (own : Bool) → (chain.id == id) ≡ own
      → (let acts = action.Return chain 0 false ∷ [] in
      (all_returned_bytes id acts ≡ 0) × (returned_failed id acts ≡ 0))
  empty_right chain true is = (rw is refl, rw is refl)
  empty_right chain false is = (rw is refl, rw is refl)

  begin_right : (chain : Chain) (parts : ℕ) (none : Bool) → chain.id < length r.requests
      → is_some (request_at r chain.id) ≡ false → Right r id 0 0 (chosen none
      (record r { owes = true }, action.Return chain 0 false ∷ []) (
        with_request r chain.id (Some (record { slots = chain.slots; left = parts; moved = 0 })),
        action.Serve chain.id parts ∷ [],
      ))
  begin_right chain parts true inside free = let (bytes, fine) = empty_right chain (chain.id == id) refl in
      quiet (record r { owes = true }, action.Return chain 0 false ∷ []) bytes fine refl
  begin_right chain parts false inside free =
      let o : Option Request = Some (record { slots = chain.slots; left = parts; moved = 0 }) in
      elim (cases_eq chain.id id) [
        | inl is ↦
            let none : is_some (request_at r id) ≡ false = ap (λ j. is_some (request_at r j)) (sym is) ∙ free in
            let zero : so_far r id ≡ 0 = no_bytes (request_at r id) none in
            (λ fits. rw (at_own r id o chain.id is inside, zero) refl, refl)
        | inr differs ↦ (λ fits. rw (at_other r id o chain.id differs) (omega arith), refl)
      ]
    where
      no_bytes : (q : Option Request) → is_some q ≡ false → moved_of q ≡ 0
      no_bytes None is = refl
      no_bytes (Some q) is = absurd (cc)

  pop_right : (chain : Chain) (parts : ℕ) (runs has : Bool) → has_place r chain.id ≡ has
      → Right r id 0 0 (chosen (not runs) (r, []) (chosen has (begun r chain parts) (after_break r)))
  pop_right chain parts false has is = quiet (r, []) refl refl refl
  pop_right chain parts true false is = break_right r.phase
  pop_right chain parts true true is = let (inside, free) = and_parts _ _ is in
      begin_right chain parts (parts == 0) (ltb-true _ _ inside) (not-true _ free)

  module _ (i : ℕ) (q : Request) (found : request_at r i ≡ Some q) where
    was : i ≡ id → request_at r id ≡ Some q
    was is = ap (request_at r) (sym is) ∙ found

    abbrev own : Bool
    own = i == id && is_some (request_at r id)

    next_right : (count : ℕ) → (let next = with_moved q count in
        Right r id (if own then count else 0) 0 (with_request r i (Some next), action.Serve i next.left ∷ []))
    next_right count = let o : Option Request = Some (with_moved q count) in elim (cases_eq i id) [
      | inl is ↦ (rw (eq-eqb i id is, was is, at_own r id o i is (place_of r i q found)) (λ fits. omega arith), refl)
      | inr differs ↦ (rw (ne_eqb i id differs, at_other r id o i differs) (λ fits. omega arith), refl)
    ]

    gone_right : (n : ℕ) (next : Request) (failed b : Bool)
        → (i ≡ id → q.moved + n < 2 ^ 64 → next.moved ≡ q.moved + n) → ((i ≡ id → ⊥) → n ≡ 0)
        → (let new = with_request r i None in
        let gone = action.Return (record { id = i; slots = next.slots }) next.moved failed in
        Right r id n (if failed then one_if own else 0) (chosen b
        (record new { phase = Stopped; owes = false }, gone ∷ action.Notify ∷ action.Stopped ∷ [])
        (record new { owes = true }, gone ∷ [])))
    gone_right n next true true total none = elim (cases_eq i id) [
      | inl is ↦
          let exact = total is in (
            rw (eq-eqb i id is, was is, at_own r id None i is (place_of r i q found))
                (λ fits. let same = exact fits in omega arith),
            rw (eq-eqb i id is, was is) refl,
          )
      | inr differs ↦
          let zero = none differs in
          (rw (ne_eqb i id differs, at_other r id None i differs) (λ fits. omega arith), rw (ne_eqb i id differs) refl)
    ]
    gone_right n next true false total none = elim (cases_eq i id) [
      | inl is ↦
          let exact = total is in (
            rw (eq-eqb i id is, was is, at_own r id None i is (place_of r i q found))
                (λ fits. let same = exact fits in omega arith),
            rw (eq-eqb i id is, was is) refl,
          )
      | inr differs ↦
          let zero = none differs in
          (rw (ne_eqb i id differs, at_other r id None i differs) (λ fits. omega arith), rw (ne_eqb i id differs) refl)
    ]
    gone_right n next false true total none = elim (cases_eq i id) [
      | inl is ↦
          let exact = total is in (
            rw (eq-eqb i id is, was is, at_own r id None i is (place_of r i q found))
                (λ fits. let same = exact fits in omega arith),
            rw (eq-eqb i id is) refl,
          )
      | inr differs ↦
          let zero = none differs in
          (rw (ne_eqb i id differs, at_other r id None i differs) (λ fits. omega arith), rw (ne_eqb i id differs) refl)
    ]
    gone_right n next false false total none = elim (cases_eq i id) [
      | inl is ↦
          let exact = total is in (
            rw (eq-eqb i id is, was is, at_own r id None i is (place_of r i q found))
                (λ fits. let same = exact fits in omega arith),
            rw (eq-eqb i id is) refl,
          )
      | inr differs ↦
          let zero = none differs in
          (rw (ne_eqb i id differs, at_other r id None i differs) (λ fits. omega arith), rw (ne_eqb i id differs) refl)
    ]

    total_moved : (count : ℕ) → i ≡ id → q.moved + (if own then count else 0) < 2 ^ 64
        → (with_moved q count).moved ≡ q.moved + (if own then count else 0)
    total_moved count is = rw (eq-eqb i id is, was is) (λ fits. omega arith)

    none_moved : (count : ℕ) → (i ≡ id → ⊥) → (if own then count else 0) ≡ 0
    none_moved count differs = rw (ne_eqb i id differs) refl

    moved_right : (count : ℕ) (b : Bool) → (let next = with_moved q count in
        Right r id (if own then count else 0) 0 (chosen b
        (with_request r i (Some next), action.Serve i next.left ∷ []) (ring.returned r i next false)))
    moved_right count true = next_right count
    moved_right count false = let new = with_request r i None in
        gone_right (if own then count else 0) (with_moved q count) false (is_stopping new.phase && is_idle new)
        (total_moved count) (none_moved count)

  -- what an end moves, and whether it is a failure
  end_right : (i : ℕ) (o : Option Request) (end : PartEnd) → request_at r i ≡ o
      → Right r id (moved_by id r (On (Ended i end))) (one_if (is_failure id r (On (Ended i end)))) (ended r i o end)
  end_right i (Some q) (Moved count) found =
      moved_right i q found count (nat_lt 0 (with_moved q count).left)
  end_right i (Some q) Failed found = let new = with_request r i None in
      gone_right i q found 0 q true (is_stopping new.phase && is_idle new) (λ is fits. omega arith) (λ differs. refl)
  end_right i None end found = elim (cases_eq i id) [
    | inl is ↦ none_right i end (ap (request_at r) (sym is) ∙ found)
    | inr differs ↦ other_right i end differs
  ]
    where
      none_right : (i : ℕ) (end : PartEnd) → request_at r id ≡ None
          → Right r id (moved_by id r (On (Ended i end))) (one_if (is_failure id r (On (Ended i end)))) (r, [])
      none_right i (Moved count) none = rw (none, and_right (i == id) false refl) (λ fits. omega arith, refl)
      none_right i Failed none = rw (none, and_right (i == id) false refl) (λ fits. omega arith, refl)

      other_right : (i : ℕ) (end : PartEnd) → (i ≡ id → ⊥)
          → Right r id (moved_by id r (On (Ended i end))) (one_if (is_failure id r (On (Ended i end)))) (r, [])
      other_right i (Moved count) differs = rw (ne_eqb i id differs) (λ fits. omega arith, refl)
      other_right i Failed differs = rw (ne_eqb i id differs) (λ fits. omega arith, refl)

  step_right : (s : RingStep) → Right r id (moved_by id r s) (one_if (is_failure id r s)) (stepped r s)
  step_right (On Start) = start_right r.phase
  step_right (On Stop) = stop_right (is_idle r) r.owes
  step_right (On (Enable on)) = quiet (record r { enabled = on }, []) refl refl refl
  step_right (On Break) = break_right r.phase
  step_right (On Kick) = quiet (record r { kicked = true }, []) refl refl refl
  step_right (On (Popped chain parts bytes)) =
      pop_right chain parts (may_run r) (has_place r chain.id) refl
  step_right (On Emptied) = quiet (record r { kicked = false }, []) refl refl refl
  step_right (On (Ended i end)) = end_right i (request_at r i) end refl
  step_right Turn = let (bytes, fine) = turn_right r.owes (pops r) in quiet (after_turn r) bytes fine refl

pub bytes : (r : RingState) (steps : List RingStep) (id : ℕ) → so_far r id + moved id steps r < 2 ^ 64
    → all_returned_bytes id (actions steps r) + so_far (after steps r) id ≡ so_far r id + moved id steps r
bytes r [] id fits = omega arith
bytes r (s ∷ ss) id fits =
    let t = stepped r s in
    let less : so_far r id + moved_by id r s < 2 ^ 64 = omega arith in
    let here : all_returned_bytes id t.1 + so_far t.0 id ≡ so_far r id + moved_by id r s = (step_right r id s).0 less in
    let later : so_far t.0 id + moved id ss t.0 < 2 ^ 64 = omega arith in
    let rest = bytes t.0 ss id later in
    let both : all_returned_bytes id (t.1 ++ actions ss t.0)
    ≡ all_returned_bytes id t.1 + all_returned_bytes id (actions ss t.0) = sum_by-append _ t.1 (actions ss t.0) in
    omega arith

pub failed : (r : RingState) (steps : List RingStep) (id : ℕ)
    → returned_failed id (actions steps r) ≡ failures id steps r
failed r [] id = refl
failed r (s ∷ ss) id =
    let t = stepped r s in
    let here : returned_failed id t.1 ≡ one_if (is_failure id r s) = (step_right r id s).1 in
    let rest : returned_failed id (actions ss t.0) ≡ failures id ss t.0 = failed t.0 ss id in
    let both : returned_failed id (t.1 ++ actions ss t.0) ≡ returned_failed id t.1 + returned_failed id (actions ss t.0) =
    sum_by-append _ t.1 (actions ss t.0) in
    omega arith
