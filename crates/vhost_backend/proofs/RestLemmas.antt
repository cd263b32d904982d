-- No notification is lost.
use Rattle.std.proofs.Common.{◌≡◌, ◌∙◌, ℕ, ◌&&◌, ◌||◌, ◌==◌, nat_lt, not, Bool, true, false, List, [], ◌∷◌, ◌++◌, Option, Some, None, is_some, if◌then◌else◌, refl, ap, sym}
use Rattle.std.specs.List.{slice_get}
use Rattle.vhost_backend.proofs.WantLemmas.{in_line}
use Rattle.vhost_backend.specs.Actions.{if_so}
use Rattle.vhost_backend.specs.Line.{stands_in}
use Rattle.vhost_backend.specs.Ring.{RingState, Step, after_break, after_turn, begun, broken, ended, has_place, is_idle, is_stopped, is_stopping, may_run, pops, request_at, started, wants, with_moved, with_request}
use Rattle.vhost_backend.specs.Ring as ring
use Rattle.vhost_backend.specs.Rings.{has_next, is_free, new_rings}
use Rattle.vhost_backend.specs.Story.{RingStep, On, Turn, after, notified, notified_by, stepped}
use Rattle.vhost_backend.specs.Turns.{after_all}
use Rattle.vhost_backend.specs.declared.request.Chain.{Chain}
use Rattle.vhost_backend.specs.declared.request.PartEnd.{PartEnd}
use Rattle.vhost_backend.specs.declared.request.PartEnd.TheVariants.{Moved, Failed}
use Rattle.vhost_backend.specs.declared.request.Request.{Request}
use Rattle.vhost_backend.specs.declared.ring.Phase.{Phase}
use Rattle.vhost_backend.specs.declared.ring.Phase.TheVariants.{Stopped, Started, Broken, Stopping}
use Rattle.vhost_backend.specs.declared.ring.RingEvent.TheVariants.{Start, Stop, Enable, Break, Kick, Popped, Emptied, Ended}
use Rattle.vhost_backend.specs.declared.ring.actions.RingAction.{RingAction}
use Rattle.vhost_backend.specs.declared.ring.actions.RingAction.TheVariants as action
use Rattle.vhost_backend.specs.declared.rings.Event.{Event}

abbrev chosen : Bool → Step → Step → Step
chosen b one other = if b then one else other

abbrev Same : RingState → Step → Type 0
Same r t = t.0.kicked ≡ r.kicked

module _ (r : RingState) where
  start_kicks : (p : Phase) → (started r p).kicked ≡ (is_stopped p || r.kicked)
  start_kicks Stopped = refl
  start_kicks Started = refl
  start_kicks Broken = refl
  start_kicks Stopping = refl

  break_same : (p : Phase) → Same r (broken r p)
  break_same Stopped = refl
  break_same Started = refl
  break_same Broken = refl
  break_same Stopping = refl

  stop_same : (idle : Bool) (acts : List RingAction) → Same r (chosen idle
      (record r { phase = Stopped; owes = false }, acts) (record r { phase = Stopping }, []))
  stop_same true acts = refl
  stop_same false acts = refl

  begin_same : (chain : Chain) (parts : ℕ) (none : Bool) → Same r (chosen none
      (record r { owes = true }, action.Return chain 0 false ∷ []) (
        with_request r chain.id (Some (record { slots = chain.slots; left = parts; moved = 0 })),
        action.Serve chain.id parts ∷ [],
      ))
  begin_same chain parts true = refl
  begin_same chain parts false = refl

  pop_same : (chain : Chain) (parts : ℕ) (runs has : Bool)
      → Same r (chosen (not runs) (r, []) (chosen has (begun r chain parts) (after_break r)))
  pop_same chain parts false has = refl
  pop_same chain parts true false = break_same r.phase
  pop_same chain parts true true = begin_same chain parts (parts == 0)

  return_same : (chain : RingAction) (requests : List (Option Request)) (b : Bool)
      → (let new = record r { requests = requests } in Same r (chosen b
      (record new { phase = Stopped; owes = false }, chain ∷ action.Notify ∷ action.Stopped ∷ [])
      (record new { owes = true }, chain ∷ [])))
  return_same chain requests true = refl
  return_same chain requests false = refl

  gone_same : (i : ℕ) (q : Request) (failed : Bool) → Same r (ring.returned r i q failed)
  gone_same i q failed = let new = with_request r i None in
      return_same (action.Return (record { id = i; slots = q.slots }) q.moved failed) new.requests
      (is_stopping new.phase && is_idle new)

  moved_same : (i : ℕ) (q : Request) (b : Bool)
      → Same r (chosen b (with_request r i (Some q), action.Serve i q.left ∷ []) (ring.returned r i q false))
  moved_same i q true = refl
  moved_same i q false = gone_same i q false

  end_same : (i : ℕ) (o : Option Request) (end : PartEnd) → Same r (ended r i o end)
  end_same i None end = refl
  end_same i (Some q) (Moved count) = moved_same i (with_moved q count) (nat_lt 0 (with_moved q count).left)
  end_same i (Some q) Failed = gone_same i q true

  step_kicks : (s : RingStep) → (stepped r s).0.kicked ≡ notified_by r.kicked r s
  step_kicks (On Start) = start_kicks r.phase
  step_kicks (On Stop) = stop_same (is_idle r) (if_so r.owes action.Notify ++ action.Stopped ∷ [])
  step_kicks (On (Enable on)) = refl
  step_kicks (On Break) = break_same r.phase
  step_kicks (On Kick) = refl
  step_kicks (On (Popped chain parts bytes)) = pop_same chain parts (may_run r) (has_place r chain.id)
  step_kicks (On Emptied) = refl
  step_kicks (On (Ended i end)) = end_same i (request_at r i) end
  step_kicks Turn = refl

pub kicked : (r : RingState) (steps : List RingStep) → (after steps r).kicked ≡ notified r.kicked steps r
kicked r [] = refl
kicked r (s ∷ ss) = kicked (stepped r s).0 ss
    ∙ ap (λ k. notified k ss (stepped r s).0) (step_kicks r s)

-- ---- where no ring has a turn next

nobody : (line : List ℕ) (i : ℕ) → is_some (slice_get line 0) ≡ false → stands_in i line ≡ false
nobody [] i none = refl
nobody (k ∷ line) i none = absurd (cc)

wants_none : (owes kicked runs : Bool) → (owes || (kicked && runs)) ≡ false
    → (owes ≡ false) × (runs ≡ true → kicked ≡ false)
wants_none true kicked runs none = absurd (cc)
wants_none false false runs none = (refl, λ _. refl)
wants_none false true true none = absurd (cc)
wants_none false true false none = (refl, λ runs. absurd (cc))

pub rests : (count ids : ℕ) (events : List Event) (i : ℕ) (r : RingState)
    → is_free (after_all events (new_rings count ids)).hold ≡ true
    → has_next (after_all events (new_rings count ids)) ≡ false
    → slice_get (after_all events (new_rings count ids)).rings i ≡ Some r
    → (r.owes ≡ false) × (may_run r ≡ true → r.kicked ≡ false)
rests count ids events i r free none there =
    let s = after_all events (new_rings count ids) in
    let empty : is_some (slice_get s.line 0) ≡ false = rw free at none in
    let out : wants r ≡ false = sym (in_line count ids events i r there) ∙ nobody s.line i empty in
    wants_none r.owes r.kicked (may_run r) out
