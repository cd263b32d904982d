-- Whether a driver has to be told of what was returned.
use Rattle.std.proofs.Common.{◌≡◌, ℕ, ◌&&◌, ◌==◌, nat_lt, not, Bool, true, false, List, [], ◌∷◌, ◌++◌, Option, Some, None, if◌then◌else◌, refl, sym}
use Rattle.vhost_backend.specs.Actions.{if_so}
use Rattle.vhost_backend.specs.Ring.{RingState, Step, after_break, after_turn, begun, broken, ended, has_place, is_idle, is_stopping, may_run, pops, request_at, started, with_moved, with_request}
use Rattle.vhost_backend.specs.Ring as ring
use Rattle.vhost_backend.specs.Story.{RingStep, On, Turn, actions, after, owing, stepped}
use Rattle.vhost_backend.specs.declared.request.Chain.{Chain}
use Rattle.vhost_backend.specs.declared.request.PartEnd.{PartEnd}
use Rattle.vhost_backend.specs.declared.request.PartEnd.TheVariants.{Moved, Failed}
use Rattle.vhost_backend.specs.declared.request.Request.{Request}
use Rattle.vhost_backend.specs.declared.ring.Phase.{Phase}
use Rattle.vhost_backend.specs.declared.ring.Phase.TheVariants.{Stopped, Started, Broken, Stopping}
use Rattle.vhost_backend.specs.declared.ring.RingEvent.TheVariants.{Start, Stop, Enable, Break, Kick, Popped, Emptied, Ended}
use Rattle.vhost_backend.specs.declared.ring.actions.RingAction.{RingAction}
use Rattle.vhost_backend.specs.declared.ring.actions.RingAction.TheVariants as action

-- a step notes what it owes
abbrev pub Notes : RingState → Step → Type 0
Notes r t = t.0.owes ≡ owing r.owes t.1

abbrev chosen : Bool → Step → Step → Step
chosen b one other = if b then one else other

module _ (r : RingState) where
  start_notes : (p : Phase) → Notes r (started r p, [])
  start_notes Stopped = refl
  start_notes Started = refl
  start_notes Broken = refl
  start_notes Stopping = refl

  break_notes : (p : Phase) → Notes r (broken r p)
  break_notes Stopped = refl
  break_notes Started = refl
  break_notes Broken = refl
  break_notes Stopping = refl

  stop_notes : (idle owes : Bool) → r.owes ≡ owes → Notes r (chosen idle
      (record r { phase = Stopped; owes = false }, if_so owes action.Notify ++ action.Stopped ∷ [])
      (record r { phase = Stopping }, []))
  stop_notes true true is = refl
  stop_notes true false is = sym is
  stop_notes false owes is = refl

  turn_notes : (owes runs : Bool) → r.owes ≡ owes
      → false ≡ owing r.owes (if_so owes action.Notify ++ if_so runs action.Pop)
  turn_notes true true is = refl
  turn_notes true false is = refl
  turn_notes false true is = sym is
  turn_notes false false is = sym is

  begin_notes : (chain : Chain) (parts : ℕ) (none : Bool) → Notes r (chosen none
      (record r { owes = true }, action.Return chain 0 false ∷ []) (
        with_request r chain.id (Some (record { slots = chain.slots; left = parts; moved = 0 })),
        action.Serve chain.id parts ∷ [],
      ))
  begin_notes chain parts true = refl
  begin_notes chain parts false = refl

  pop_notes : (chain : Chain) (parts : ℕ) (runs has : Bool)
      → Notes r (chosen (not runs) (r, []) (chosen has (begun r chain parts) (after_break r)))
  pop_notes chain parts false has = refl
  pop_notes chain parts true false = break_notes r.phase
  pop_notes chain parts true true = begin_notes chain parts (parts == 0)

  return_notes : (new : RingState) (chain : Chain) (moved : ℕ) (failed b : Bool)
      → (let gone = action.Return chain moved failed in
      Notes r (chosen b (record new { phase = Stopped; owes = false }, gone ∷ action.Notify ∷ action.Stopped ∷ [])
      (record new { owes = true }, gone ∷ [])))
  return_notes new chain moved failed true = refl
  return_notes new chain moved failed false = refl

  gone_notes : (i : ℕ) (q : Request) (failed : Bool) → Notes r (ring.returned r i q failed)
  gone_notes i q failed = let new = with_request r i None in
      return_notes new (record { id = i; slots = q.slots }) q.moved failed (is_stopping new.phase && is_idle new)

  moved_notes : (i : ℕ) (q : Request) (b : Bool)
      → Notes r (chosen b (with_request r i (Some q), action.Serve i q.left ∷ []) (ring.returned r i q false))
  moved_notes i q true = refl
  moved_notes i q false = gone_notes i q false

  end_notes : (i : ℕ) (o : Option Request) (end : PartEnd) → Notes r (ended r i o end)
  end_notes i None end = refl
  end_notes i (Some q) (Moved count) = moved_notes i (with_moved q count) (nat_lt 0 (with_moved q count).left)
  end_notes i (Some q) Failed = gone_notes i q true

  step_notes : (s : RingStep) → Notes r (stepped r s)
  step_notes (On Start) = start_notes r.phase
  step_notes (On Stop) = stop_notes (is_idle r) r.owes refl
  step_notes (On (Enable on)) = refl
  step_notes (On Break) = break_notes r.phase
  step_notes (On Kick) = refl
  step_notes (On (Popped chain parts bytes)) = pop_notes chain parts (may_run r) (has_place r chain.id)
  step_notes (On Emptied) = refl
  step_notes (On (Ended i end)) = end_notes i (request_at r i) end
  step_notes Turn = turn_notes r.owes (pops r) refl

owing-append : (owes : Bool) (xs ys : List RingAction) → owing owes (xs ++ ys) ≡ owing (owing owes xs) ys
owing-append owes [] ys = refl
owing-append owes (action.Return chain moved failed ∷ xs) ys = owing-append true xs ys
owing-append owes (action.Notify ∷ xs) ys = owing-append false xs ys
owing-append owes (action.Pop ∷ xs) ys = owing-append owes xs ys
owing-append owes (action.Serve id left ∷ xs) ys = owing-append owes xs ys
owing-append owes (action.Broke ∷ xs) ys = owing-append owes xs ys
owing-append owes (action.Stopped ∷ xs) ys = owing-append owes xs ys

pub notes : (r : RingState) (steps : List RingStep) → (after steps r).owes ≡ owing r.owes (actions steps r)
notes r [] = refl
notes r (s ∷ ss) = let t = stepped r s in
    let here : t.0.owes ≡ owing r.owes t.1 = step_notes r s in
    rw (owing-append r.owes t.1 (actions ss t.0), ← here) (notes t.0 ss)
