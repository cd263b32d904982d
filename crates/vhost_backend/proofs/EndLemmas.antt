-- Turns come to an end.
use Rattle.std.proofs.Common.{◌≡◌, ◌∙◌, ℕ, ◌<◌, ◌&&◌, Bool, true, false, [], ◌∷◌, set, Option, Some, None, is_some, refl, ap, arith}
use Rattle.std.specs.List.{slice_get}
use Rattle.std.proofs.lemmas.Bool.{and_parts}
use Rattle.vhost_backend.proofs.BoundLemmas.{Leaves, event_leaves, step_turn}
use Rattle.vhost_backend.proofs.OwnWayLemmas.{get-set_same, held_rings}
use Rattle.vhost_backend.specs.Line.{settled}
use Rattle.vhost_backend.specs.Ring.{RingState, after_break, broken, may_run, step, wants}
use Rattle.vhost_backend.specs.Rings.{RingsState, happens, is_turn, left_of, may_pop, may_pop_by, with_step}
use Rattle.vhost_backend.specs.Turns.{popped_by}
use Rattle.vhost_backend.specs.declared.request.Chain.{Chain}
use Rattle.vhost_backend.specs.declared.ring.Phase.{Phase}
use Rattle.vhost_backend.specs.declared.ring.Phase.TheVariants.{Stopped, Started, Broken, Stopping}
use Rattle.vhost_backend.specs.declared.ring.RingEvent.TheVariants.{Break, Emptied, Popped}
use Rattle.vhost_backend.specs.declared.rings.Event.TheVariants as event

-- a ring that may pop is there, and it is its turn
may : (s : RingsState) (i : ℕ) (o : Option RingState) → may_pop_by s i o ≡ true
    → (is_some o ≡ true) × (is_turn s.turn i ≡ true)
may s i None is = absurd (cc)
may s i (Some r) is = (refl, (and_parts (is_turn s.turn i) (may_run r) is).0)

pub popped : (s : RingsState) (i : ℕ) (chain : Chain) (parts bytes : ℕ) → may_pop s i ≡ true
    → left_of (happens s (event.Ring i (Popped chain parts bytes))).0.turn < left_of s.turn
popped s i chain parts bytes is =
    let e = event.Ring i (Popped chain parts bytes) in
    let (there, own) = may s i (slice_get s.rings i) is in
    let one : popped_by s e ≡ bytes ∷ [] = rw (there, own) refl in
    let leaves : Leaves s.turn (popped_by s e) (happens s e).0.turn = event_leaves s e refl in
    let shorter : Leaves s.turn (bytes ∷ []) (happens s e).0.turn = rw one at leaves in
    let less = shorter.0 in
    omega arith

no_turn : (s : RingsState) (i : ℕ) (o : Option RingState) → s.turn ≡ None → may_pop_by s i o ≡ false
no_turn s i None none = refl
no_turn s i (Some r) none = rw none refl

pub emptied : (s : RingsState) (i : ℕ) → may_pop s i ≡ true → may_pop (happens s (event.Ring i Emptied)).0 i ≡ false
emptied s i is = go (slice_get s.rings i) refl
  where
    go : (o : Option RingState) → slice_get s.rings i ≡ o → may_pop (happens s (event.Ring i Emptied)).0 i ≡ false
    go None there = let bad : false ≡ true = rw there at is in absurd (cc)
    go (Some r) there =
        let own : is_turn s.turn i ≡ true = (may s i (slice_get s.rings i) is).1 in
        let old : RingsState = record s { turn = None } in
        let new : RingsState = (with_step old i (step r Emptied)).0 in
        rw (there, own) (no_turn new i (slice_get new.rings i) (step_turn old i (step r Emptied)))

stops_running : (r : RingState) (p : Phase) → r.phase ≡ p → may_run (broken r p).0 ≡ false
stops_running r Stopped is = rw is refl
stops_running r Started is = refl
stops_running r Broken is = rw is refl
stops_running r Stopping is = rw is refl

both_false : (a b : Bool) → b ≡ false → (a && b) ≡ false
both_false true b none = none
both_false false b none = refl

pub broken_ends : (s : RingsState) (i : ℕ) → may_pop (happens s (event.Ring i Break)).0 i ≡ false
broken_ends s i = go (slice_get s.rings i) refl
  where
    go : (o : Option RingState) → slice_get s.rings i ≡ o → may_pop (happens s (event.Ring i Break)).0 i ≡ false
    go None there = rw (there, there) refl
    go (Some r) there =
        let t = after_break r in
        let new : RingsState = record s { rings = set s.rings i t.0; line = settled s.line i (wants t.0) } in
        let found : slice_get (with_step s i t).0.rings i ≡ Some t.0 =
        ap (λ all. slice_get all i) (held_rings new) ∙ get-set_same s.rings i t.0 r there in
        rw (there, found) (both_false (is_turn (with_step s i t).0.turn i) (may_run t.0)
        (stops_running r r.phase refl))
