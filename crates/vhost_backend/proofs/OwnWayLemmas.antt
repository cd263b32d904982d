-- Each ring goes its own way.
use Rattle.std.proofs.Common.{◌≡◌, ◌∙◌, ℕ, zero, suc, ◌&&◌, ◌==◌, Bool, true, false, List, [], ◌∷◌, ◌++◌, replicate, set, Option, Some, None, if◌then◌else◌, refl, ap, sym, inl, inr, append_assoc}
use Rattle.std.specs.List.{slice_get}
use Rattle.std.proofs.lemmas.Bool.{cases_eq, eq-eqb, ne_eqb}
use Rattle.std.proofs.lemmas.List.{append-nil}
use Rattle.vhost_backend.specs.Line.{settled, without}
use Rattle.vhost_backend.specs.Ring.{RingState, Step, after_turn, pops, wants}
use Rattle.vhost_backend.specs.Rings.{Happens, RingsState, admits, happens, held, holding, is_free, next_turn, now_held, nothing, on_ring, released, turn_of, turn_taken, turn_used, with_step}
use Rattle.vhost_backend.specs.Story.{RingStep, On, Turn, actions, after, stepped}
use Rattle.vhost_backend.specs.Turns.{actions_of, after_all, all_done, is_first, own_actions, steps_of, story_of}
use Rattle.vhost_backend.specs.declared.ring.RingEvent.{RingEvent}
use Rattle.vhost_backend.specs.declared.rings.Actions.{Actions}
use Rattle.vhost_backend.specs.declared.rings.Event.{Event}
use Rattle.vhost_backend.specs.declared.rings.Event.TheVariants as event
use Rattle.vhost_backend.specs.declared.rings.Hold.{Hold}
use Rattle.vhost_backend.specs.declared.rings.Hold.TheVariants.{Free, Waiting, Held}

-- ---- lists

module _ {X : Type 0} where
  pub get-set_same : (xs : List X) (i : ℕ) (x y : X) → slice_get xs i ≡ Some y → slice_get (set xs i x) i ≡ Some x
  get-set_same [] i x y there = absurd (cc)
  get-set_same (z ∷ xs) zero x y there = refl
  get-set_same (z ∷ xs) (suc i) x y there = get-set_same xs i x y there

  pub get-set_other : (xs : List X) (i j : ℕ) (x : X) → (j ≡ i → ⊥) → slice_get (set xs i x) j ≡ slice_get xs j
  get-set_other [] i j x differs = refl
  get-set_other (z ∷ xs) zero zero x differs = absurd (differs refl)
  get-set_other (z ∷ xs) zero (suc j) x differs = refl
  get-set_other (z ∷ xs) (suc i) zero x differs = refl
  get-set_other (z ∷ xs) (suc i) (suc j) x differs = get-set_other xs i j x (λ same. differs (ap suc same))

  pub get-replicate : (n i : ℕ) (x y : X) → slice_get (replicate n x) i ≡ Some y → y ≡ x
  get-replicate zero i x y there = absurd (cc)
  get-replicate (suc n) zero x y there = let same : x ≡ y = cc in sym same
  get-replicate (suc n) (suc i) x y there = get-replicate n i x y there

-- ---- what leaves the rings as they are

pub held_rings : (s : RingsState) → (held s).rings ≡ s.rings
held_rings s = go (now_held s)
  where
    go : (b : Bool) → (let new : RingsState = if b then record s { hold = Held } else s in new.rings ≡ s.rings)
    go true = refl
    go false = refl

pub held_line : (s : RingsState) → (held s).line ≡ s.line
held_line s = go (now_held s)
  where
    go : (b : Bool) → (let new : RingsState = if b then record s { hold = Held } else s in new.line ≡ s.line)
    go true = refl
    go false = refl

pub released_same : (s : RingsState) (h : Hold) → ((released s h).rings ≡ s.rings) × ((released s h).line ≡ s.line)
released_same s Free = (refl, refl)
released_same s Waiting = (refl, refl)
released_same s Held = (refl, refl)

-- ---- the steps of a ring

abbrev pub Own : ℕ → RingState → List RingStep → Happens → Type 0
Own i r steps t = (slice_get t.0.rings i ≡ Some (after steps r)) × (own_actions i t.1 ≡ actions steps r)

module _ (i : ℕ) (r : RingState) where
  quiet : (new : RingsState) (a : Actions) → slice_get new.rings i ≡ Some r → a.actions ≡ [] → Own i r [] (new, a)
  quiet new a there none = (there, go (a.ring == i))
    where
      go : (b : Bool) → (if b then a.actions else []) ≡ []
      go true = none
      go false = refl

  own_step : (s : RingsState) (x : RingStep) → slice_get s.rings i ≡ Some r
      → Own i r (x ∷ []) (with_step s i (stepped r x))
  own_step s x there = let t = stepped r x in (
    rw (held_rings (record s { rings = set s.rings i t.0; line = settled s.line i (wants t.0) }))
        (get-set_same s.rings i t.0 r there),
    rw (eq-eqb i i refl) (sym (append-nil t.1)),
  )

  other_step : (s : RingsState) (j : ℕ) (t : Step) → slice_get s.rings i ≡ Some r → (j ≡ i → ⊥)
      → Own i r [] (with_step s j t)
  other_step s j t there differs = (
    rw (held_rings (record s { rings = set s.rings j t.0; line = settled s.line j (wants t.0) }))
        (get-set_other s.rings j i t.0 (λ same. differs (sym same)) ∙ there),
    rw (ne_eqb j i differs) refl,
  )

  module _ (s : RingsState) (there : slice_get s.rings i ≡ Some r) where
    own_event : (e : RingEvent) (b : Bool) → Own i r (if b then On e ∷ [] else [])
        (if b then with_step (record s { turn = turn_used s.turn i e }) i (stepped r (On e)) else (s, nothing i))
    own_event e true = own_step (record s { turn = turn_used s.turn i e }) (On e) there
    own_event e false = quiet s (nothing i) there refl

    other_event : (j : ℕ) (e : RingEvent) (o : Option RingState) (b : Bool) → (j ≡ i → ⊥) → admits s.turn j e ≡ b
        → Own i r [] (on_ring s j o e)
    other_event j e None b differs is = quiet s (nothing j) there refl
    other_event j e (Some q) true differs is =
        rw is (other_step (record s { turn = turn_used s.turn j e }) j (stepped q (On e)) there differs)
    other_event j e (Some q) false differs is = rw is (quiet s (nothing j) there refl)

    ring_event : (j : ℕ) (e : RingEvent) → Own i r (steps_of i s (event.Ring j e)) (happens s (event.Ring j e))
    ring_event j e = elim (cases_eq j i) [
      | inl same ↦ rw (same, eq-eqb i i refl, there) (own_event e (admits s.turn i e))
      | inr differs ↦ rw (ne_eqb j i differs) (other_event j e (slice_get s.rings j) (admits s.turn j e) differs refl)
    ]

    other_turn : (k : ℕ) (o : Option RingState) → (k ≡ i → ⊥) → Own i r [] (turn_taken s k o)
    other_turn k None differs = quiet (turn_taken s k None).0 (nothing k) there refl
    other_turn k (Some q) differs =
        other_step (record s { turn = turn_of k (pops q); line = without s.line k }) k (after_turn q) there differs

    turn_event : (free : Bool) (o : Option ℕ) → Own i r (if free && is_first o i then Turn ∷ [] else [])
        (if free then next_turn s o else (s, nothing 0))
    turn_event false o = quiet s (nothing 0) there refl
    turn_event true None = quiet (record s { turn = None }) (nothing 0) there refl
    turn_event true (Some k) = elim (cases_eq k i) [
      | inl same ↦ rw (same, eq-eqb i i refl, there)
          (own_step (record s { turn = turn_of i (pops r); line = without s.line i }) Turn there)
      | inr differs ↦ rw (ne_eqb k i differs) (other_turn k (slice_get s.rings k) differs)
    ]

    hold_event : (free : Bool) → Own i r [] (if free
        then (held (holding s), record { ring = 0; actions = []; held = now_held (holding s) }) else (s, nothing 0))
    hold_event true = quiet (held (holding s)) (record { ring = 0; actions = []; held = now_held (holding s) })
        (rw (held_rings (holding s)) there) refl
    hold_event false = quiet s (nothing 0) there refl

    pub one_event : (e : Event) → Own i r (steps_of i s e) (happens s e)
    one_event (event.Ring j e) = ring_event j e
    one_event event.GoOn = turn_event (is_free s.hold) (slice_get s.line 0)
    one_event event.Hold = hold_event (is_free s.hold)
    one_event event.Release = quiet (released s s.hold) (nothing 0) (rw (released_same s s.hold).0 there) refl

after-append : (xs ys : List RingStep) (r : RingState) → after (xs ++ ys) r ≡ after ys (after xs r)
after-append [] ys r = refl
after-append (x ∷ xs) ys r = after-append xs ys (stepped r x).0

actions-append : (xs ys : List RingStep) (r : RingState) → actions (xs ++ ys) r
    ≡ actions xs r ++ actions ys (after xs r)
actions-append [] ys r = refl
actions-append (x ∷ xs) ys r =
    ap (λ rest. (stepped r x).1 ++ rest) (actions-append xs ys (stepped r x).0)
    ∙ sym (append_assoc (stepped r x).1 (actions xs (stepped r x).0) (actions ys (after xs (stepped r x).0)))

pub becomes : (s : RingsState) (events : List Event) (i : ℕ) (r : RingState) → slice_get s.rings i ≡ Some r
    → slice_get (after_all events s).rings i ≡ Some (after (story_of i events s) r)
becomes s [] i r there = there
becomes s (e ∷ es) i r there =
    let steps = steps_of i s e in
    let new = (happens s e).0 in
    becomes new es i (after steps r) (one_event i r s there e).0
    ∙ ap Some (sym (after-append steps (story_of i es new) r))

pub done : (s : RingsState) (events : List Event) (i : ℕ) (r : RingState) → slice_get s.rings i ≡ Some r
    → actions_of i (all_done events s) ≡ actions (story_of i events s) r
done s [] i r there = refl
done s (e ∷ es) i r there =
    let steps = steps_of i s e in
    let new = (happens s e).0 in
    let (goes, does) = one_event i r s there e in
    let rest : actions_of i (all_done es new) ≡ actions (story_of i es new) (after steps r) =
    done new es i (after steps r) goes in
    ap (λ acts. acts ++ actions_of i (all_done es new)) does ∙ ap (λ acts. actions steps r ++ acts) rest
    ∙ sym (actions-append steps (story_of i es new) r)
