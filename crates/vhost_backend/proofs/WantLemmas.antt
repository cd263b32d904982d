-- The rings that want a turn stand in the line.
use Rattle.std.proofs.Common.{◌≡◌, ◌∙◌, ℕ, Bool, true, false, List, [], ◌∷◌, set, Option, Some, None, if◌then◌else◌, refl, ap, sym, inl, inr}
use Rattle.std.specs.List.{slice_get}
use Rattle.std.proofs.lemmas.Bool.{cases_eq, ne_eqb}
use Rattle.vhost_backend.proofs.LineLemmas.{other_settled, own_settled}
use Rattle.vhost_backend.proofs.OwnWayLemmas.{get-replicate, get-set_other, get-set_same, held_line, held_rings, released_same}
use Rattle.vhost_backend.specs.Line.{settled, stands_in, without}
use Rattle.vhost_backend.specs.Ring.{RingState, Step, after_turn, new_ring, pops, step, wants}
use Rattle.vhost_backend.specs.Rings.{Happens, RingsState, admits, happens, held, holding, is_free, new_rings, next_turn, now_held, nothing, on_ring, released, turn_of, turn_taken, turn_used, with_step}
use Rattle.vhost_backend.specs.Turns.{after_all}
use Rattle.vhost_backend.specs.declared.ring.RingEvent.{RingEvent}
use Rattle.vhost_backend.specs.declared.rings.Event.{Event}
use Rattle.vhost_backend.specs.declared.rings.Event.TheVariants as event

-- the rings that want a turn stand in the line, and no other does
abbrev pub AreInLine : RingsState → Type 0
AreInLine s = (i : ℕ) (r : RingState) → slice_get s.rings i ≡ Some r → stands_in i s.line ≡ wants r

abbrev chosen : Bool → Happens → Happens → Happens
chosen b one other = if b then one else other

same_line : (s new : RingsState) → new.rings ≡ s.rings → new.line ≡ s.line → AreInLine s → AreInLine new
same_line s new rings line are i r there =
    ap (stands_in i) line ∙ are i r (ap (λ all. slice_get all i) (sym rings) ∙ there)

-- the other rings do
abbrev pub OthersAre : RingsState → ℕ → Type 0
OthersAre s j = (i : ℕ) (r : RingState) → (j ≡ i → ⊥) → slice_get s.rings i ≡ Some r → stands_in i s.line ≡ wants r

module _ (s : RingsState) where
  step_in_line : (j : ℕ) (q : RingState) (t : Step) → OthersAre s j → slice_get s.rings j ≡ Some q
      → AreInLine (with_step s j t).0
  step_in_line j q t are is i r there =
      let new : RingsState = record s { rings = set s.rings j t.0; line = settled s.line j (wants t.0) } in
      let found : slice_get (set s.rings j t.0) i ≡ Some r =
      ap (λ all. slice_get all i) (sym (held_rings new)) ∙ there in
      ap (stands_in i) (held_line new) ∙ elim (cases_eq j i) [
        | inl same ↦
            let own : slice_get (set s.rings j t.0) j ≡ Some t.0 = get-set_same s.rings j t.0 q is in
            let at : slice_get (set s.rings j t.0) j ≡ Some r = ap (slice_get (set s.rings j t.0)) same ∙ found in
            let one : t.0 ≡ r = cc in
            ap (λ k. stands_in k (settled s.line j (wants t.0))) (sym same) ∙ own_settled j s.line (wants t.0)
            ∙ ap wants one
        | inr differs ↦ other_settled i j s.line (wants t.0) (ne_eqb j i differs)
            ∙ are i r differs (sym (get-set_other s.rings j i t.0 (λ same. differs (sym same))) ∙ found)
      ]

with_turn : (s : RingsState) (j : ℕ) (q : RingState) (e : RingEvent) → AreInLine s → slice_get s.rings j ≡ Some q
    → AreInLine (with_step (record s { turn = turn_used s.turn j e }) j (step q e)).0
with_turn s j q e are is =
    step_in_line (record s { turn = turn_used s.turn j e }) j q (step q e) (λ i r differs there. are i r there) is

ring_in_line : (s : RingsState) (j : ℕ) (e : RingEvent) (o : Option RingState) (b : Bool) → AreInLine s
    → slice_get s.rings j ≡ o → admits s.turn j e ≡ b → AreInLine (on_ring s j o e).0
ring_in_line s j e None b are is may = are
ring_in_line s j e (Some q) true are is may = rw may (with_turn s j q e are is)
ring_in_line s j e (Some q) false are is may = rw may are

turn_in_line : (s : RingsState) (k : ℕ) (o : Option RingState) → AreInLine s → slice_get s.rings k ≡ o
    → AreInLine (turn_taken s k o).0
turn_in_line s k None are is i r there = elim (cases_eq k i) [
  | inl same ↦ let bad : slice_get s.rings k ≡ Some r = ap (slice_get s.rings) same ∙ there in absurd (cc)
  | inr differs ↦ other_settled i k s.line false (ne_eqb k i differs) ∙ are i r there
]
turn_in_line s k (Some q) are is i r there =
    step_in_line (record s { turn = turn_of k (pops q); line = without s.line k }) k q (after_turn q)
    (λ j p differs at. other_settled j k s.line false (ne_eqb k j differs) ∙ are j p at) is i r there

go_in_line : (s : RingsState) (free : Bool) (o : Option ℕ) → AreInLine s
    → AreInLine (chosen free (next_turn s o) (s, nothing 0)).0
go_in_line s false o are = are
go_in_line s true None are = are
go_in_line s true (Some k) are = turn_in_line s k (slice_get s.rings k) are refl

hold_in_line : (s : RingsState) (free : Bool) → AreInLine s → AreInLine (chosen free
    (held (holding s), record { ring = 0; actions = []; held = now_held (holding s) }) (s, nothing 0)).0
hold_in_line s true are = same_line s (held (holding s)) (held_rings (holding s)) (held_line (holding s)) are
hold_in_line s false are = are

event_in_line : (s : RingsState) (e : Event) → AreInLine s → AreInLine (happens s e).0
event_in_line s (event.Ring j e) are = ring_in_line s j e (slice_get s.rings j) (admits s.turn j e) are refl refl
event_in_line s event.GoOn are = go_in_line s (is_free s.hold) (slice_get s.line 0) are
event_in_line s event.Hold are = hold_in_line s (is_free s.hold) are
event_in_line s event.Release are = let (rings, line) = released_same s s.hold in
    same_line s (released s s.hold) rings line are

all_in_line : (s : RingsState) (events : List Event) → AreInLine s → AreInLine (after_all events s)
all_in_line s [] are = are
all_in_line s (e ∷ es) are = all_in_line (happens s e).0 es (event_in_line s e are)

new_in_line : (count ids : ℕ) → AreInLine (new_rings count ids)
new_in_line count ids i r there = ap wants (sym (get-replicate count i (new_ring ids) r there))

pub in_line : (count ids : ℕ) (events : List Event) → AreInLine (after_all events (new_rings count ids))
in_line count ids events = all_in_line (new_rings count ids) events (new_in_line count ids)
