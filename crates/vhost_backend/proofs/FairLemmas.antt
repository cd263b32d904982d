-- Turns are fair.
use Rattle.std.proofs.Common.{◌≡◌, ◌∙◌, ℕ, ◌+◌, ◌≤◌, ◌==◌, not, Bool, true, false, List, [], ◌∷◌, ◌++◌, length, set, Option, Some, None, if◌then◌else◌, refl, ap, sym, arith, inl, inr, length-append}
use Rattle.std.specs.List.{count_by, slice_get}
use Rattle.std.proofs.lemmas.Bool.{cases_Bool, eqb-true, eq-eqb, or_cases, or_parts}
use Rattle.std.proofs.lemmas.List.Sums.{count_by-le-length, length-filter, sum_by-append}
use Rattle.vhost_backend.proofs.LineLemmas.{in_without, not_in_own, not_in_without, without_other, without_own}
use Rattle.vhost_backend.proofs.OwnWayLemmas.{held_line, released_same}
use Rattle.vhost_backend.specs.Line.{joined, settled, stands_in, without}
use Rattle.vhost_backend.specs.Ring.{RingState, Step, after_turn, pops, step, wants}
use Rattle.vhost_backend.specs.Rings.{Happens, RingsState, admits, happens, held, holding, is_free, next_turn, now_held, nothing, on_ring, turn_of, turn_taken, turn_used, with_step}
use Rattle.vhost_backend.specs.Turns.{Waits, before, listed, turn_to, turns}
use Rattle.vhost_backend.specs.declared.ring.RingEvent.{RingEvent}
use Rattle.vhost_backend.specs.declared.rings.Event.{Event}
use Rattle.vhost_backend.specs.declared.rings.Event.TheVariants as event

-- ---- those that stand before a ring

before_own : (j k : ℕ) (rest : List ℕ) → (k == j) ≡ true → before j (k ∷ rest) ≡ []
before_own j k rest is = rw is refl

before_other : (j k : ℕ) (rest : List ℕ) → (k == j) ≡ false → before j (k ∷ rest) ≡ k ∷ before j rest
before_other j k rest is = rw is refl

before-push : (j k : ℕ) (line : List ℕ) → stands_in j line ≡ true → before j (line ++ k ∷ []) ≡ before j line
before-push j k [] there = absurd (cc)
before-push j k (x ∷ line) there = elim (or_cases (x == j) (stands_in j line) there) [
  | inl is ↦ before_own j x (line ++ k ∷ []) is ∙ sym (before_own j x line is)
  | inr later ↦ let rest = before-push j k line later in elim (cases_Bool (x == j)) [
    | inl is ↦ before_own j x (line ++ k ∷ []) is ∙ sym (before_own j x line is)
    | inr is ↦ before_other j x (line ++ k ∷ []) is ∙ ap (λ xs. x ∷ xs) rest ∙ sym (before_other j x line is)
  ]
]

before-joined : (j k : ℕ) (line : List ℕ) → stands_in j line ≡ true → before j (joined line k) ≡ before j line
before-joined j k line there = go (stands_in k line)
  where
    go : (b : Bool) → before j (if b then line else line ++ k ∷ []) ≡ before j line
    go true = refl
    go false = before-push j k line there

before-without : (j k : ℕ) (line : List ℕ) → (k == j) ≡ false → before j (without line k) ≡ without (before j line) k
before-without j k [] differs = refl
before-without j k (x ∷ line) differs =
    let rest = before-without j k line differs in
    elim (cases_Bool (x == k)) [
      | inl own ↦
          let same : x ≡ k = eqb-true x k own in
          let other : (x == j) ≡ false = ap (λ y. y == j) same ∙ differs in
          ap (before j) (without_own x k line own) ∙ rest
          ∙ sym (ap (λ xs. without xs k) (before_other j x line other) ∙ without_own x k (before j line) own)
      | inr apart ↦ ap (before j) (without_other x k line apart) ∙ elim (cases_Bool (x == j)) [
        | inl is ↦ before_own j x (without line k) is ∙ sym (ap (λ xs. without xs k) (before_own j x line is))
        | inr is ↦ before_other j x (without line k) is ∙ ap (λ xs. x ∷ xs) rest
            ∙ sym (ap (λ xs. without xs k) (before_other j x line is) ∙ without_other x k (before j line) apart)
      ]
    ]

-- ---- how many turns there may be

abbrev one_if : Bool → ℕ
one_if b = if b then 1 else 0

abbrev count_of : ℕ → List ℕ → ℕ
count_of o all = count_by (λ i. i == o) all

-- from these before a ring to those, with such turns between
abbrev pub Fair : ℕ → List ℕ → List ℕ → List ℕ → Type 0
Fair o old between new = (count_of o between + one_if (stands_in o new) ≤ one_if (stands_in o old))
    × (length between + length new ≤ length old)

fair_same : (o : ℕ) (old new : List ℕ) → new ≡ old → Fair o old [] new
fair_same o old new is = rw is (omega arith, omega arith)

still_one : (o k : ℕ) (old : List ℕ) → one_if (stands_in o (without old k)) ≤ one_if (stands_in o old)
still_one o k old = go (stands_in o old) (stands_in o (without old k)) refl refl
  where
    go : (b c : Bool) → stands_in o old ≡ b → stands_in o (without old k) ≡ c → one_if c ≤ one_if b
    go true true is was = omega arith
    go true false is was = omega arith
    go false false is was = omega arith
    go false true is was = let bad : false ≡ true = sym (not_in_without o k old is) ∙ was in absurd (cc)

shorter : (k : ℕ) (old : List ℕ) → length (without old k) ≤ length old
shorter k old = omega (arith, length-filter (λ i. not (i == k)) old, count_by-le-length (λ i. not (i == k)) old)

fair_less : (o k : ℕ) (old : List ℕ) → Fair o old [] (without old k)
fair_less o k old = let one = still_one o k old in let short = shorter k old in (omega arith, omega arith)

fair_turn : (o k : ℕ) (rest : List ℕ) → Fair o (k ∷ rest) (k ∷ []) (without (k ∷ rest) k)
fair_turn o k rest = rw (without_own k k rest (eq-eqb k k refl)) (elim (cases_Bool (k == o)) [
  | inl is ↦ let same : k ≡ o = eqb-true k o is in
      let none : stands_in o (without rest k) ≡ false =
      ap (λ i. stands_in o (without rest i)) same ∙ not_in_own o rest in
      let short = shorter k rest in
      (rw (is, none) (omega arith), omega arith)
  | inr is ↦ let one = still_one o k rest in let short = shorter k rest in (rw is (omega arith), omega arith)
])

-- ---- events

abbrev chosen : Bool → Happens → Happens → Happens
chosen b one other = if b then one else other

abbrev these : Bool → List ℕ → List ℕ
these b xs = if b then xs else []

stays_other : (j k : ℕ) (line : List ℕ) → stands_in j (without line k) ≡ true → (k == j) ≡ false
stays_other j k line there = go (k == j) refl
  where
    go : (b : Bool) → (k == j) ≡ b → (k == j) ≡ false
    go false is = is
    go true is =
        let gone : stands_in j (without line k) ≡ false =
        ap (λ i. stands_in j (without line i)) (eqb-true k j is) ∙ not_in_own j line in
        let bad : false ≡ true = sym gone ∙ there in absurd (cc)

module _ (o j : ℕ) where
  fair_without : (k : ℕ) (line : List ℕ) → stands_in j (without line k) ≡ true
      → Fair o (before j line) [] (before j (without line k))
  fair_without k line there = rw (before-without j k line (stays_other j k line there)) (fair_less o k (before j line))

  fair_settled : (k : ℕ) (line : List ℕ) (w : Bool) → stands_in j line ≡ true → stands_in j (settled line k w) ≡ true
      → Fair o (before j line) [] (before j (settled line k w))
  fair_settled k line true was there = fair_same o (before j line) _ (before-joined j k line was)
  fair_settled k line false was there = fair_without k line there

  -- the same line by another name
  fair_at : (old between new other : List ℕ) → new ≡ other → Fair o (before j old) between (before j other)
      → Fair o (before j old) between (before j new)
  fair_at old between new other is fair = rw is fair

  fair_step : (s : RingsState) (k : ℕ) (t : Step) → stands_in j s.line ≡ true
      → stands_in j (with_step s k t).0.line ≡ true → Fair o (before j s.line) [] (before j (with_step s k t).0.line)
  fair_step s k t was there =
      let is = held_line (record s { rings = set s.rings k t.0; line = settled s.line k (wants t.0) }) in
      fair_at s.line [] _ _ is (fair_settled k s.line (wants t.0) was (ap (stands_in j) (sym is) ∙ there))

  fair_ring : (s : RingsState) (k : ℕ) (e : RingEvent) (q : Option RingState) (b : Bool) → admits s.turn k e ≡ b
      → stands_in j s.line ≡ true → stands_in j (on_ring s k q e).0.line ≡ true
      → Fair o (before j s.line) [] (before j (on_ring s k q e).0.line)
  fair_ring s k e None b is was there = fair_same o _ _ refl
  fair_ring s k e (Some q) b is was there = go b is there
    where
      go : (b : Bool) → admits s.turn k e ≡ b → stands_in j (on_ring s k (Some q) e).0.line ≡ true
          → Fair o (before j s.line) [] (before j (on_ring s k (Some q) e).0.line)
      go true may now = rw may (fair_step (record s { turn = turn_used s.turn k e }) k (step q e) was (rw may at now))
      go false may now = rw may (fair_same o (before j s.line) (before j s.line) refl)

  fair_again : (old between new later : List ℕ) → Fair o old between new → Fair o new [] later
      → Fair o old between later
  fair_again old between new later (one, short) (less, shorter) = (omega arith, omega arith)

  fair_first : (k : ℕ) (line : List ℕ) → slice_get line 0 ≡ Some k → (k == j) ≡ false
      → Fair o (before j line) (k ∷ []) (before j (without line k))
  fair_first k [] is apart = absurd (cc)
  fair_first k (x ∷ rest) is apart =
      let same : x ≡ k = cc in
      let front : before j (x ∷ rest) ≡ k ∷ before j rest =
      ap (λ y. before j (y ∷ rest)) same ∙ before_other j k rest apart in
      rw (before-without j k (x ∷ rest) apart, front) (fair_turn o k (before j rest))

  fair_behind : (k : ℕ) (line : List ℕ) (w : Bool) → (k == j) ≡ false → stands_in j line ≡ true
      → Fair o (before j line) [] (before j (settled line k w))
  fair_behind k line true apart was = fair_same o (before j line) _ (before-joined j k line was)
  fair_behind k line false apart was = rw (before-without j k line apart) (fair_less o k (before j line))

  fair_taken : (s : RingsState) (k : ℕ) (q : Option RingState) → slice_get s.line 0 ≡ Some k → (k == j) ≡ false
      → stands_in j s.line ≡ true → Fair o (before j s.line) (k ∷ []) (before j (turn_taken s k q).0.line)
  fair_taken s k None is apart was = fair_first k s.line is apart
  fair_taken s k (Some q) is apart was =
      let w = wants (after_turn q).0 in
      let less = without s.line k in
      let line = held_line (record s {
        rings = set s.rings k (after_turn q).0;
        line = settled less k w;
        turn = turn_of k (pops q);
      }) in
      let there : stands_in j less ≡ true = in_without j k s.line apart ∙ was in
      fair_at s.line (k ∷ []) _ _ line (fair_again (before j s.line) (k ∷ []) (before j less) (before j
      (settled less k w))
      (fair_first k s.line is apart) (fair_behind k less w apart there))

  fair_go : (s : RingsState) (free : Bool) (first : Option ℕ) → slice_get s.line 0 ≡ first
      → stands_in j s.line ≡ true → stands_in j (these free (listed first)) ≡ false
      → Fair o (before j s.line) (these free (listed first))
      (before j (chosen free (next_turn s first) (s, nothing 0)).0.line)
  fair_go s false first is was not = fair_same o _ _ refl
  fair_go s true None is was not = fair_same o _ _ refl
  fair_go s true (Some k) is was not = fair_taken s k (slice_get s.rings k) is (or_parts (k == j) false not).0 was

  fair_hold : (s : RingsState) (free : Bool) → Fair o (before j s.line) [] (before j (chosen free
      (held (holding s), record { ring = 0; actions = []; held = now_held (holding s) }) (s, nothing 0)).0.line)
  fair_hold s true = fair_same o _ _ (ap (before j) (held_line (holding s)))
  fair_hold s false = fair_same o _ _ refl

  fair_event : (s : RingsState) (e : Event) → stands_in j s.line ≡ true → stands_in j (happens s e).0.line ≡ true
      → stands_in j (turn_to s e) ≡ false → Fair o (before j s.line) (turn_to s e) (before j (happens s e).0.line)
  fair_event s (event.Ring k e) was there not =
      fair_ring s k e (slice_get s.rings k) (admits s.turn k e) refl was there
  fair_event s event.GoOn was there not = fair_go s (is_free s.hold) (slice_get s.line 0) refl was not
  fair_event s event.Hold was there not = fair_hold s (is_free s.hold)
  fair_event s event.Release was there not = fair_same o _ _ (ap (before j) (released_same s s.hold).1)

  fair_all : (s : RingsState) (events : List Event) → stands_in j s.line ≡ true → Waits j events s
      → (count_of o (turns events s) ≤ one_if (stands_in o (before j s.line)))
      × (length (turns events s) ≤ length (before j s.line))
  fair_all s [] was waits = (omega arith, omega arith)
  fair_all s (e ∷ es) was waits =
      let (now, not, later) = waits in
      let (one, short) = fair_event s e was now not in
      let (rest, shorts) = fair_all (happens s e).0 es now later in
      let both : count_of o (turn_to s e ++ turns es (happens s e).0)
      ≡ count_of o (turn_to s e) + count_of o (turns es (happens s e).0) = sum_by-append _ (turn_to s e) _ in
      let long : length (turn_to s e ++ turns es (happens s e).0)
      ≡ length (turn_to s e) + length (turns es (happens s e).0) = length-append (turn_to s e) _ in
      (omega arith, omega arith)

at_most_one : (b : Bool) → one_if b ≤ 1
at_most_one true = omega arith
at_most_one false = omega arith

pub fair : (s : RingsState) (events : List Event) (one other : ℕ) → stands_in one s.line ≡ true
    → Waits one events s → count_by (λ i. i == other) (turns events s) ≤ 1
fair s events one other was waits =
    let few = (fair_all other one s events was waits).0 in
    let most = at_most_one (stands_in other (before one s.line)) in
    omega arith

pub soon : (s : RingsState) (events : List Event) (one : ℕ) → stands_in one s.line ≡ true
    → Waits one events s → length (turns events s) ≤ length (before one s.line)
soon s events one was waits = (fair_all one one s events was waits).1
