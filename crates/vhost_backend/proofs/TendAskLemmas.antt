-- Which rings have a MISS that is to be sent or without a reply.
use Rattle.std.proofs.Common.{◌≡◌, ◌∙◌, ℕ, ◌<◌, ◌==◌, ◌||◌, nat_lt, not, Bool, true, false, List, [], ◌∷◌, ◌++◌, length, Option, Some, None, if◌then◌else◌, refl, ap, sym, subst, inl, inr}
use Rattle.std.specs.List.{list_any}
use Rattle.std.proofs.lemmas.Bool.{cases_Bool, eq-eqb, eqb-true, lt-ltb, ne_eqb}
use Rattle.std.proofs.lemmas.Option.{same_Some}
use Rattle.vhost_backend.proofs.QuestionLemmas.{rings_staled, stands_sent}
use Rattle.vhost_backend.specs.Line.{stands_in}
use Rattle.vhost_backend.specs.Questions.{QuestionsState, after_reply, forgotten, has_miss, is_asked, is_due, sent_first, stale, staled, taken_due, wanted}
use Rattle.vhost_backend.specs.declared.questions.Miss.{Miss}
use Rattle.vhost_backend.specs.declared.questions.SentMiss.{SentMiss}

-- ---- whether a ring has a MISS

any_push : {X : Type 0} (p : X → Bool) (xs : List X) (x : X) → list_any p (xs ++ x ∷ []) ≡ (list_any p xs || p x)
any_push p [] x = go (p x)
  where
    go : (b : Bool) → (b || false) ≡ b
    go true = refl
    go false = refl
any_push p (y ∷ xs) x = go (p y) (list_any p xs) (p x) (list_any p (xs ++ x ∷ [])) (any_push p xs x)
  where
    go : (a b c d : Bool) → d ≡ (b || c) → (a || d) ≡ ((a || b) || c)
    go true b c d is = refl
    go false b c d is = is

more_of : (a b c : Bool) → (a || b) ≡ true → (a || (b || c)) ≡ true
more_of true b c is = refl
more_of false true c is = refl
more_of false false c is = absurd (cc)

last_of : (a b : Bool) → (a || (b || true)) ≡ true
last_of true b = refl
last_of false true = refl
last_of false false = refl

between : (a b c : Bool) → (a || (b || c)) ≡ true → ((a || b) || c) ≡ true
between true b c is = refl
between false b c is = is

module _ (q : QuestionsState) (m : Miss) where
  -- one more
  pub wanted_still : (i : ℕ) → has_miss q.sent q.due i ≡ true → has_miss (wanted q m).sent (wanted q m).due i ≡ true
  wanted_still i is = go (not (nat_lt m.ring q.rings) || has_miss q.sent q.due m.ring)
    where
      go : (v : Bool) → (let u : QuestionsState = if v then q else record q { due = q.due ++ m ∷ [] } in
          has_miss u.sent u.due i ≡ true)
      go true = is
      go false = ap (λ (b : Bool). is_asked q.sent i || b) (any_push (λ one. one.ring == i) q.due m)
          ∙ more_of (is_asked q.sent i) (is_due q.due i) (m.ring == i) is

  pub wanted_has : m.ring < q.rings → has_miss (wanted q m).sent (wanted q m).due m.ring ≡ true
  wanted_has below =
      ap (λ (b : Bool). let u : QuestionsState = if not b || has_miss q.sent q.due m.ring then q
      else record q { due = q.due ++ m ∷ [] } in has_miss u.sent u.due m.ring) (lt-ltb m.ring q.rings below)
      ∙ go (has_miss q.sent q.due m.ring) refl
    where
      go : (v : Bool) → has_miss q.sent q.due m.ring ≡ v
          → (let u : QuestionsState = if v then q else record q { due = q.due ++ m ∷ [] } in
          has_miss u.sent u.due m.ring ≡ true)
      go true is = is
      go false none = ap (λ (b : Bool). is_asked q.sent m.ring || b) (any_push (λ one. one.ring == m.ring) q.due m)
          ∙ ap (λ (b : Bool). is_asked q.sent m.ring || (is_due q.due m.ring || b)) (eq-eqb m.ring m.ring refl)
          ∙ last_of (is_asked q.sent m.ring) (is_due q.due m.ring)

  -- that one, if there was none
  pub wanted_due : m.ring < q.rings → has_miss q.sent q.due m.ring ≡ false → (wanted q m).due ≡ q.due ++ m ∷ []
  wanted_due below none = ap (λ (b : Bool). let u : QuestionsState = if not b || has_miss q.sent q.due m.ring then q
      else record q { due = q.due ++ m ∷ [] } in u.due) (lt-ltb m.ring q.rings below)
      ∙ ap (λ (b : Bool). let u : QuestionsState = if b then q else record q { due = q.due ++ m ∷ [] } in u.due) none

  pub wanted_rings : (wanted q m).rings ≡ q.rings
  wanted_rings = go (not (nat_lt m.ring q.rings) || has_miss q.sent q.due m.ring)
    where
      go : (v : Bool) → (let u : QuestionsState = if v then q else record q { due = q.due ++ m ∷ [] } in
          u.rings ≡ q.rings)
      go true = refl
      go false = refl

-- one less
asked_staled : (sent : List SentMiss) (j i : ℕ) → is_asked (staled sent j) i ≡ is_asked sent i
asked_staled sent j i = sym (stands_sent i (staled sent j)) ∙ ap (stands_in i) (rings_staled sent j) ∙ stands_sent i sent

due_forgotten : (due : List Miss) (j i : ℕ) → (i ≡ j → ⊥) → is_due (forgotten due j) i ≡ is_due due i
due_forgotten [] j i differs = refl
due_forgotten (m ∷ due) j i differs = let rest = due_forgotten due j i differs in elim (cases_Bool (m.ring == j)) [
  | inl is ↦
      let other : (m.ring == i) ≡ false = ne_eqb m.ring i (λ same. differs (sym same ∙ eqb-true m.ring j is)) in
      rw is (rest ∙ sym (ap (λ (b : Bool). b || is_due due i) other))
  | inr is ↦ rw is (ap (λ (b : Bool). (m.ring == i) || b) rest)
]

pub stale_still : (q : QuestionsState) (j i : ℕ) → (i ≡ j → ⊥) → has_miss q.sent q.due i ≡ true
    → has_miss (stale q j).sent (stale q j).due i ≡ true
stale_still q j i differs is = ap (λ (b : Bool). b || is_due (forgotten q.due j) i) (asked_staled q.sent j i)
    ∙ ap (λ (b : Bool). is_asked q.sent i || b) (due_forgotten q.due j i differs) ∙ is

-- the first one that is to be sent is sent
pub sent_still : (q : QuestionsState) (i : ℕ) → has_miss q.sent q.due i ≡ true
    → has_miss (taken_due q).0.sent (taken_due q).0.due i ≡ true
sent_still q i is = go (nat_lt (length q.sent) 64)
  where
    first : (due : List Miss) → q.due ≡ due → (let t = sent_first q due in has_miss t.0.sent t.0.due i ≡ true)
    first [] none = is
    first (m ∷ rest) some =
        let was : (is_asked q.sent i || ((m.ring == i) || is_due rest i)) ≡ true =
        subst (λ (l : List Miss). has_miss q.sent l i ≡ true) some is in
        let one : SentMiss = record { ring = m.ring; is_awaited = true } in
        ap (λ (b : Bool). b || is_due rest i) (any_push (λ one. one.ring == i) q.sent one)
        ∙ between (is_asked q.sent i) (m.ring == i) (is_due rest i) was

    go : (v : Bool) → (let t : QuestionsState × Option Miss = if v then sent_first q q.due else (q, None) in
        has_miss t.0.sent t.0.due i ≡ true)
    go true = first q.due refl
    go false = is

pub first_sent : (q : QuestionsState) (m : Miss) (rest : List Miss) → q.due ≡ m ∷ rest → length q.sent < 64
    → (taken_due q).1 ≡ Some m
first_sent q m rest is few =
    ap (λ (b : Bool). let t : QuestionsState × Option Miss = if b then sent_first q q.due else (q, None) in t.1)
    (lt-ltb (length q.sent) 64 few)
    ∙ ap (λ (l : List Miss). (sent_first q l).1) is

pub sent_rings : (q : QuestionsState) → (taken_due q).0.rings ≡ q.rings
sent_rings q = go (nat_lt (length q.sent) 64)
  where
    first : (due : List Miss) → (sent_first q due).0.rings ≡ q.rings
    first [] = refl
    first (m ∷ rest) = refl

    go : (v : Bool) → (let t : QuestionsState × Option Miss = if v then sent_first q q.due else (q, None) in
        t.0.rings ≡ q.rings)
    go true = first q.due
    go false = refl

-- the first one that was sent is answered
pub answered_still : (q questions : QuestionsState) (one : SentMiss) → after_reply q ≡ (questions, Some one)
    → (questions.rings ≡ q.rings) × ((i : ℕ) → (i ≡ one.ring → ⊥) → has_miss q.sent q.due i ≡ true
    → has_miss questions.sent questions.due i ≡ true)
answered_still q questions one = go q.sent
  where
    go : (l : List SentMiss) → after_reply (record q { sent = l }) ≡ (questions, Some one)
        → (questions.rings ≡ q.rings) × ((i : ℕ) → (i ≡ one.ring → ⊥) → has_miss l q.due i ≡ true
        → has_miss questions.sent questions.due i ≡ true)
    go [] is = let bad : None ≡ Some one = ap (λ (t : QuestionsState × Option SentMiss). t.1) is in absurd (cc)
    go (x ∷ rest) is =
        let some : Some x ≡ Some one = ap (λ (t : QuestionsState × Option SentMiss). t.1) is in
        let same : x ≡ one = same_Some x one some in (
          sym (ap (λ (t : QuestionsState × Option SentMiss). t.0.rings) is),
          λ i differs has.
              let other : (x.ring == i) ≡ false =
              ne_eqb x.ring i (λ e. differs (sym e ∙ ap (λ (v : SentMiss). v.ring) same)) in
              let left : has_miss rest q.due i ≡ true =
              sym (ap (λ (b : Bool). (b || is_asked rest i) || is_due q.due i) other) ∙ has in
              sym (ap (λ (t : QuestionsState × Option SentMiss). has_miss t.0.sent t.0.due i) is) ∙ left,
        )
