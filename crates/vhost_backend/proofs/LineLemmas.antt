-- The line of rings that want a turn.
use Rattle.std.proofs.Common.{◌≡◌, ◌∙◌, ℕ, ◌<◌, ◌≤◌, ◌||◌, ◌==◌, nat_lt, not, Bool, true, false, List, [], ◌∷◌, ◌++◌, length, refl, ap, sym, arith, inl, inr}
use Rattle.std.proofs.Math.Dec.{eqb}
use Rattle.std.specs.List.{list_any, AllByRecursion, IsDistinct}
use Rattle.std.proofs.lemmas.Bool.{and_from, and_parts, cases_Bool, eq-eqb, eqb-true, lt-ltb, ltb-true, ne_eqb, not-true, not_from_false, or_cases, or_from, or_parts}
use Rattle.std.proofs.lemmas.List.Folds.{list_any-append}
use Rattle.std.proofs.lemmas.Map.Steps.{length-le_from_distinct_below}
use Rattle.vhost_backend.specs.Line.{is_line, joined, settled, stands_in, without}

eqb_both : (a b : ℕ) → eqb a b ≡ eqb b a
eqb_both a b = go (eqb b a) refl
  where
    go : (t : Bool) → eqb b a ≡ t → eqb a b ≡ t
    go true is = eq-eqb a b (sym (eqb-true b a is))
    go false is = ne_eqb a b (λ same. let bad : true ≡ false = sym (eq-eqb b a (sym same)) ∙ is in absurd (cc))

-- ---- who stands in it

pub stands-append : (i : ℕ) (xs ys : List ℕ) → stands_in i (xs ++ ys) ≡ (stands_in i xs || stands_in i ys)
stands-append i xs ys = list_any-append _ xs ys

pub without_own : (k i : ℕ) (line : List ℕ) → (k == i) ≡ true → without (k ∷ line) i ≡ without line i
without_own k i line is = rw is refl

pub without_other : (k i : ℕ) (line : List ℕ) → (k == i) ≡ false → without (k ∷ line) i ≡ k ∷ without line i
without_other k i line is = rw is refl

pub not_in_without : (i j : ℕ) (line : List ℕ) → stands_in i line ≡ false → stands_in i (without line j) ≡ false
not_in_without i j [] out = refl
not_in_without i j (k ∷ line) out =
    let (differs, gone) = or_parts (k == i) (stands_in i line) out in
    let rest = not_in_without i j line gone in
    elim (cases_Bool (k == j)) [
      | inl is ↦ rw (without_own k j line is) rest
      | inr is ↦ rw (without_other k j line is) (or_from _ _ differs rest)
    ]

pub not_in_own : (i : ℕ) (line : List ℕ) → stands_in i (without line i) ≡ false
not_in_own i [] = refl
not_in_own i (k ∷ line) = let rest = not_in_own i line in elim (cases_Bool (k == i)) [
  | inl is ↦ rw (without_own k i line is) rest
  | inr is ↦ rw (without_other k i line is) (or_from _ _ is rest)
]

pub in_without : (i j : ℕ) (line : List ℕ) → (j == i) ≡ false → stands_in i (without line j) ≡ stands_in i line
in_without i j [] differs = refl
in_without i j (k ∷ line) differs = let rest = in_without i j line differs in elim (cases_Bool (k == j)) [
  | inl is ↦ let same : k ≡ j = eqb-true k j is in rw (without_own k j line is, same, differs) rest
  | inr is ↦ rw (without_other k j line is) (ap (λ b. (k == i) || b) rest)
]

in_joined : (i j : ℕ) (line : List ℕ) → (j == i) ≡ false → stands_in i (joined line j) ≡ stands_in i line
in_joined i j line differs = go (stands_in j line) refl
  where
    go : (b : Bool) → stands_in j line ≡ b → stands_in i (joined line j) ≡ stands_in i line
    go true is = rw is refl
    go false is = rw is (stands-append i line (j ∷ []) ∙ rw differs (or_false (stands_in i line)))
      where
        or_false : (b : Bool) → (b || false) ≡ b
        or_false true = refl
        or_false false = refl

own_joined : (i : ℕ) (line : List ℕ) → stands_in i (joined line i) ≡ true
own_joined i line = go (stands_in i line) refl
  where
    go : (b : Bool) → stands_in i line ≡ b → stands_in i (joined line i) ≡ true
    go true is = rw is is
    go false is = rw is (stands-append i line (i ∷ []) ∙ rw (is, eq-eqb i i refl) refl)

-- a ring stands in the line if it wants a turn, and the others as they did
pub own_settled : (i : ℕ) (line : List ℕ) (wants : Bool) → stands_in i (settled line i wants) ≡ wants
own_settled i line true = own_joined i line
own_settled i line false = not_in_own i line

pub other_settled : (i j : ℕ) (line : List ℕ) (wants : Bool) → (j == i) ≡ false
    → stands_in i (settled line j wants) ≡ stands_in i line
other_settled i j line true differs = in_joined i j line differs
other_settled i j line false differs = in_without i j line differs

-- ---- it stays a line

pub line-push : (n i : ℕ) (line : List ℕ) → is_line n line ≡ true → i < n → stands_in i line ≡ false
    → is_line n (line ++ i ∷ []) ≡ true
line-push n i [] is below out = rw (lt-ltb i n below) refl
line-push n i (k ∷ line) is below out =
    let (there, rest) = and_parts (nat_lt k n) _ is in
    let (once, later) = and_parts (not (stands_in k line)) (is_line n line) rest in
    let (differs, gone) = or_parts (k == i) (stands_in i line) out in
    let alone : stands_in k (line ++ i ∷ []) ≡ false =
    stands-append k line (i ∷ []) ∙ or_from _ _ (not-true _ once) (or_from _ _ (eqb_both i k ∙ differs) refl) in
    and_from _ _ there (and_from _ _ (not_from_false _ alone) (line-push n i line later below gone))

line-joined : (n i : ℕ) (line : List ℕ) → is_line n line ≡ true → i < n → is_line n (joined line i) ≡ true
line-joined n i line is below = go (stands_in i line) refl
  where
    go : (b : Bool) → stands_in i line ≡ b → is_line n (joined line i) ≡ true
    go true there = rw there is
    go false out = rw out (line-push n i line is below out)

pub line-without : (n i : ℕ) (line : List ℕ) → is_line n line ≡ true → is_line n (without line i) ≡ true
line-without n i [] is = refl
line-without n i (k ∷ line) is =
    let (there, rest) = and_parts (nat_lt k n) _ is in
    let (once, later) = and_parts (not (stands_in k line)) (is_line n line) rest in
    let less = line-without n i line later in
    elim (cases_Bool (k == i)) [
      | inl own ↦ rw (without_own k i line own) less
      | inr other ↦ rw (without_other k i line other) (and_from _ _ there (and_from _ _
          (not_from_false _ (not_in_without k i line (not-true _ once))) less))
    ]

pub line-settled : (n i : ℕ) (line : List ℕ) (wants : Bool) → is_line n line ≡ true → i < n
    → is_line n (settled line i wants) ≡ true
line-settled n i line true is below = line-joined n i line is below
line-settled n i line false is below = line-without n i line is

-- ---- it has room for each ring

alone_in : (k : ℕ) (line : List ℕ) → stands_in k line ≡ false → AllByRecursion (λ y. eqb k y ≡ false) line
alone_in k [] out = tt
alone_in k (x ∷ line) out = let (differs, gone) = or_parts (x == k) (stands_in k line) out in
    (eqb_both k x ∙ differs, alone_in k line gone)

distinct : (n : ℕ) (line : List ℕ) → is_line n line ≡ true → IsDistinct eqb line
unfolding IsDistinct
distinct n [] is = tt
distinct n (k ∷ line) is =
    let (there, rest) = and_parts (nat_lt k n) _ is in
    let (once, later) = and_parts (not (stands_in k line)) (is_line n line) rest in
    (alone_in k line (not-true _ once), distinct n line later)

below_all : (n : ℕ) (line : List ℕ) → is_line n line ≡ true → (q : ℕ) → list_any (eqb q) line ≡ true → q < n
below_all n [] is q some = absurd (cc)
below_all n (k ∷ line) is q some =
    let (there, rest) = and_parts (nat_lt k n) _ is in
    let (once, later) = and_parts (not (stands_in k line)) (is_line n line) rest in
    elim (or_cases (eqb q k) (list_any (eqb q) line) some) [
      | inl same ↦ let e : q ≡ k = eqb-true q k same in let l : k < n = ltb-true k n there in omega arith
      | inr more ↦ below_all n line later q more
    ]

-- a ring that is there and does not stand in it finds room
pub room : (n i : ℕ) (line : List ℕ) → is_line n line ≡ true → i < n → stands_in i line ≡ false → length line < n
room n i line is below out =
    let whole : is_line n (i ∷ line) ≡ true =
    and_from _ _ (lt-ltb i n below) (and_from _ _ (not_from_false _ out) is) in
    let fits : length (i ∷ line) ≤ n =
    length-le_from_distinct_below (i ∷ line) n (distinct n (i ∷ line) whole) (below_all n (i ∷ line) whole) in
    omega arith

pub first_below : (n i : ℕ) (line : List ℕ) → is_line n (i ∷ line) ≡ true → i < n
first_below n i line is = ltb-true i n (and_parts (nat_lt i n) _ is).0
