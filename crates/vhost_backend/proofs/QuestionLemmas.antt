-- What a front end is asked: each ring has one MISS at most.
use Rattle.std.proofs.Common.{◌≡◌, ◌∙◌, ℕ, ◌+◌, ◌<◌, ◌||◌, ◌==◌, nat_lt, not, true, false, List, [], ◌∷◌, ◌++◌, length, map, Option, Some, None, refl, ap, sym, arith, inl, inr}
use Rattle.std.specs.List.{list_any}
use Rattle.std.proofs.Math.Seq.{map-set_same}
use Rattle.std.proofs.lemmas.Bool.{and_from, and_parts, cases_Bool, eqb-true, not-true, not_from_false, or_parts}
use Rattle.std.proofs.lemmas.List.{append_assoc, length-append, length-map, map-append}
use Rattle.std.proofs.lemmas.List.Quantifiers.{position-Some}
use Rattle.vhost_backend.specs.Line.{is_line, stands_in, without}
use Rattle.vhost_backend.specs.Questions.{asking, forgotten, has_miss, place_of, staled, staled_at}
use Rattle.vhost_backend.specs.declared.questions.Miss.{Miss}
use Rattle.vhost_backend.specs.declared.questions.SentMiss.{SentMiss}
use Rattle.vhost_backend.proofs.LineLemmas.{line-push, line-without, not_in_without, room, stands-append}

-- ---- which rings have one

pub stands_sent : (i : ℕ) (sent : List SentMiss)
    → stands_in i (map (λ one. one.ring) sent) ≡ list_any (λ one. one.ring == i) sent
stands_sent i [] = refl
stands_sent i (x ∷ sent) = ap (λ b. (x.ring == i) || b) (stands_sent i sent)

stands_due : (i : ℕ) (due : List Miss)
    → stands_in i (map (λ one. one.ring) due) ≡ list_any (λ one. one.ring == i) due
stands_due i [] = refl
stands_due i (x ∷ due) = ap (λ b. (x.ring == i) || b) (stands_due i due)

stands_asking : (i : ℕ) (sent : List SentMiss) (due : List Miss)
    → stands_in i (asking sent due) ≡ has_miss sent due i
stands_asking i sent due =
    stands-append i (map (λ one. one.ring) sent) (map (λ one. one.ring) due)
    ∙ ap (λ b. b || stands_in i (map (λ one. one.ring) due)) (stands_sent i sent)
    ∙ ap (λ b. list_any (λ one. one.ring == i) sent || b) (stands_due i due)

-- ---- one more

asking-push : (sent : List SentMiss) (due : List Miss) (m : Miss)
    → asking sent (due ++ m ∷ []) ≡ asking sent due ++ m.ring ∷ []
asking-push sent due m =
    ap (λ l. map (λ one. one.ring) sent ++ l) (map-append (λ one. one.ring) due (m ∷ []))
    ∙ sym (append_assoc (map (λ one. one.ring) sent) (map (λ one. one.ring) due) (m.ring ∷ []))

pub kept-push : (n : ℕ) (sent : List SentMiss) (due : List Miss) (m : Miss) → is_line n (asking sent due) ≡ true
    → m.ring < n → has_miss sent due m.ring ≡ false → is_line n (asking sent (due ++ m ∷ [])) ≡ true
kept-push n sent due m is below out = rw (asking-push sent due m)
    (line-push n m.ring (asking sent due) is below (stands_asking m.ring sent due ∙ out))

-- there is room for it
pub due_room : (n : ℕ) (sent : List SentMiss) (due : List Miss) (i : ℕ) → is_line n (asking sent due) ≡ true
    → i < n → has_miss sent due i ≡ false → length due < n
due_room n sent due i is below out =
    let fits : length (asking sent due) < n = room n i (asking sent due) is below (stands_asking i sent due ∙ out) in
    let long : length (asking sent due) ≡ length sent + length due = simp (length-append, length-map) in
    omega arith

-- ---- one less

pub rings_staled : (sent : List SentMiss) (i : ℕ) → map (λ one. one.ring) (staled sent i) ≡ map (λ one. one.ring) sent
rings_staled sent i = go (place_of sent i) refl
  where
    go : (o : Option ℕ) → place_of sent i ≡ o
        → map (λ one. one.ring) (staled_at sent i o) ≡ map (λ one. one.ring) sent
    go None is = refl
    go (Some at) is =
        let d : SentMiss = record { ring = i; is_awaited = false } in
        let (below, own, first) = position-Some (λ one. one.ring == i) sent at d is in
        map-set_same (λ one. one.ring) sent at d d (sym (eqb-true _ i own))

rings_forgotten : (due : List Miss) (i : ℕ)
    → map (λ one. one.ring) (forgotten due i) ≡ without (map (λ one. one.ring) due) i
rings_forgotten [] i = refl
rings_forgotten (m ∷ due) i = let rest = rings_forgotten due i in elim (cases_Bool (m.ring == i)) [
  | inl is ↦ rw is rest
  | inr is ↦ rw is (ap (λ l. m.ring ∷ l) rest)
]

line_less : (n i : ℕ) (xs ys : List ℕ) → is_line n (xs ++ ys) ≡ true → is_line n (xs ++ without ys i) ≡ true
line_less n i [] ys is = line-without n i ys is
line_less n i (k ∷ xs) ys is =
    let (there, rest) = and_parts (nat_lt k n) _ is in
    let (once, later) = and_parts (not (stands_in k (xs ++ ys))) (is_line n (xs ++ ys)) rest in
    let out : stands_in k (xs ++ ys) ≡ false = not-true _ once in
    let (first, last) = or_parts (stands_in k xs) (stands_in k ys) (sym (stands-append k xs ys) ∙ out) in
    let alone : stands_in k (xs ++ without ys i) ≡ false =
    stands-append k xs (without ys i) ∙ rw (first, not_in_without k i ys last) refl in
    and_from _ _ there (and_from _ _ (not_from_false _ alone) (line_less n i xs ys later))

pub kept-stale : (n : ℕ) (sent : List SentMiss) (due : List Miss) (i : ℕ) → is_line n (asking sent due) ≡ true
    → is_line n (asking (staled sent i) (forgotten due i)) ≡ true
kept-stale n sent due i is = rw (rings_staled sent i, rings_forgotten due i)
    (line_less n i (map (λ one. one.ring) sent) (map (λ one. one.ring) due) is)

pub length-staled : (sent : List SentMiss) (i : ℕ) → length (staled sent i) ≡ length sent
length-staled sent i =
    let same : length (map (λ one. one.ring) (staled sent i)) ≡ length (map (λ one. one.ring) sent) =
    ap length (rings_staled sent i) in
    simp length-map at same
