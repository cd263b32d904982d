-- The notes of a harvest of all words.
use Rattle.std.proofs.Common.{◌≡◌, ◌≢◌, ℕ, suc, ◌+◌, ◌<◌, ◌≤◌, ◌⊎◌, max, inl, inr, ⊎_elim, List, [], ◌∷◌, ◌++◌, length, map, refl, ap, ◌∙◌, arith, eq-eqb, ne_eqb}
use mathlib.Core.Logic.{dite}
use native.Mathlib.Decide.{ℕ_discrete}
use Rattle.std.proofs.lemmas.List.{length-map, map-append}
use Rattle.vm_memory_base.specs.Notes.{Note, note, IsNoted, rounds_of, greatest_of, gathered}
use Rattle.vm_memory_base.specs.declared.bitmap.tracked.view.View.{View}
use Rattle.vm_memory_base.specs.Tracked.{after_harvest, after_harvests}

pub gathered-more : (word round : ℕ) (xs : List ℕ) (x : ℕ) (notes : List Note)
    → gathered word round (xs ++ x ∷ []) notes ≡ note (word + length xs) round x ∷ gathered word round xs notes
gathered-more word round [] x notes = ap (λ w. note w round x ∷ notes) (omega arith)
gathered-more word round (y ∷ xs) x notes =
    let e : word + 1 + length xs ≡ word + suc (length xs) = omega arith in
    gathered-more (word + 1) round xs x (note word round y ∷ notes)
    ∙ ap (λ w. note w round x ∷ gathered (word + 1) round xs (note word round y ∷ notes)) e

rounds_here : (w v round x : ℕ) (notes : List Note) → v ≡ w
    → length (rounds_of w (note v round x ∷ notes)) ≡ length (rounds_of w notes) + 1
rounds_here w v round x notes e = rw (eq-eqb v w e) (omega arith)

rounds_there : (w v round x : ℕ) (notes : List Note) → v ≢ w → rounds_of w (note v round x ∷ notes) ≡ rounds_of w notes
rounds_there w v round x notes ne = rw (ne_eqb v w ne) refl

-- words below the first, and past the last, have as many as before
pub gathered-below : (word round : ℕ) (xs : List ℕ) (notes : List Note) (w : ℕ) → w < word
    → rounds_of w (gathered word round xs notes) ≡ rounds_of w notes
gathered-below word round [] notes w h = refl
gathered-below word round (x ∷ xs) notes w h =
    gathered-below (word + 1) round xs (note word round x ∷ notes) w (omega arith)
    ∙ rounds_there w word round x notes (λ e. omega arith)

pub gathered-above : (word round : ℕ) (xs : List ℕ) (notes : List Note) (w : ℕ) → word + length xs ≤ w
    → rounds_of w (gathered word round xs notes) ≡ rounds_of w notes
gathered-above word round [] notes w h = refl
gathered-above word round (x ∷ xs) notes w h =
    gathered-above (word + 1) round xs (note word round x ∷ notes) w (omega arith)
    ∙ rounds_there w word round x notes (λ e. omega arith)

-- each word has one more
pub gathered-each : (word round : ℕ) (xs : List ℕ) (notes : List Note) (w : ℕ) → word ≤ w → w < word + length xs
    → length (rounds_of w (gathered word round xs notes)) ≡ length (rounds_of w notes) + 1
gathered-each word round [] notes w h k = absurd (omega arith)
gathered-each word round (x ∷ xs) notes w h k =
    dite (ℕ_discrete word w)
    (λ (e : word ≡ w).
    ap length (gathered-below (word + 1) round xs (note word round x ∷ notes) w (omega arith))
    ∙ rounds_here w word round x notes e)
    (λ (ne : word ≢ w).
    gathered-each (word + 1) round xs (note word round x ∷ notes) w (omega arith) (omega arith)
    ∙ ap (λ l. length l + 1) (rounds_there w word round x notes ne))

pub after_harvests-more : (round : ℕ) (xs : List ℕ) (x : ℕ) (v : View)
    → after_harvests round (xs ++ x ∷ []) v ≡ after_harvest (length xs) round x (after_harvests round xs v)
after_harvests-more round xs x v =
    let here : 0 + length xs ≡ length xs = omega arith in
    let there : 0 + length (map (λ (_ : ℕ). 0) xs) ≡ length xs = omega (arith, length-map {B = ℕ} xs (λ (_ : ℕ). 0)) in
    let harvests : gathered 0 round (xs ++ x ∷ []) v.harvests
    ≡ note (length xs) round x ∷ gathered 0 round xs v.harvests =
    gathered-more 0 round xs x v.harvests ∙ ap (λ w. note w round x ∷ gathered 0 round xs v.harvests) here in
    let rounds : gathered 0 (round + 1) (map (λ (_ : ℕ). 0) (xs ++ x ∷ [])) v.rounds
    ≡ note (length xs) (round + 1) 0 ∷ gathered 0 (round + 1) (map (λ (_ : ℕ). 0) xs) v.rounds =
    ap (λ l. gathered 0 (round + 1) l v.rounds) (map-append (λ (_ : ℕ). 0) xs (x ∷ []))
    ∙ gathered-more 0 (round + 1) (map (λ (_ : ℕ). 0) xs) 0 v.rounds
    ∙ ap (λ w. note w (round + 1) 0 ∷ gathered 0 (round + 1) (map (λ (_ : ℕ). 0) xs) v.rounds) there in
    λ i. record v { harvests = harvests i; rounds = rounds i }

-- ---- two lists of notes

pub noted_left : (w r p : ℕ) (xs ys : List Note) → IsNoted w r p xs → IsNoted w r p (xs ++ ys)
noted_left w r p [] ys h = absurd h
noted_left w r p (x ∷ xs) ys (inl h) = inl h
noted_left w r p (x ∷ xs) ys (inr h) = inr (noted_left w r p xs ys h)

pub noted_right : (w r p : ℕ) (xs ys : List Note) → IsNoted w r p ys → IsNoted w r p (xs ++ ys)
noted_right w r p [] ys h = h
noted_right w r p (x ∷ xs) ys h = inr (noted_right w r p xs ys h)

pub noted_either : (w r p : ℕ) (xs ys : List Note) → IsNoted w r p (xs ++ ys) → IsNoted w r p xs ⊎ IsNoted w r p ys
noted_either w r p [] ys h = inr h
noted_either w r p (x ∷ xs) ys (inl h) = inl (inl h)
noted_either w r p (x ∷ xs) ys (inr h) = ⊎_elim (λ k. inl (inr k)) (λ k. inr k) (noted_either w r p xs ys h)

pub greatest-append : (w : ℕ) (xs ys : List Note)
    → greatest_of w (xs ++ ys) ≡ max (greatest_of w xs) (greatest_of w ys)
greatest-append w [] ys = omega arith
greatest-append w (x ∷ xs) ys =
    let rest = greatest-append w xs ys in
    dite (ℕ_discrete x.word w) (λ e. rw (eq-eqb x.word w e) (omega (arith, rest))) (λ ne. rw (ne_eqb x.word w ne) rest)

greatest_here : (w v round pages : ℕ) (notes : List Note) → v ≡ w
    → round ≤ greatest_of w (note v round pages ∷ notes)
greatest_here w v round pages notes e = rw (eq-eqb v w e) (omega arith)

pub gathered-greatest : (word round : ℕ) (xs : List ℕ) (notes : List Note) (w : ℕ)
    → greatest_of w notes ≤ greatest_of w (gathered word round xs notes)
gathered-greatest word round [] notes w = omega arith
gathered-greatest word round (x ∷ xs) notes w =
    let first = greatest-append w (note word round x ∷ []) notes in
    let rest = gathered-greatest (word + 1) round xs (note word round x ∷ notes) w in omega (arith, first, rest)

pub gathered-seen : (word round : ℕ) (xs : List ℕ) (notes : List Note) (w : ℕ) → word ≤ w → w < word + length xs
    → round ≤ greatest_of w (gathered word round xs notes)
gathered-seen word round [] notes w h k = absurd (omega arith)
gathered-seen word round (x ∷ xs) notes w h k =
    dite (ℕ_discrete word w)
    (λ (e : word ≡ w).
    let first = greatest_here w word round x notes e in
    let rest = gathered-greatest (word + 1) round xs (note word round x ∷ notes) w in omega (arith, first, rest))
    (λ (ne : word ≢ w). gathered-seen (word + 1) round xs (note word round x ∷ notes) w (omega arith) (omega arith))
