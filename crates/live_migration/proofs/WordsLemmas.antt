-- Pages as bits of words, and the harvests that have them.
use Rattle.std.proofs.Common.{◌≡◌, ℕ, zero, suc, ◌+◌, ◌*◌, ◌/◌, ◌%◌, ◌<◌, ◌⊎◌, inl, inr, Bool, true, false, List, [], ◌∷◌, ◌++◌, length, get_or, filter, Contains, sym, ap, subst, ◌∙◌, append-nil, arith, zero-add}
use Rattle.std.specs.Int.{bit_at}
use Rattle.std.proofs.lemmas.Bool.{cond-false, cond-true, cond_both, eq-eqb}
use Rattle.std.proofs.lemmas.List.Elements.{filter-append}
use Rattle.vm_memory_base.specs.Address.{numbers}
use Rattle.vm_memory_base.specs.Notes.{IsNoted, Note, gathered, note}
use Rattle.live_migration.specs.Words.{is_set, noted, pages_set}
use Rattle.live_migration.proofs.ImageLemmas.{get_or-numbers, length-numbers}
use Rattle.live_migration.proofs.SenderLemmas.{numbers_more}

-- ---- pages that are listed

in_filter : {X : Type 0} (test : X → Bool) (xs : List X) (x : X) → Contains xs x → test x ≡ true
    → Contains (filter test xs) x
in_filter test [] x (k, l, e) t = absurd (omega arith)
in_filter {X} test (y ∷ ys) x (zero, l, e) t =
    subst (λ (zs : List X). Contains zs x)
    (sym (cond-true _ _ _ (subst (λ (z : X). test z ≡ true) (sym e) t))) (0, omega arith, e)
in_filter {X} test (y ∷ ys) x (suc k, l, e) t =
    let r = in_filter test ys x (k, omega arith, e) t in
    cond_both (test y) (y ∷ filter test ys) (filter test ys) (λ zs. Contains zs x)
    (λ passes. (suc r.0, omega (arith, r.1), r.2)) (λ fails. r)

pub set_listed : (count : ℕ) (words : List ℕ) (word page : ℕ) → page < 32 → 32 * word + page < count
    → bit_at (get_or words word 0) page ≡ 1 → Contains (pages_set count words) (32 * word + page)
set_listed count words word page low below bit =
    let p = 32 * word + page in
    let at : p / 32 ≡ word = omega arith in
    let rest : p % 32 ≡ page = omega arith in
    let set : is_set words p ≡ true =
    eq-eqb _ _ (ap (λ (w : ℕ). bit_at (get_or words w 0) (p % 32)) at
    ∙ ap (λ (b : ℕ). bit_at (get_or words word 0) b) rest ∙ bit) in
    in_filter (is_set words) (numbers 0 count) p
    (p, omega (arith, length-numbers 0 count), get_or-numbers 0 count p p below ∙ zero-add p) set

-- one page more
pub page_set : (words : List ℕ) (page : ℕ) → is_set words page ≡ true
    → pages_set (page + 1) words ≡ pages_set page words ++ page ∷ []
page_set words page t =
    ap (filter (is_set words)) (numbers_more page) ∙ filter-append (is_set words) (numbers 0 page) (page ∷ [])
    ∙ ap (λ (xs : List ℕ). pages_set page words ++ xs) (cond-true _ _ _ t)

pub page_clear : (words : List ℕ) (page : ℕ) → is_set words page ≡ false
    → pages_set (page + 1) words ≡ pages_set page words
page_clear words page t =
    ap (filter (is_set words)) (numbers_more page) ∙ filter-append (is_set words) (numbers 0 page) (page ∷ [])
    ∙ ap (λ (xs : List ℕ). pages_set page words ++ xs) (cond-false _ _ _ t) ∙ append-nil (pages_set page words)

-- ---- notes of harvests

-- a word of these has the page
record InWords (words : List ℕ) (from word page : ℕ) : Type 0 where
  at : ℕ
  within : at < length words
  is : word ≡ from + at
  bit : bit_at (get_or words at 0) page ≡ 1

gathered_in : (words : List ℕ) (from round : ℕ) (notes : List Note) (word r page : ℕ)
    → IsNoted word r page (gathered from round words notes)
    → IsNoted word r page notes ⊎ ((r ≡ round) × InWords words from word page)
gathered_in [] from round notes word r page h = inl h
gathered_in (w ∷ ws) from round notes word r page h =
    elim (gathered_in ws (from + 1) round (note from round w ∷ notes) word r page h) [
      | inl (inl n) ↦
          (let here : word ≡ from + 0 = let e = n.0 in omega arith in
          inr (sym n.1, record { at = 0; within = omega arith; is = here; bit = n.2 }))
      | inl (inr old) ↦ inl old
      | inr (e, f) ↦
          (let is = f.is in
          inr (e, record { at = suc f.at; within = omega (arith, f.within); is = omega arith; bit = f.bit }))
    ]

-- a harvest of this round has the page
pub record InHarvests (harvests : List (ℕ × List ℕ)) (word round page : ℕ) : Type 0 where
  pub words : List ℕ
  pub among : Contains harvests (round, words)
  pub bit : bit_at (get_or words word 0) page ≡ 1

pub noted_in : (hs : List (ℕ × List ℕ)) (word round page : ℕ) → IsNoted word round page (noted hs)
    → InHarvests hs word round page
noted_in [] word round page h = absurd h
noted_in (x ∷ hs) word round page h =
    elim (gathered_in x.1 0 x.0 (noted hs) word round page h) [
      | inl earlier ↦
          (let r = noted_in hs word round page earlier in
          let a = r.among in
          record { words = r.words; among = (suc a.0, omega (arith, a.1), a.2); bit = r.bit })
      | inr (e, f) ↦
          (let at : f.at ≡ word = let is = f.is in omega arith in
          record {
            words = x.1;
            among = (0, omega arith, ap (λ (n : ℕ). (n, x.1)) (sym e));
            bit = ap (λ (i : ℕ). bit_at (get_or x.1 i 0) page) (sym at) ∙ f.bit;
          })
    ]
