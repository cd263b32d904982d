-- Bytes that are zero.
use Rattle.std.proofs.Common.{◌≡◌, ℕ, zero, suc, ◌+◌, ◌-◌, ◌*◌, ◌<◌, ◌≤◌, ◌⊎◌, ◌&&◌, min, Result, Ok, Err, OnOk, Bool, true, false, eqb, List, [], ◌∷◌, length, get_or, take, drop, replicate, refl, sym, ap, ◌∙◌, inl, inr, arith}
use Rattle.std.specs.List.{list_all}
use Rattle.std.specs.Simd.{first_chunks}
use Rattle.std.proofs.lemmas.Bool.{cases_lt, cond-true, cond-false, eqb-true, and_parts}
use Rattle.std.proofs.lemmas.List.{drop-drop, ext_get_or, get_or-drop, get_or-take, length-drop, length-take, take-append-drop, take_all}
use Rattle.std.proofs.lemmas.List.Folds.{list_all-append}
use Rattle.live_migration.specs.Image.{are_zero, page_bytes, placed}
use Rattle.live_migration.proofs.ImageLemmas.{get_or-placed, length-placed, is_before, is_after, is_inside}

pub zeros_are : (bs : List ℕ) → are_zero bs ≡ true → bs ≡ replicate (length bs) 0
zeros_are [] e = refl
zeros_are (b ∷ bs) e =
    let p = and_parts (eqb b 0) (are_zero bs) e in
    ap (λ (x : ℕ). x ∷ bs) (eqb-true b 0 p.0) ∙ ap (λ (xs : List ℕ). 0 ∷ xs) (zeros_are bs p.1)

-- all are zero if each of the first k pieces is, and the rest
pub chunks_zero : (n k : ℕ) (xs : List ℕ)
    → are_zero xs ≡ (list_all (λ w. are_zero w) (first_chunks n k xs) && are_zero (drop (k * n) xs))
chunks_zero n zero xs = ap (λ (m : ℕ). are_zero (drop m xs)) (let none : 0 ≡ 0 * n = omega arith in none)
chunks_zero n (suc k) xs =
    let more : n + k * n ≡ suc k * n = omega arith in
    ap are_zero (sym (take-append-drop n xs)) ∙ list_all-append (λ (b : ℕ). eqb b 0) (take n xs) (drop n xs)
    ∙ ap (λ (b : Bool). are_zero (take n xs) && b) (chunks_zero n k (drop n xs)
    ∙ ap (λ (ys : List ℕ). list_all (λ w. are_zero w) (first_chunks n k (drop n xs)) && are_zero ys)
    (drop-drop (k * n) n xs ∙ ap (λ (m : ℕ). drop m xs) more))
    ∙ and_three (are_zero (take n xs)) (list_all (λ w. are_zero w) (first_chunks n k (drop n xs)))
    (are_zero (drop (suc k * n) xs))
  where
    and_three : (a b c : Bool) → (a && (b && c)) ≡ ((a && b) && c)
    and_three true b c = refl
    and_three false b c = refl

-- the bytes of a page, up to the end of a block
pub cut_page : (size page n : ℕ) (bytes : List ℕ) → n ≡ min size (length bytes - page * size)
    → take n (drop (page * size) bytes) ≡ page_bytes size page bytes
cut_page size page n bytes cut = elim (cases_lt size (length bytes - page * size)) [
  | inl short ↦ ap (λ (m : ℕ). take m (drop (page * size) bytes)) (let same : n ≡ size = omega arith in same)
  | inr long ↦
      take_all n (drop (page * size) bytes) (omega (arith, length-drop (page * size) bytes))
      ∙ sym (take_all size (drop (page * size) bytes) (omega (arith, length-drop (page * size) bytes)))
]

-- what is marked if bytes are, or they are zero
pub marked_or_zero : {T E : Type 0} (P Q : Type 0) (r : Result T E) (bytes : List ℕ) → OnOk r (P → Q)
    → (are_zero bytes ≡ false → P) → OnOk r ((are_zero bytes ≡ true) ⊎ Q)
marked_or_zero P Q (Err e) bytes q p = tt
marked_or_zero P Q (Ok x) bytes q p = elim (zero_or_not (are_zero bytes)) [ inl z ↦ inl z | inr w ↦ inr (q (p w)) ]
  where
    zero_or_not : (b : Bool) → (b ≡ true) ⊎ (b ≡ false)
    zero_or_not true = inl refl
    zero_or_not false = inr refl

pub some_written : (n : ℕ) (bytes : List ℕ) → are_zero (take n bytes) ≡ false → 0 < n
some_written zero bytes e = absurd (cc)
some_written (suc n) bytes e = omega arith

-- ---- zeros that are there

-- what is there, put there again
placed_own : (at n : ℕ) (image : List ℕ) → at + n ≤ length image → placed at (take n (drop at image)) image ≡ image
placed_own at n image room =
    let own = take n (drop at image) in
    let len : length own ≡ n = omega (arith, length-take n (drop at image), length-drop at image) in
    ext_get_or 0 (placed at own image) image (length-placed at own image)
    (λ k within. let l : k < length image = omega (arith, length-placed at own image) in
    get_or-placed at own image k l ∙ elim (cases_lt k at) [
      | inl low ↦ cond-false _ _ _ (is_before at (length own) k low)
      | inr high ↦ elim (cases_lt k (at + n)) [
        | inl inside ↦
            cond-true _ _ _ (is_inside at (length own) k high (omega (arith, len)))
            ∙ get_or-take n (drop at image) (k - at) 0 (omega arith) ∙ get_or-drop at image (k - at) 0
            ∙ ap (λ (i : ℕ). get_or image i 0) (let same : at + (k - at) ≡ k = omega arith in same)
        | inr behind ↦ cond-false _ _ _ (is_after at (length own) k (omega (arith, len)))
      ]
    ])

-- some of many zeros
pub some_zeros : (n : ℕ) (zeros : List ℕ) → zeros ≡ replicate (length zeros) 0 → n ≤ length zeros
    → take n zeros ≡ replicate n 0
some_zeros n zeros none l =
    ap (take n) none ∙ few n (length zeros) l
  where
    few : (n k : ℕ) → n ≤ k → take n (replicate {A = ℕ} k 0) ≡ replicate n 0
    few zero k l = refl
    few (suc n) zero l = absurd (omega arith)
    few (suc n) (suc k) l = ap (λ (xs : List ℕ). 0 ∷ xs) (few n k (omega arith))

pub zeros_stay : (at n : ℕ) (zeros image : List ℕ) → at + n ≤ length image → zeros ≡ replicate n 0
    → are_zero (take n (drop at image)) ≡ true → placed at zeros image ≡ image
zeros_stay at n zeros image room none all =
    let own = take n (drop at image) in
    let len : length own ≡ n = omega (arith, length-take n (drop at image), length-drop at image) in
    let same : zeros ≡ own = none ∙ ap (λ (m : ℕ). replicate m 0) (sym len) ∙ sym (zeros_are own all) in
    ap (λ (x : List ℕ). placed at x image) same ∙ placed_own at n image room
