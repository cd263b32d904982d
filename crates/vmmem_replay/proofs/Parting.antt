-- Lists of lines that are the same so far.
use Rattle.std.proofs.Common.{◌≡◌, ◌⊎◌, ◌∙◌, ℕ, suc, ◌+◌, ◌<◌, ◌≤◌, min, List, [], ◌∷◌, ◌++◌, length, map, take, get_or, inl, inr, sym, ap, refl, add-one, arith, Option, Some, None, unwrap_or, slice_get}
use Rattle.std.proofs.Math.Seq.{take-suc}
use Rattle.std.proofs.lemmas.List.{get_or-map, length-map}
use Rattle.std.proofs.lemmas.Option.{slice_get_cases, unwrap_or-slice_get}

module _ {A : Type 0} (f : A → List ℕ) (xs ys : List A) (n : ℕ) (d : A) (in_xs : n < length xs)
    (in_ys : n < length ys) where
  -- one line more that is the same
  pub same_so_far : take n (map f xs) ≡ take n (map f ys) → f (get_or xs n d) ≡ f (get_or ys n d)
      → take (n + 1) (map f xs) ≡ take (n + 1) (map f ys)
  same_so_far before here =
      let one = take-suc (map f xs) n [] (omega (arith, length-map xs f)) in
      let other = take-suc (map f ys) n [] (omega (arith, length-map ys f)) in
      let x = get_or-map f xs n d [] in_xs in
      let y = get_or-map f ys n d [] in_ys in
      rw (add-one n, one, other, x, y, before, here) refl

  -- a line that is not the same
  pub parts_here : (f (get_or xs n d) ≡ f (get_or ys n d) → ⊥) → slice_get (map f xs) n ≡ slice_get (map f ys) n → ⊥
  parts_here differ e =
      let x = get_or-map f xs n d [] in_xs in
      let y = get_or-map f ys n d [] in_ys in
      differ (sym x ∙ sym (unwrap_or-slice_get (map f xs) n []) ∙ ap (λ o. unwrap_or o []) e
      ∙ unwrap_or-slice_get (map f ys) n [] ∙ y)

-- the end of one list that is shorter than the other
pub parts_at_end : (xs ys : List (List ℕ)) (n : ℕ) → n ≡ min (length xs) (length ys) → (length xs ≡ length ys → ⊥)
    → slice_get xs n ≡ slice_get ys n → ⊥
parts_at_end xs ys n end differ e = go (slice_get_cases xs n).1 (slice_get_cases ys n).1
  where
    go : ((x : List ℕ) × (n < length xs) × (slice_get xs n ≡ Some x) × (get_or xs n x ≡ x))
        ⊎ ((length xs ≤ n) × (slice_get xs n ≡ None))
        → ((y : List ℕ) × (n < length ys) × (slice_get ys n ≡ Some y) × (get_or ys n y ≡ y))
        ⊎ ((length ys ≤ n) × (slice_get ys n ≡ None)) → ⊥
    go (inl (x, a, at, _)) (inl (y, b, bt, _)) = omega (arith, a, b, end)
    go (inl (x, a, at, _)) (inr (b, bt)) = let h : Some x ≡ None = sym at ∙ e ∙ bt in cc
    go (inr (a, at)) (inl (y, b, bt, _)) = let h : Some y ≡ None = sym bt ∙ sym e ∙ at in cc
    go (inr (a, at)) (inr (b, bt)) = differ (omega (arith, a, b, end))
