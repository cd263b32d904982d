-- Numbers that are put into bytes one after another.
use Rattle.std.proofs.Common.{suc, arith, ◌≡◌, ◌∙◌, ◌+◌, ◌*◌, ◌<◌, ◌≤◌, ℕ, List, [], ◌∷◌, ◌++◌, length, take, drop, get_or, flat_map, append_assoc, sym, ap, subst, length-append, length-take-le}
use Rattle.std.proofs.Math.Seq.{take-append_seam, drop-append-add}
use Rattle.std.proofs.lemmas.List.{drop-drop, take_more, flat_map_more}

-- bytes that are put after a front
put_seam : (front rest bytes : List ℕ) (n : ℕ)
    → take (length front) (front ++ rest) ++ (bytes ++ drop (length front + n) (front ++ rest))
    ≡ (front ++ bytes) ++ drop n rest
put_seam front rest bytes n =
    ap (λ l. l ++ (bytes ++ drop (length front + n) (front ++ rest))) (take-append_seam front rest)
    ∙ ap (λ l. front ++ (bytes ++ l)) (drop-append-add front rest n)
    ∙ sym (append_assoc front bytes (drop n rest))

pub put_after : (front old bytes : List ℕ) (at n : ℕ) → length front ≡ at
    → take at (front ++ drop at old) ++ (bytes ++ drop (at + n) (front ++ drop at old))
    ≡ (front ++ bytes) ++ drop (at + n) old
put_after front old bytes at n is_at =
    subst (λ k. take k (front ++ drop at old) ++ (bytes ++ drop (k + n) (front ++ drop at old))
    ≡ (front ++ bytes) ++ drop (at + n) old) is_at
    (put_seam front (drop at old) bytes n ∙ ap (λ l. (front ++ bytes) ++ l) (drop-drop n at old))

one_more : (k n : ℕ) → n + k * n ≡ (suc k) * n
one_more k n = grind arith

module _ {X : Type 0} (f : X → List ℕ) (n : ℕ) (all : (x : X) → length (f x) ≡ n) where
  pub items_length : (xs : List X) → length (flat_map f xs) ≡ length xs * n
  items_length [] = omega arith
  items_length (x ∷ xs) =
      length-append (f x) (flat_map f xs) ∙ ap (λ k. k + length (flat_map f xs)) (all x)
      ∙ ap (λ k. n + k) (items_length xs) ∙ one_more (length xs) n

  -- one item more is put
  pub item_put : (xs : List X) (old : List ℕ) (i at : ℕ) (x : X) → i < length xs → at ≡ i * n → x ≡ get_or xs i x
      → take at (flat_map f (take i xs) ++ drop at old)
      ++ (f x ++ drop (at + n) (flat_map f (take i xs) ++ drop at old))
      ≡ flat_map f (take (i + 1) xs) ++ drop (at + n) old
  item_put xs old i at x within is_at is_x =
      put_after (flat_map f (take i xs)) old (f x) at n
      (items_length (take i xs) ∙ ap (λ k. k * n) (length-take-le i xs (omega arith)) ∙ sym is_at)
      ∙ ap (λ l. l ++ drop (at + n) old) (flat_map_more f [] (take i xs) x
      ∙ ap (flat_map f) (ap (λ y. take i xs ++ y ∷ []) is_x ∙ sym (take_more xs i x within)))

-- two numbers that are put one after the other
pub two_put : (old a b : List ℕ) (at next end : ℕ) → length a ≡ 8 → next ≡ at + 8 → end ≡ next + 8 → next ≤ length old
    → take next (take at old ++ (a ++ drop next old))
    ++ (b ++ drop end (take at old ++ (a ++ drop next old)))
    ≡ take at old ++ ((a ++ b) ++ drop end old)
two_put old a b at next end len is_next is_end within =
    rw is_end (
    ap (λ o. take next o ++ (b ++ drop (next + 8) o)) (sym (append_assoc (take at old) a (drop next old)))
    ∙ put_after (take at old ++ a) old b next 8
    (length-append (take at old) a ∙ ap (λ k. length (take at old) + k) len
    ∙ ap (λ k. k + 8) (length-take-le at old (omega arith)) ∙ sym is_next)
    ∙ ap (λ l. l ++ drop (next + 8) old) (append_assoc (take at old) a b)
    ∙ append_assoc (take at old) (a ++ b) (drop (next + 8) old))
