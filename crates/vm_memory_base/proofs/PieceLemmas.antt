-- Pieces of the bytes of a value that are replaced.
use Rattle.std.proofs.Common.{◌≡◌, ℕ, ◌+◌, List, ◌++◌, ◌<◌, take, drop, set, get_or, length, refl, sym, ◌∙◌, ap, arith}
use Rattle.std.proofs.lemmas.List.{take-append-drop, drop-drop, append_assoc, drop-set-lt, drop-set-add, take_more, take_more_set, length-drop}

-- a list whose front and back are those of another, with a piece in between
pub piece_put : (xs ys piece : List ℕ) (from : ℕ) → take from ys ≡ take from xs
    → take (length piece) (drop from ys) ≡ piece
    → drop (from + length piece) ys ≡ drop (from + length piece) xs
    → ys ≡ take from xs ++ piece ++ drop (from + length piece) xs
piece_put xs ys piece from front middle back =
    let n = length piece in
    let rest : drop from ys ≡ piece ++ drop (from + n) xs =
    sym (take-append-drop n (drop from ys)) ∙ rw (middle, drop-drop n from ys, back) refl in
    sym (take-append-drop from ys) ∙ rw (front, rest) (sym (append_assoc (take from xs) piece (drop (from + n) xs)))

-- one byte more is replaced: what lies after it stays
pub drop-more_set : (xs ys zs : List ℕ) (from i x : ℕ) → drop (from + i) xs ≡ drop (from + i) zs
    → ys ≡ set xs (from + i) x
    → drop (from + (i + 1)) ys ≡ drop (from + (i + 1)) zs
drop-more_set xs ys zs from i x same e =
    let below : from + i < from + (i + 1) = omega arith in
    let next : from + (i + 1) ≡ from + i + 1 = omega arith in
    ap (drop (from + (i + 1))) e ∙ drop-set-lt (from + (i + 1)) xs (from + i) x below
    ∙ rw next (sym (drop-drop 1 (from + i) xs) ∙ ap (drop 1) same ∙ drop-drop 1 (from + i) zs)

-- and itself is there, after those that were replaced before
pub take-more_set : (xs ys piece : List ℕ) (from i : ℕ) → from + i < length xs → i < length piece
    → take i (drop from xs) ≡ take i piece
    → ys ≡ set xs (from + i) (get_or piece i 0) → take (i + 1) (drop from ys) ≡ take (i + 1) piece
take-more_set xs ys piece from i inside within same e =
    let there : i < length (drop from xs) = omega (arith, length-drop from xs) in
    ap (λ (zs : List ℕ). take (i + 1) (drop from zs)) e
    ∙ rw (drop-set-add from xs i (get_or piece i 0), take_more_set (drop from xs) i (get_or piece i 0) there, same)
    (sym (take_more piece i 0 within))
