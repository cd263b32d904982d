-- Where two lists of lines part.
use Rattle.std.specs.Prelude.{◌≡◌, ℕ, List, take, slice_get}

-- the lists have the same first `n` lines, and at place `n` not the same line, or one of them has none
abbrev pub PartAt : List (List ℕ) → List (List ℕ) → ℕ → Type 0
PartAt xs ys n = (take n xs ≡ take n ys) × ¬ (slice_get xs n ≡ slice_get ys n)
