-- Bytes of a reply that come piece by piece.
use Rattle.std.proofs.Common.{◌≡◌, ℕ, ◌+◌, ◌≤◌, List, ◌++◌, length, take, Option, sym, ap, ap₂, subst, ◌∙◌, le_refl, drop_at, length-take-le}
use Rattle.std.proofs.lemmas.Slice.{take-put_mid_below}
use Rattle.std.proofs.KnownBytes.{Consumes-kept, Consumes-trans}
use Rattle.std.specs.Io.KnownBytes.{Consumes, Keeps}
use borrow.Rule.Slice.PartMut.{post_of, put_mid}
use lib.Seq.{take-add, take-append-le}

module _ (at room : ℕ) (bytes came : List ℕ) (within : at ≤ length bytes) where
  -- the bytes before those that came, and the first of these
  taken_more : (count : ℕ) → count ≤ length came
      → take (at + count) (put_mid at room bytes came) ≡ take at bytes ++ take count came
  taken_more count fits =
      let rest = post_of at room bytes in
      take-add at count (put_mid at room bytes came)
      ∙ ap₂ (λ (x y : List ℕ). x ++ y) (take-put_mid_below at room bytes came at (le_refl at) within)
      (ap (take count) (drop_at (take at bytes) (came ++ rest) at (length-take-le at bytes within))
      ∙ take-append-le count came rest fits)

  module _ (a b c : Option (List ℕ)) (before : Consumes a b (take at bytes)) where
    pub consumes_more : (count : ℕ) → count ≤ length came → Consumes b c (take count came)
        → Consumes a c (take (at + count) (put_mid at room bytes came))
    consumes_more count fits now = subst (λ (xs : List ℕ). Consumes a c xs) (sym (taken_more count fits))
        (Consumes-trans a b c (take at bytes) (take count came) before now)

    pub consumes_kept : Keeps b c → Consumes a c (take at (put_mid at room bytes came))
    consumes_kept now = subst (λ (xs : List ℕ). Consumes a c xs)
        (sym (take-put_mid_below at room bytes came at (le_refl at) within))
        (Consumes-kept a b c (take at bytes) before now)
