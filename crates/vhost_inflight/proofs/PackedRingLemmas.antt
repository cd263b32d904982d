-- Positions in a packed ring, and what its slots' flags say.
use Rattle.std.proofs.Common.{◌≡◌, ℕ, zero, suc, ◌+◌, ◌-◌, ◌<◌, ◌≤◌, Bool, true, false, not, ◌&&◌, refl, sym, ap, subst, ◌∙◌, inl, inr, arith}
use Rattle.std.proofs.lemmas.Bool.{cases_lt, eq-eqb, ne_eqb, lt-ltb, le-ltb, and_left}
use Rattle.std.specs.Prelude.{if◌then◌else◌}
use Rattle.vhost_inflight.specs.Packed.{moved}
use Rattle.vhost_inflight.specs.PackedCrash.{position, used_flags}
use Rattle.vhost_inflight.specs.PackedStart.{available_flags, is_available, is_same}
use Rattle.vhost_inflight.specs.declared.packed_region.PackedPosition.{PackedPosition}

abbrev pub at : ℕ → Bool → PackedPosition
at slot wrap = record { slot = slot; wrap = wrap }

-- a move within the ring, and one past its end
moved-inside : (size : ℕ) (p : PackedPosition) (n : ℕ) → n < size - p.slot → moved size p n ≡ at (p.slot + n) p.wrap
moved-inside size p n l = rw (lt-ltb n (size - p.slot) l) refl

moved-past : (size : ℕ) (p : PackedPosition) (n : ℕ) → size - p.slot ≤ n
    → moved size p n ≡ at (n - (size - p.slot)) (not p.wrap)
moved-past size p n l = rw (le-ltb n (size - p.slot) l) refl

moved_slot : (size : ℕ) (p : PackedPosition) (n : ℕ) → p.slot < size → n ≤ size → (moved size p n).slot < size
moved_slot size p n l few = elim (cases_lt n (size - p.slot)) [
  | inl inside ↦ rw (moved-inside size p n inside) (omega arith)
  | inr past ↦ rw (moved-past size p n past) (omega arith)
]

pub position_slot : (size n : ℕ) → 0 < size → (position size n).slot < size
position_slot size zero some = some
position_slot size (suc n) some = moved_slot size (position size n) 1 (position_slot size n some) (omega arith)

moved-more : (size : ℕ) (p : PackedPosition) (n : ℕ) → p.slot < size → n + 1 ≤ size
    → moved size p (n + 1) ≡ moved size (moved size p n) 1
moved-more size p n l few = elim (cases_lt n (size - p.slot)) [
  | inl inside ↦ elim (cases_lt (n + 1) (size - p.slot)) [
    | inl further ↦
        moved-inside size p (n + 1) further
        ∙ (ap (λ (s : ℕ). at s p.wrap) (omega arith)
        ∙ (sym (moved-inside size (at (p.slot + n) p.wrap) 1 (omega arith))
        ∙ ap (λ (q : PackedPosition). moved size q 1) (sym (moved-inside size p n inside))))
    | inr end ↦
        moved-past size p (n + 1) end
        ∙ (ap (λ (s : ℕ). at s (not p.wrap)) (omega arith)
        ∙ (sym (moved-past size (at (p.slot + n) p.wrap) 1 (omega arith))
        ∙ ap (λ (q : PackedPosition). moved size q 1) (sym (moved-inside size p n inside))))
  ]
  | inr past ↦
      moved-past size p (n + 1) (omega arith)
      ∙ (ap (λ (s : ℕ). at s (not p.wrap)) (omega arith)
      ∙ (sym (moved-inside size (at (n - (size - p.slot)) (not p.wrap)) 1 (omega arith))
      ∙ ap (λ (q : PackedPosition). moved size q 1) (sym (moved-past size p n past))))
]

-- a position so many slots further
pub position-moved : (size q n : ℕ) → 0 < size → n ≤ size → moved size (position size q) n ≡ position size (q + n)
position-moved size q zero some few =
    let l = position_slot size q some in
    moved-inside size (position size q) 0 (omega arith)
    ∙ (ap (λ (s : ℕ). at s (position size q).wrap) (omega arith) ∙ ap (λ (n : ℕ). position size n) (omega arith))
position-moved size q (suc n) some few =
    let first : moved size (position size q) n ≡ position size (q + n) =
    position-moved size q n some (omega arith) in
    let e : suc n ≡ n + 1 = omega arith in
    let f : suc (q + n) ≡ q + suc n = omega arith in
    subst (λ (m : ℕ). moved size (position size q) m ≡ moved size (moved size (position size q) n) 1) (sym e)
    (moved-more size (position size q) n (position_slot size q some) (omega arith))
    ∙ (ap (λ (p : PackedPosition). moved size p 1) first ∙ ap (λ (n : ℕ). position size n) f)

moved_apart : (size : ℕ) (p : PackedPosition) (n : ℕ) → p.slot < size → 0 < n → n < size
    → (moved size p n).slot ≡ p.slot → ⊥
moved_apart size p n l some few same = elim (cases_lt n (size - p.slot)) [
  | inl inside ↦ let e : p.slot + n ≡ p.slot = rw (moved-inside size p n inside) at same in absurd (omega arith)
  | inr past ↦ let e : n - (size - p.slot) ≡ p.slot = rw (moved-past size p n past) at same in absurd (omega arith)
]

-- two slots less than a round apart
pub slots_apart : (size q n : ℕ) → 0 < n → n < size → (position size (q + n)).slot ≡ (position size q).slot → ⊥
slots_apart size q n some few same =
    moved_apart size (position size q) n (position_slot size q (omega arith)) some few
    (ap (λ (p : PackedPosition). p.slot) (position-moved size q n (omega arith) (omega arith)) ∙ same)

-- the same slot a round later
pub round : (size q : ℕ) → 0 < size
    → position size (q + size) ≡ at (position size q).slot (not (position size q).wrap)
round size q some =
    let l = position_slot size q some in
    sym (position-moved size q size some (omega arith))
    ∙ (moved-past size (position size q) size (omega arith)
    ∙ ap (λ (s : ℕ). at s (not (position size q).wrap)) (omega arith))

-- ---- the same position

same_wrap : (b : Bool) → (if b then b else not b) ≡ true
same_wrap true = refl
same_wrap false = refl

other_wrap : (b : Bool) → (if b then not b else not (not b)) ≡ false
other_wrap true = refl
other_wrap false = refl

pub same_here : (p : PackedPosition) → is_same p p ≡ true
same_here p = rw (eq-eqb p.slot p.slot refl) (same_wrap p.wrap)

and_right_no : (a b : Bool) → b ≡ false → (a && b) ≡ false
and_right_no true b e = e
and_right_no false b e = refl

pub same_apart : (size q n : ℕ) → 0 < n → n ≤ size → is_same (position size (q + n)) (position size q) ≡ false
same_apart size q n some few = elim (cases_lt n size) [
  | inl l ↦ and_left _ _ (ne_eqb (position size (q + n)).slot (position size q).slot (slots_apart size q n some l))
  | inr whole ↦
      let e : q + n ≡ q + size = omega arith in
      let flipped : (b : Bool) → (if not b then b else not b) ≡ false = flips in
      rw e (rw (round size q (omega arith)) (and_right_no _ _ (flipped (position size q).wrap)))
]
  where
    flips : (b : Bool) → (if not b then b else not b) ≡ false
    flips true = refl
    flips false = refl

-- ---- flags

pub available_here : (wrap : Bool) → is_available (available_flags wrap) wrap ≡ true
available_here true = refl
available_here false = refl

pub available_later : (wrap : Bool) → is_available (available_flags (not wrap)) wrap ≡ false
available_later true = refl
available_later false = refl

pub used_here : (wrap : Bool) → is_available (used_flags wrap) wrap ≡ false
used_here true = refl
used_here false = refl
