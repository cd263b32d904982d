-- What holds of regions that are put in and taken out, and of the number of binary digits.
use Rattle.std.proofs.Common.{◌≡◌, ℕ, zero, suc, ◌+◌, ◌/◌, ◌^◌, ◌<◌, ◌≤◌, nat_lt, Bool, true, false, cond}
use Rattle.std.proofs.Common.{List, [], ◌∷◌, length, get_or, slice_get, Option, Some, None}
use Rattle.std.proofs.Common.{refl, sym, ap, subst, ◌∙◌, arith, inl, inr}
use Rattle.std.proofs.lemmas.Bool.{cases_Bool}
use Rattle.std.proofs.lemmas.Bool.Decides.{nat_tests}
use Rattle.std.proofs.lemmas.List.Elements.{All-tail}
use Rattle.std.proofs.lemmas.Nat.{pow-add}
use Rattle.std.proofs.lemmas.Option.{none-some, same_Some}
use Rattle.std.specs.List.{All, insert, remove}
use Rattle.vm_memory_guest.specs.Layout.{inserted, is_exactly, after_first, removed, digits_within, binary_digits}
use Rattle.vm_memory_guest.specs.Region.{Region, IsRegion, IsLayout}
use Rattle.vm_memory_guest.proofs.RegionLaws.{layout-ascends}

pub IsLayout-tail : (r : Region) (rs : List Region) → IsLayout (r ∷ rs) → IsLayout rs
IsLayout-tail r [] h = tt
IsLayout-tail r (s ∷ rs) h = h.1

-- the place of a region that is put into a layout
abbrev IsPlace : List Region → Region → ℕ → Type 0
IsPlace rs new n = (n ≤ length rs) × (inserted (λ r. r) rs new ≡ insert rs n new)
    × ((k : ℕ) (d : Region) → k < n → (get_or rs k d).start ≤ new.start)
    × ((k : ℕ) (d : Region) → n ≤ k → k < length rs → new.start < (get_or rs k d).start)

abbrev HasPlace : List Region → Region → Type 0
HasPlace rs new = (n : ℕ) × (n ≤ length rs) × (inserted (λ r. r) rs new ≡ insert rs n new)
    × ((k : ℕ) (d : Region) → k < n → (get_or rs k d).start ≤ new.start)
    × ((k : ℕ) (d : Region) → n ≤ k → k < length rs → new.start < (get_or rs k d).start)

place-first : (r : Region) (rs : List Region) (new : Region) → All IsRegion (r ∷ rs) → IsLayout (r ∷ rs)
    → nat_lt new.start r.start ≡ true → IsPlace (r ∷ rs) new 0
place-first r rs new each h t =
    let low : new.start < r.start = grind (arith, nat_tests) in (
      omega arith,
      rw t refl,
      λ k d l. absurd (omega arith),
      λ k d l m. let up = layout-ascends (r ∷ rs) each h 0 k d (omega arith) m in omega arith,
    )

place-later : (r : Region) (rs : List Region) (new : Region) (n : ℕ) → nat_lt new.start r.start ≡ false
    → IsPlace rs new n → IsPlace (r ∷ rs) new (suc n)
place-later r rs new n f at =
    let high : r.start ≤ new.start = grind (arith, nat_tests) in
    let below : (k : ℕ) (d : Region) → k < suc n → (get_or (r ∷ rs) k d).start ≤ new.start =
    λ k d l. below_at k d l in
    (omega (arith, at.0), rw f (ap (λ ys. r ∷ ys) at.1), below, above_at)
  where
    below_at : (k : ℕ) (d : Region) → k < suc n → (get_or (r ∷ rs) k d).start ≤ new.start
    below_at zero d l = grind (arith, nat_tests)
    below_at (suc k) d l = at.2 k d (omega arith)

    above_at : (k : ℕ) (d : Region) → suc n ≤ k → k < length (r ∷ rs) → new.start < (get_or (r ∷ rs) k d).start
    above_at zero d l m = absurd (omega arith)
    above_at (suc k) d l m = at.3 k d (omega arith) (omega arith)

pub has_place : (rs : List Region) (new : Region) → All IsRegion rs → IsLayout rs → HasPlace rs new
has_place [] new each h = (0, omega arith, refl, λ k d l. absurd (omega arith), λ k d l m. absurd (omega arith))
has_place (r ∷ rs) new each h =
    elim (cases_Bool (nat_lt new.start r.start)) [
      | inl t ↦ let at = place-first r rs new each h t in (0, at.0, at.1, at.2, at.3)
      | inr f ↦
          let rest = has_place rs new (All-tail IsRegion r rs each) (IsLayout-tail r rs h) in
          let at = place-later r rs new rest.0 f (rest.1, rest.2, rest.3, rest.4) in
          (suc rest.0, at.0, at.1, at.2, at.3)
    ]

-- a region with just these addresses was taken out, and these are the others
abbrev IsTaken : List Region → ℕ → ℕ → List Region × Region → Type 0
IsTaken rs base size p = (p.1.start ≡ base) × (p.1.len ≡ size)
    × ((n : ℕ) × (slice_get rs n ≡ Some p.1) × (p.0 ≡ remove rs n))

is_exactly-from : (base size : ℕ) (r : Region) → is_exactly base size r ≡ true → (r.start ≡ base) × (r.len ≡ size)
is_exactly-from base size r h = grind (arith, nat_tests)

pub is_exactly-both : (base size : ℕ) (r : Region) → r.start ≡ base → r.len ≡ size → is_exactly base size r ≡ true
is_exactly-both base size r h k = grind (arith, nat_tests)

pub removed-taken : (rs : List Region) (base size : ℕ) (p : List Region × Region)
    → removed (λ r. r) rs base size ≡ Some p → IsTaken rs base size p
removed-taken [] base size p h = absurd (none-some p h)
removed-taken (x ∷ rs) base size p h = by_test (is_exactly base size x) (removed-taken rs base size) refl h
  where
    behind : (o : Option (List Region × Region)) → ((q : List Region × Region) → o ≡ Some q → IsTaken rs base size q)
        → after_first x o ≡ Some p → IsTaken (x ∷ rs) base size p
    behind None rest k = absurd (none-some p k)
    behind (Some q) rest k =
        let t = rest q refl in
        subst (IsTaken (x ∷ rs) base size) (same_Some (x ∷ q.0, q.1) p k)
        (t.0, t.1, (suc t.2.0, t.2.1, ap (λ ys. x ∷ ys) t.2.2))

    by_test : (b : Bool)
        → ((q : List Region × Region) → removed (λ r. r) rs base size ≡ Some q → IsTaken rs base size q)
        → is_exactly base size x ≡ b
        → cond b (Some (rs, x)) (after_first x (removed (λ r. r) rs base size)) ≡ Some p
        → IsTaken (x ∷ rs) base size p
    by_test true rest t k =
        let is = is_exactly-from base size x t in
        subst (IsTaken (x ∷ rs) base size) (same_Some (rs, x) p k) (is.0, is.1, (0, refl, refl))
    by_test false rest f k = behind (removed (λ r. r) rs base size) rest k

pub removed-no_other : (rs : List Region) (base size k : ℕ) (r : Region) → removed (λ r. r) rs base size ≡ None
    → slice_get rs k ≡ Some r → r.start ≡ base → r.len ≡ size → ⊥
removed-no_other [] base size k r h at start len = none-some r at
removed-no_other (x ∷ rs) base size k r h at start len =
    by_test (is_exactly base size x) (λ j e m. removed-no_other rs base size j r e m start len) refl h k at
  where
    behind : (o : Option (List Region × Region)) → after_first x o ≡ None → o ≡ None
    behind None e = refl
    behind (Some q) e = absurd (none-some (x ∷ q.0, q.1) (sym e))

    by_test : (b : Bool)
        → ((j : ℕ) → removed (λ r. r) rs base size ≡ None → slice_get rs j ≡ Some r → ⊥)
        → is_exactly base size x ≡ b
        → cond b (Some (rs, x)) (after_first x (removed (λ r. r) rs base size)) ≡ None
        → (k : ℕ) → slice_get (x ∷ rs) k ≡ Some r → ⊥
    by_test true rest t e k at = none-some (rs, x) (sym e)
    by_test false rest f e zero at =
        let is = same_Some x r at in
        let both = is_exactly-both base size x (ap (λ (q : Region). q.start) is ∙ start)
        (ap (λ (q : Region). q.len) is ∙ len) in
        grind (arith, nat_tests)
    by_test false rest f e (suc k) at = rest k (behind (removed (λ r. r) rs base size) e) at

-- a number is below the power of two of its digits
digits_within-above : (k n : ℕ) → n ≤ k → n < 2 ^ digits_within k n
digits_within-above zero n l = omega arith
digits_within-above (suc k) zero l = omega arith
digits_within-above (suc k) (suc n) l =
    let d = digits_within k (suc n / 2) in
    let h = digits_within-above k (suc n / 2) (omega arith) in
    let twice = pow-add 2 1 d in
    omega (arith, twice, h)

pub binary_digits-above : (n : ℕ) → n < 2 ^ binary_digits n
binary_digits-above n = digits_within-above n n (omega arith)

digits_within-least : (k n d : ℕ) → n < 2 ^ d → digits_within k n ≤ d
digits_within-least zero n d l = omega arith
digits_within-least (suc k) zero d l = omega arith
digits_within-least (suc k) (suc n) zero l = absurd (omega arith)
digits_within-least (suc k) (suc n) (suc d) l =
    let twice = pow-add 2 1 d in
    let same : 1 + d ≡ suc d = omega arith in
    let below : suc n < 2 ^ (1 + d) = rw same l in
    let h = digits_within-least k (suc n / 2) d (omega (arith, twice, below)) in
    omega (arith, h)

pub binary_digits-least : (n d : ℕ) → n < 2 ^ d → binary_digits n ≤ d
binary_digits-least n d l = digits_within-least n n d l
