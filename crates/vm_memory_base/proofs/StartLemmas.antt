-- Runs by where they start.
use Rattle.std.proofs.Common.{◌≡◌, ℕ, ◌+◌, ◌<◌, ◌≤◌, Bool, true, false, ltb, leb, List, [], ◌∷◌, ◌++◌, refl, ap, inl, inr, ◌∙◌, arith}
use Rattle.std.proofs.lemmas.Bool.{lt-ltb, le-ltb, cases_lt, cases_Bool}
use Rattle.std.proofs.lemmas.List.{append-nil}
use Rattle.std.proofs.lemmas.List.Elements.{filter-append}
use Rattle.vm_memory_base.specs.Change.{StartFrom, AreAscending, runs_below, runs_from}
use Rattle.vm_memory_base.specs.Runs.{AddressRun, IsCanonical}
use Rattle.vm_memory_base.proofs.ChangeLemmas.{StartFrom-weaker, tail_starts}
use Rattle.vm_memory_base.proofs.RunsLaws.{canonical_pos, canonical_tail}

-- each run starts below a limit
abbrev pub StartsBelow : {K : Type 0} → ℕ → List (AddressRun K) → Type 0
StartsBelow limit [] = Unit {0}
StartsBelow limit (r ∷ rs) = (r.start < limit) × StartsBelow limit rs

-- ---- the runs below an address, and those from one on

pub below-none : {K : Type 0} (k : ℕ) (rs : List (AddressRun K)) → StartFrom k rs → runs_below k rs ≡ []
below-none k [] s = refl
below-none k (r ∷ rs) s = rw (le-ltb r.start k s.0) (below-none k rs s.1)

pub below-all : {K : Type 0} (k : ℕ) (rs : List (AddressRun K)) → StartsBelow k rs → runs_below k rs ≡ rs
below-all k [] s = refl
below-all k (r ∷ rs) s = rw (lt-ltb r.start k s.0, below-all k rs s.1)

pub from-all : {K : Type 0} (k : ℕ) (rs : List (AddressRun K)) → StartFrom k rs → runs_from k rs ≡ rs
from-all k [] s = refl
from-all k (r ∷ rs) s =
    let t : leb k r.start ≡ true = grind (arith) in
    rw (t, from-all k rs s.1)

pub from-none : {K : Type 0} (k : ℕ) (rs : List (AddressRun K)) → StartsBelow k rs → runs_from k rs ≡ []
from-none k [] s = refl
from-none k (r ∷ rs) s =
    let t : leb k r.start ≡ false = grind (arith) in
    rw t (from-none k rs s.1)

pub below_starts : {K : Type 0} (k : ℕ) (rs : List (AddressRun K)) → StartsBelow k (runs_below k rs)
below_starts k [] = tt
below_starts k (r ∷ rs) =
    elim (cases_lt r.start k) [
      | inl l ↦ rw (lt-ltb r.start k l) (l, below_starts k rs)
      | inr l ↦ rw (le-ltb r.start k l) (below_starts k rs)
    ]

pub from_starts : {K : Type 0} (k : ℕ) (rs : List (AddressRun K)) → StartFrom k (runs_from k rs)
from_starts k [] = tt
from_starts k (r ∷ rs) =
    elim (cases_lt r.start k) [
      | inl l ↦ let t : leb k r.start ≡ false = grind (arith) in rw t (from_starts k rs)
      | inr l ↦ let t : leb k r.start ≡ true = grind (arith) in rw t (l, from_starts k rs)
    ]

pub StartsBelow-weaker : {K : Type 0} (low high : ℕ) (rs : List (AddressRun K)) → low ≤ high → StartsBelow low rs
    → StartsBelow high rs
StartsBelow-weaker low high [] l s = tt
StartsBelow-weaker low high (r ∷ rs) l s = (omega arith, StartsBelow-weaker low high rs l s.1)

-- where runs are put together of some below an address and some from it on
pub below_of : {K : Type 0} (k : ℕ) (xs ys : List (AddressRun K)) → StartsBelow k xs → StartFrom k ys
    → runs_below k (xs ++ ys) ≡ xs
below_of k xs ys b s =
    filter-append (λ r. ltb r.start k) xs ys ∙ rw (below-all k xs b, below-none k ys s) (append-nil xs)

pub from_of : {K : Type 0} (k : ℕ) (xs ys : List (AddressRun K)) → StartsBelow k xs → StartFrom k ys
    → runs_from k (xs ++ ys) ≡ ys
from_of k xs ys b s =
    filter-append (λ r. leb k r.start) xs ys ∙ rw (from-none k xs b, from-all k ys s) refl

pub ascending_split : {K : Type 0} (k : ℕ) (rs : List (AddressRun K)) → AreAscending rs
    → runs_below k rs ++ runs_from k rs ≡ rs
ascending_split k [] h = refl
ascending_split {K} k (r ∷ rs) h =
    elim (cases_lt r.start k) [
      | inl l ↦
          let t : leb k r.start ≡ false = grind (arith) in
          rw (lt-ltb r.start k l, t) (ap (λ (ys : List (AddressRun K)). r ∷ ys) (ascending_split k rs h.2))
      | inr l ↦
          let t : leb k r.start ≡ true = grind (arith) in
          let s : StartFrom k rs = StartFrom-weaker k (r.start + 1) rs (omega arith) h.1 in
          rw (le-ltb r.start k l, t, below-none k rs s, from-all k rs s)
    ]

pub below_below : {K : Type 0} (j k : ℕ) (rs : List (AddressRun K)) → j ≤ k
    → runs_below j (runs_below k rs) ≡ runs_below j rs
below_below j k [] l = refl
below_below j k (r ∷ rs) l =
    let rest = below_below j k rs l in
    elim (cases_lt r.start k) [
      | inl m ↦
          elim (cases_lt r.start j) [
            | inl n ↦ rw (lt-ltb r.start k m, lt-ltb r.start j n, rest)
            | inr n ↦ rw (lt-ltb r.start k m, le-ltb r.start j n) rest
          ]
      | inr m ↦ rw (le-ltb r.start k m, le-ltb r.start j (omega arith)) rest
    ]

pub from_from : {K : Type 0} (j k : ℕ) (rs : List (AddressRun K)) → j ≤ k
    → runs_from k (runs_from j rs) ≡ runs_from k rs
from_from j k [] l = refl
from_from j k (r ∷ rs) l =
    let rest = from_from j k rs l in
    elim (cases_lt r.start j) [
      | inl m ↦
          let a : leb j r.start ≡ false = grind (arith) in
          let b : leb k r.start ≡ false = grind (arith) in
          rw (a, b) rest
      | inr m ↦
          let a : leb j r.start ≡ true = grind (arith) in
          elim (cases_lt r.start k) [
            | inl n ↦ let b : leb k r.start ≡ false = grind (arith) in rw (a, b) rest
            | inr n ↦ let b : leb k r.start ≡ true = grind (arith) in rw (a, b, rest)
          ]
    ]

pub ascending_below : {K : Type 0} (k : ℕ) (rs : List (AddressRun K)) → AreAscending rs → AreAscending (runs_below k rs)
ascending_below k [] h = tt
ascending_below k (r ∷ rs) h =
    elim (cases_lt r.start k) [
      | inl l ↦ rw (lt-ltb r.start k l) (h.0, kept k (r.start + 1) rs h.1, ascending_below k rs h.2)
      | inr l ↦ rw (le-ltb r.start k l) (ascending_below k rs h.2)
    ]
  where
    kept : {K : Type 0} (k low : ℕ) (rs : List (AddressRun K)) → StartFrom low rs → StartFrom low (runs_below k rs)
    kept k low [] s = tt
    kept k low (r ∷ rs) s =
        elim (cases_Bool (ltb r.start k)) [
          | inl t ↦ rw t (s.0, kept k low rs s.1)
          | inr t ↦ rw t (kept k low rs s.1)
        ]

pub ascending_from : {K : Type 0} (k : ℕ) (rs : List (AddressRun K)) → AreAscending rs → AreAscending (runs_from k rs)
ascending_from k [] h = tt
ascending_from k (r ∷ rs) h =
    elim (cases_Bool (leb k r.start)) [
      | inl t ↦ rw t (h.0, kept k (r.start + 1) rs h.1, ascending_from k rs h.2)
      | inr t ↦ rw t (ascending_from k rs h.2)
    ]
  where
    kept : {K : Type 0} (k low : ℕ) (rs : List (AddressRun K)) → StartFrom low rs → StartFrom low (runs_from k rs)
    kept k low [] s = tt
    kept k low (r ∷ rs) s =
        elim (cases_Bool (leb k r.start)) [
          | inl t ↦ rw t (s.0, kept k low rs s.1)
          | inr t ↦ rw t (kept k low rs s.1)
        ]

pub ascending_append : {K : Type 0} (k : ℕ) (xs ys : List (AddressRun K)) → AreAscending xs → StartsBelow k xs
    → AreAscending ys → StartFrom k ys → AreAscending (xs ++ ys)
ascending_append k [] ys h b g s = g
ascending_append k (r ∷ xs) ys h b g s = (
  h.0,
  both (r.start + 1) xs ys h.1 (StartFrom-weaker (r.start + 1) k ys (omega arith) s),
  ascending_append k xs ys h.2 b.1 g s,
)
  where
    both : {K : Type 0} (low : ℕ) (xs ys : List (AddressRun K)) → StartFrom low xs → StartFrom low ys
        → StartFrom low (xs ++ ys)
    both low [] ys s t = t
    both low (r ∷ xs) ys s t = (s.0, both low xs ys s.1 t)

pub ascending_back : {K : Type 0} (xs ys : List (AddressRun K)) → AreAscending (xs ++ ys) → AreAscending ys
ascending_back [] ys h = h
ascending_back (r ∷ xs) ys h = ascending_back xs ys h.2

pub ascending_canonical : {K : Type 0} (same : K → K → Bool) (rs : List (AddressRun K)) → IsCanonical same rs
    → AreAscending rs
ascending_canonical same [] h = tt
ascending_canonical same (r ∷ rs) h =
    let pos = canonical_pos same r rs h in (
      pos,
      StartFrom-weaker (r.start + 1) (r.start + r.len) rs (omega arith) (tail_starts same r rs h),
      ascending_canonical same rs (canonical_tail same r rs h),
    )

-- the runs with one more, or with another in the place of one
pub ascending_put : {K : Type 0} (r : AddressRun K) (rs : List (AddressRun K)) → 0 < r.len → AreAscending rs
    → AreAscending (runs_below r.start rs ++ r ∷ runs_from (r.start + 1) rs)
ascending_put r rs pos h =
    ascending_append r.start (runs_below r.start rs) (r ∷ runs_from (r.start + 1) rs)
    (ascending_below r.start rs h) (below_starts r.start rs)
    (pos, from_starts (r.start + 1) rs, ascending_from (r.start + 1) rs h) (
      omega arith,
      StartFrom-weaker r.start (r.start + 1) (runs_from (r.start + 1) rs) (omega arith)
          (from_starts (r.start + 1) rs),
    )
