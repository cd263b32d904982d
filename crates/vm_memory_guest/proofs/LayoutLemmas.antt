-- Regions put into a layout and taken out of it, and the binary digits of a number.
use Rattle.std.proofs.Common.{◌≡◌, ℕ, zero, suc, ◌+◌, ◌-◌, ◌/◌, ◌<◌, ◌≤◌, nat_lt, true, false}
use Rattle.std.proofs.Common.{List, [], ◌∷◌, map, length, get_or, take, drop, Some, None}
use Rattle.std.proofs.Common.{Result, Ok, Err, MatchResult, inl, inr, refl, sym, ap, subst, ◌∙◌, arith}
use Rattle.std.proofs.lemmas.Bool.Decides.{nat_tests}
use Rattle.std.proofs.lemmas.List.Elements.{All-head, All-tail}
use Rattle.std.proofs.lemmas.Bool.{cases_eq, cases_lt}
use Rattle.std.proofs.lemmas.List.{map-append, take-map, drop-map, get_or-map, get_or_default}
use Rattle.std.specs.declared.alloc.Global.{Global}
use Rattle.std.specs.declared.sync.Arc.{Arc}
use Rattle.vm_memory_guest.specs.Collection.{IsIndexed}
use Rattle.vm_memory_guest.proofs.RegionLaws.{length-starts, start-at, apart}
use Rattle.std.specs.List.{All, insert, remove}
use Rattle.vm_memory_guest.specs.Layout.{inserted, is_exactly, after_first, removed, digits_within, binary_digits, IsFault}
use Rattle.vm_memory_guest.specs.Region.{Region, IsRegion, IsLayout, last, layout_error, fault_of}
use Rattle.vm_memory_guest.specs.declared.region.error.GuestRegionCollectionError.{GuestRegionCollectionError}
use Rattle.vm_memory_guest.specs.declared.region.error.GuestRegionCollectionError.TheVariants as layout

module _ {X : Type 0} (region : X → Region) where
  -- after the last region that starts no higher, and before the first that starts above, is the place
  pub inserted-at : (xs : List X) (n : ℕ) (new : X) → n ≤ length xs
      → ((k : ℕ) → k < n → (region (get_or xs k new)).start ≤ (region new).start)
      → ((k : ℕ) → n ≤ k → k < length xs → (region new).start < (region (get_or xs k new)).start)
      → insert xs n new ≡ inserted region xs new
  inserted-at [] zero new l below above = refl
  inserted-at [] (suc n) new l below above = absurd (omega arith)
  inserted-at (x ∷ xs) zero new l below above =
      let h : (region new).start < (region x).start = above 0 (omega arith) (omega arith) in
      let t : nat_lt (region new).start (region x).start ≡ true = grind (arith, nat_tests) in
      rw t refl
  inserted-at (x ∷ xs) (suc n) new l below above =
      let h : (region x).start ≤ (region new).start = below 0 (omega arith) in
      let t : nat_lt (region new).start (region x).start ≡ false = grind (arith, nat_tests) in
      rw t (ap (λ ys. x ∷ ys)
      (inserted-at xs n new (omega arith) (λ k m. below (suc k) (omega arith))
      (λ k m j. above (suc k) (omega arith) (omega arith))))

  -- the first region with just these addresses is taken out
  pub removed-at : (xs : List X) (base size i : ℕ) (d : X) → i < length xs
      → ((k : ℕ) → k < i → is_exactly base size (region (get_or xs k d)) ≡ false)
      → is_exactly base size (region (get_or xs i d)) ≡ true
      → removed region xs base size ≡ Some (remove xs i, get_or xs i d)
  removed-at [] base size i d l before at = absurd (omega arith)
  removed-at (x ∷ xs) base size zero d l before at = rw at refl
  removed-at (x ∷ xs) base size (suc i) d l before at =
      let first : is_exactly base size (region x) ≡ false = before 0 (omega arith) in
      rw first (ap (after_first x)
      (removed-at xs base size i d (omega arith) (λ k m. before (suc k) (omega arith)) at))

  pub removed-none : (xs : List X) (base size : ℕ)
      → ((k : ℕ) (d : X) → k < length xs → is_exactly base size (region (get_or xs k d)) ≡ false)
      → removed region xs base size ≡ None
  removed-none [] base size h = refl
  removed-none (x ∷ xs) base size h =
      let first : is_exactly base size (region x) ≡ false = h 0 x (omega arith) in
      let rest = removed-none xs base size (λ k d m. h (suc k) d (omega arith)) in
      rw first (ap (after_first x) rest)

-- an edit of a list, and of what its elements mean
pub map-insert : {X Y : Type 0} (f : X → Y) (xs : List X) (i : ℕ) (x : X)
    → map f (insert xs i x) ≡ insert (map f xs) i (f x)
map-insert f xs i x =
    map-append f (take i xs) (x ∷ drop i xs)
    ∙ rw (take-map f i xs, drop-map f i xs) refl

pub map-remove : {X Y : Type 0} (f : X → Y) (xs : List X) (i : ℕ)
    → map f (remove xs i) ≡ remove (map f xs) i
map-remove f xs i =
    map-append f (take i xs) (drop (suc i) xs)
    ∙ rw (take-map f i xs, drop-map f (suc i) xs) refl

-- a region with another start, or another length, does not have these addresses
is_exactly-start : (base size : ℕ) (r : Region) → (r.start ≡ base → ⊥) → is_exactly base size r ≡ false
is_exactly-start base size r h = grind (arith, nat_tests)

pub is_exactly-len : (base size : ℕ) (r : Region) → (r.len ≡ size → ⊥) → is_exactly base size r ≡ false
is_exactly-len base size r h = grind (arith, nat_tests)

-- a search by the starts of values that mean regions told that the n-th is the first above an address
module _ {X : Type 0} (region : X → Region) (fits : (x : X) → IsRegion (region x)) (xs : List X)
    (starts : List ℕ) (indexed : IsIndexed (map region xs) starts) (a n : ℕ) (within : n ≤ length starts)
    (below : (k : ℕ) → k < n → get_or starts k 0 ≤ a)
    (above : (k : ℕ) → n ≤ k → k < length starts → a < get_or starts k 0) where
  -- that is the place of a region that starts there
  pub insert-place : (new : X) → a ≡ (region new).start → insert xs n new ≡ inserted region xs new
  insert-place new is =
      let same = length-starts region fits xs starts indexed in
      inserted-at region xs n new (omega arith)
      (λ k l. let at = start-at region fits xs starts indexed k new (omega arith) in let low = below k l in omega arith)
      (λ k l m. let at = start-at region fits xs starts indexed k new m in let high = above k l (omega arith) in
      omega arith)

  -- and only the region before it may start at the address
  others : (size k : ℕ) (d : X) → k < length xs → (suc k ≡ n → ⊥)
      → is_exactly a size (region (get_or xs k d)) ≡ false
  others size k d l not =
      let same = length-starts region fits xs starts indexed in
      let at = start-at region fits xs starts indexed k d l in
      is_exactly-start a size (region (get_or xs k d)) (elim (cases_lt k n) [
        | inl m ↦
            let before : suc k < n = omega arith in
            let some = (fits (get_or xs k d)).some in
            let next = start-at region fits xs starts indexed (n - 1) d (omega arith) in
            let low = below (n - 1) (omega arith) in
            let apart = apart region fits xs starts indexed k (n - 1) d (omega arith) (omega arith) in
            λ e. omega arith
        | inr m ↦ let high = above k m (omega arith) in λ e. omega arith
      ])

  pub removed-nowhere : (size : ℕ) → (0 < n → get_or starts (n - 1) 0 ≡ a → ⊥) → removed region xs a size ≡ None
  removed-nowhere size h =
      removed-none region xs a size (λ k d l. elim (cases_eq (suc k) n) [
        | inl e ↦
            let is : n - 1 ≡ k = omega arith in
            let at = start-at region fits xs starts indexed k d l in
            is_exactly-start a size (region (get_or xs k d))
            (λ f. h (omega arith) (ap (λ (i : ℕ). get_or starts i 0) is ∙ at ∙ f))
        | inr f ↦ others size k d l f
      ])

  module _ (size : ℕ) (x : X) (some : 0 < n) (at : x ≡ get_or xs (n - 1) x) where
    here : (k : ℕ) (d : X) → k < length xs → suc k ≡ n → x ≡ get_or xs k d
    here k d l e =
        let is : n - 1 ≡ k = omega arith in
        at ∙ ap (λ (i : ℕ). get_or xs i x) is ∙ get_or_default xs k x d l

    pub removed-other : is_exactly a size (region x) ≡ false → removed region xs a size ≡ None
    removed-other h =
        removed-none region xs a size (λ k d l. elim (cases_eq (suc k) n) [
          | inl e ↦ subst (λ (y : X). is_exactly a size (region y) ≡ false) (here k d l e) h
          | inr f ↦ others size k d l f
        ])

    pub removed-here : is_exactly a size (region x) ≡ true
        → removed region xs a size ≡ Some (remove xs (n - 1), x)
    removed-here h =
        let same = length-starts region fits xs starts indexed in
        removed-at region xs a size (n - 1) x (omega arith)
        (λ k m. others size k x (omega arith) (λ e. omega arith))
        (subst (λ (y : X). is_exactly a size (region y) ≡ true) at h)
        ∙ ap (λ (y : X). Some (remove xs (n - 1), y)) (sym at)

-- the value of a shared value at a place
pub value-at : {X : Type 0} (rs : List (Arc X Global)) (i : ℕ) (r : Arc X Global) (x : X)
    → i < length rs → r ≡ get_or rs i r → x ≡ r.value
    → x ≡ get_or (map (λ (q : Arc X Global). q.value) rs) i x
value-at {X} rs i r x l at is =
    let value = λ (q : Arc X Global). q.value in
    is ∙ ap value at ∙ sym (get_or-map value rs i r x l)

-- a layout without one of its regions is a layout
pub IsLayout-remove : (rs : List Region) (i : ℕ) → All IsRegion rs → IsLayout rs → IsLayout (remove rs i)
IsLayout-remove [] zero each h = tt
IsLayout-remove [] (suc i) each h = tt
IsLayout-remove (r ∷ []) zero each h = tt
IsLayout-remove (r ∷ []) (suc zero) each h = tt
IsLayout-remove (r ∷ []) (suc (suc i)) each h = tt
IsLayout-remove (q ∷ r ∷ rs) zero each h = h.1
IsLayout-remove (q ∷ r ∷ []) (suc zero) each h = tt
IsLayout-remove (q ∷ r ∷ s ∷ rs) (suc zero) each h =
    let later = All-tail IsRegion q (r ∷ s ∷ rs) each in
    let some : 0 < r.len = (All-head IsRegion r (s ∷ rs) later).some in
    let first : last q < r.start = h.0 in
    let second : last r < s.start = h.1.0 in
    (omega arith, h.1.1)
IsLayout-remove (q ∷ r ∷ rs) (suc (suc i)) each h =
    (h.0, IsLayout-remove (r ∷ rs) (suc i) (All-tail IsRegion q (r ∷ rs) each) h.1)

-- what a call told of the regions that it tested, of these regions
pub as_told : {X : Type 0} (region : X → Region) (xs ys : List X) → xs ≡ ys
    → (r : Result (List X) GuestRegionCollectionError)
    → MatchResult r (λ c. (layout_error (map region xs) ≡ None) × (c ≡ xs))
    (λ e. layout_error (map region xs) ≡ fault_of e)
    → MatchResult r (λ c. (layout_error (map region ys) ≡ None) × (c ≡ ys))
    (λ e. IsFault (layout_error (map region ys)) e)
as_told region xs ys same (Ok c) h = rw (← same) h
as_told region xs ys same (Err layout.NoMemoryRegion) h = inr (rw (← same) h)
as_told region xs ys same (Err layout.MemoryRegionOverlap) h = inr (rw (← same) h)
as_told region xs ys same (Err layout.UnsortedMemoryRegions) h = inr (rw (← same) h)
as_told region xs ys same (Err layout.Memory) h = inl refl

-- digits beyond a number's own are not counted
digits_within-enough : (k j n : ℕ) → n ≤ k → n ≤ j → digits_within k n ≡ digits_within j n
digits_within-enough zero zero n l m = refl
digits_within-enough zero (suc j) zero l m = refl
digits_within-enough zero (suc j) (suc n) l m = absurd (omega arith)
digits_within-enough (suc k) zero zero l m = refl
digits_within-enough (suc k) zero (suc n) l m = absurd (omega arith)
digits_within-enough (suc k) (suc j) zero l m = refl
digits_within-enough (suc k) (suc j) (suc n) l m =
    ap (λ d. 1 + d) (digits_within-enough k j (suc n / 2) (omega arith) (omega arith))

-- a number has one digit more than its half
pub binary_digits-step : (n : ℕ) → 0 < n → binary_digits n ≡ 1 + binary_digits (n / 2)
binary_digits-step zero l = absurd (omega arith)
binary_digits-step (suc n) l =
    ap (λ d. 1 + d) (digits_within-enough n (suc n / 2) (suc n / 2) (omega arith) (omega arith))

-- and no more digits than ones
digits_within-few : (k n : ℕ) → digits_within k n ≤ n
digits_within-few zero n = omega arith
digits_within-few (suc k) zero = omega arith
digits_within-few (suc k) (suc n) = let h = digits_within-few k (suc n / 2) in omega arith

pub binary_digits-few : (n : ℕ) → binary_digits n ≤ n
binary_digits-few n = digits_within-few n n
