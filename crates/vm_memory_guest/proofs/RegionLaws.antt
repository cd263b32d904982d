-- Layouts of regions: which lists pass the tests, and where an address lies in one.
use Rattle.std.proofs.Common.{◌≡◌, ℕ, zero, suc, ◌+◌, ◌-◌, ◌<◌, ◌≤◌, ◌↔◌, nat_lt, nat_le, true, false, cond}
use Rattle.std.proofs.Common.{List, [], ◌∷◌, map, length, get_or, Option, Some, None, option_map}
use Rattle.std.proofs.Common.{Result, Ok, Err, ⊎_elim, inl, inr, refl, sym, ap, subst, ◌∙◌, add-one, arith}
use Rattle.std.proofs.lemmas.Bool.{cases_Bool, cases_lt, cases_order}
use Rattle.std.proofs.lemmas.Bool.Decides.{nat_tests}
use Rattle.std.proofs.lemmas.List.{get_or-map, length-map}
use Rattle.std.proofs.lemmas.Simd.{map-map}
use Rattle.std.proofs.lemmas.List.Elements.{All-head, All-tail}
use Rattle.std.proofs.lemmas.List.Recursion.{found_at, found_nowhere}
use Rattle.std.specs.List.{All}
use Rattle.std.specs.declared.alloc.Global.{Global}
use Rattle.std.specs.declared.sync.Arc.{Arc}
use Rattle.vm_memory_guest.specs.Collection.{IsIndexed, each_is_region}
use Rattle.vm_memory_guest.specs.declared.region.error.GuestRegionCollectionError.{GuestRegionCollectionError}
use Rattle.vm_memory_guest.specs.declared.region.error.GuestRegionCollectionError.TheVariants as layout
use Rattle.vm_memory_guest.specs.Region.{Region, IsRegion, last, has_address, containing_region, containing_in, IsLayout}
use Rattle.vm_memory_guest.specs.Region.{neighbours_of, first_error, neighbours_error, layout_error, fault_of}

-- a region that passes after another starts above its last address
neighbours_of-ok : (q r : Region) → neighbours_of q r ≡ Ok tt → last q < r.start
neighbours_of-ok q r h = grind (arith, nat_tests)

neighbours_of-passes : (q r : Region) → IsRegion q → last q < r.start → neighbours_of q r ≡ Ok tt
neighbours_of-passes q r h k = let some = h.some in grind (arith, nat_tests)

-- a fault of neighbours is no want of memory
pub fault_of-neighbours : (q r : Region) (e : GuestRegionCollectionError)
    → neighbours_of q r ≡ Err e → fault_of e ≡ Some e
fault_of-neighbours q r layout.NoMemoryRegion h = refl
fault_of-neighbours q r layout.MemoryRegionOverlap h = refl
fault_of-neighbours q r layout.UnsortedMemoryRegions h = refl
fault_of-neighbours q r layout.Memory h =
    elim (cases_Bool (nat_lt r.start q.start)) [
      | inl t ↦ let k : neighbours_of q r ≡ Err layout.UnsortedMemoryRegions = rw t in absurd (cc)
      | inr t ↦ elim (cases_Bool (nat_le r.start (last q))) [
        | inl u ↦ let k : neighbours_of q r ≡ Err layout.MemoryRegionOverlap = rw (t, u) in absurd (cc)
        | inr u ↦ let k : neighbours_of q r ≡ Ok tt = rw (t, u) in absurd (cc)
      ]
    ]

first_error-none : (x : Result (Unit {0}) GuestRegionCollectionError)
    → (rest : Option GuestRegionCollectionError) → first_error x rest ≡ None → (x ≡ Ok tt) × (rest ≡ None)
first_error-none (Ok done) rest h = (refl, h)
first_error-none (Err e) rest h = absurd (cc)

-- neighbours that pass leave the fault of the rest
passes_first : (q r : Region) (rs : List Region) (x : Option GuestRegionCollectionError)
    → neighbours_of q r ≡ Ok tt → neighbours_error (r ∷ rs) ≡ x → neighbours_error (q ∷ r ∷ rs) ≡ x
passes_first q r rs x h k =
    ap (λ (t : Result (Unit {0}) GuestRegionCollectionError). first_error t (neighbours_error (r ∷ rs))) h ∙ k

-- no fault where each pair of neighbours passes
pub neighbours_error-none : (rs : List Region)
    → ((k : ℕ) (d : Region) → suc k < length rs → neighbours_of (get_or rs k d) (get_or rs (suc k) d) ≡ Ok tt)
    → neighbours_error rs ≡ None
neighbours_error-none [] h = refl
neighbours_error-none (r ∷ []) h = refl
neighbours_error-none (q ∷ r ∷ rs) h =
    passes_first q r rs None (h 0 q (omega arith))
    (neighbours_error-none (r ∷ rs) (λ k d l. h (suc k) d (omega arith)))

-- the first pair that does not pass is the fault
pub neighbours_error-some : (rs : List Region) (i : ℕ) (e : GuestRegionCollectionError) (d : Region)
    → suc i < length rs
    → ((k : ℕ) → k < i → neighbours_of (get_or rs k d) (get_or rs (suc k) d) ≡ Ok tt)
    → neighbours_of (get_or rs i d) (get_or rs (suc i) d) ≡ Err e → neighbours_error rs ≡ Some e
neighbours_error-some [] i e d l h f = absurd (omega arith)
neighbours_error-some (r ∷ []) i e d l h f = absurd (omega arith)
neighbours_error-some (q ∷ r ∷ rs) zero e d l h f =
    ap (λ (t : Result (Unit {0}) GuestRegionCollectionError). first_error t (neighbours_error (r ∷ rs))) f
neighbours_error-some (q ∷ r ∷ rs) (suc i) e d l h f =
    passes_first q r rs (Some e) (h 0 (omega arith))
    (neighbours_error-some (r ∷ rs) i e d (omega arith) (λ k j. h (suc k) (omega arith)) f)

-- a list with no fault is a layout
pub IsLayout-from_none : (rs : List Region) → neighbours_error rs ≡ None → IsLayout rs
IsLayout-from_none [] h = tt
IsLayout-from_none (r ∷ []) h = tt
IsLayout-from_none (q ∷ r ∷ rs) h =
    let both = first_error-none (neighbours_of q r) (neighbours_error (r ∷ rs)) h in
    (neighbours_of-ok q r both.0, IsLayout-from_none (r ∷ rs) both.1)

neighbours_error-of_layout : (rs : List Region) → All IsRegion rs → IsLayout rs → neighbours_error rs ≡ None
neighbours_error-of_layout [] each h = refl
neighbours_error-of_layout (r ∷ []) each h = refl
neighbours_error-of_layout (q ∷ r ∷ rs) each h =
    passes_first q r rs None (neighbours_of-passes q r (All-head IsRegion q (r ∷ rs) each) h.0)
    (neighbours_error-of_layout (r ∷ rs) (All-tail IsRegion q (r ∷ rs) each) h.1)

-- the tests pass just the layouts of at least one region
pub layout_error-none : (rs : List Region) → All IsRegion rs
    → (layout_error rs ≡ None) ↔ ((0 < length rs) × IsLayout rs)
layout_error-none [] each = (λ h. absurd (cc), λ h. absurd (omega arith))
layout_error-none (r ∷ rs) each =
    (λ h. (omega arith, IsLayout-from_none (r ∷ rs) h), λ h. neighbours_error-of_layout (r ∷ rs) each h.1)

-- of a list that is not empty the fault is the first of neighbours
pub layout_error-some : (rs : List Region) (x : Option GuestRegionCollectionError)
    → 0 < length rs → neighbours_error rs ≡ x → layout_error rs ≡ x
layout_error-some [] x l h = absurd (omega arith)
layout_error-some (r ∷ rs) x l h = h

-- the first pair that does not pass is the fault of a list
pub layout_error-first : (rs : List Region) (i : ℕ) (e : GuestRegionCollectionError) (d : Region)
    → i + 1 < length rs
    → ((k : ℕ) → k < i → neighbours_of (get_or rs k d) (get_or rs (k + 1) d) ≡ Ok tt)
    → neighbours_of (get_or rs i d) (get_or rs (i + 1) d) ≡ Err e → layout_error rs ≡ Some e
layout_error-first rs i e d l h f =
    layout_error-some rs (Some e) (omega arith)
    (neighbours_error-some rs i e d (omega arith)
    (λ k m. subst (λ (n : ℕ). neighbours_of (get_or rs k d) (get_or rs n d) ≡ Ok tt) (add-one k) (h k m))
    (subst (λ (n : ℕ). neighbours_of (get_or rs i d) (get_or rs n d) ≡ Err e) (add-one i) f))

-- a region of a layout ends below the start of each later one
pub layout-apart : (rs : List Region) → All IsRegion rs → IsLayout rs → (i j : ℕ) (d : Region)
    → i < j → j < length rs → last (get_or rs i d) < (get_or rs j d).start
layout-apart [] each h i j d l k = absurd (omega arith)
layout-apart (r ∷ []) each h i j d l k = absurd (omega arith)
layout-apart (q ∷ r ∷ rs) each h i zero d l k = absurd (omega arith)
layout-apart (q ∷ r ∷ rs) each h zero (suc zero) d l k = h.0
layout-apart (q ∷ r ∷ rs) each h zero (suc (suc j)) d l k =
    let later = All-tail IsRegion q (r ∷ rs) each in
    let first : last q < r.start = h.0 in
    let some : 0 < r.len = (All-head IsRegion r rs later).some in
    let rest : last r < (get_or (r ∷ rs) (suc j) d).start =
    layout-apart (r ∷ rs) later h.1 zero (suc j) d (omega arith) (omega arith) in
    omega arith
layout-apart (q ∷ r ∷ rs) each h (suc i) (suc j) d l k =
    layout-apart (r ∷ rs) (All-tail IsRegion q (r ∷ rs) each) h.1 i j d (omega arith) (omega arith)

-- and regions each of which ends below the later ones are a layout
pub IsLayout-from_apart : (rs : List Region)
    → ((i j : ℕ) (d : Region) → i < j → j < length rs → last (get_or rs i d) < (get_or rs j d).start)
    → IsLayout rs
IsLayout-from_apart [] h = tt
IsLayout-from_apart (r ∷ []) h = tt
IsLayout-from_apart (q ∷ r ∷ rs) h = (
  h 0 1 q (omega arith) (omega arith),
  IsLayout-from_apart (r ∷ rs) (λ i j d l k. h (suc i) (suc j) d (omega arith) (omega arith)),
)

-- the starts of a layout ascend
pub layout-ascends : (rs : List Region) → All IsRegion rs → IsLayout rs → (i j : ℕ) (d : Region)
    → i ≤ j → j < length rs → (get_or rs i d).start ≤ (get_or rs j d).start
layout-ascends rs each h i j d l k =
    elim (cases_lt i j) [
      | inl m ↦
          let some : 0 < (get_or rs i d).len = (each i d (omega arith)).some in
          let apart : last (get_or rs i d) < (get_or rs j d).start = layout-apart rs each h i j d m k in
          omega arith
      | inr m ↦
          let e : i ≡ j = omega arith in
          subst (λ (n : ℕ). (get_or rs i d).start ≤ (get_or rs n d).start) e (omega arith)
    ]

-- where an address lies against a region
has_address-before : (r : Region) (a : ℕ) → a < r.start → has_address r a ≡ false
has_address-before r a h = grind (arith, nat_tests)

has_address-past : (r : Region) (a : ℕ) → r.start + r.len ≤ a → has_address r a ≡ false
has_address-past r a h = grind (arith, nat_tests)

has_address-inside : (r : Region) (a : ℕ) → r.start ≤ a → a < r.start + r.len → has_address r a ≡ true
has_address-inside r a h k = grind (arith, nat_tests)

has_address-from : (r : Region) (a : ℕ) → has_address r a ≡ true → (r.start ≤ a) × (a < r.start + r.len)
has_address-from r a h = grind (arith, nat_tests)

-- two places of a layout that hold an address are one place
pub layout-one : (rs : List Region) → All IsRegion rs → IsLayout rs → (i j a : ℕ) (d : Region)
    → i < length rs → j < length rs
    → has_address (get_or rs i d) a ≡ true → has_address (get_or rs j d) a ≡ true → i ≡ j
layout-one rs each h i j a d l k x y =
    let p = has_address-from (get_or rs i d) a x in
    let q = has_address-from (get_or rs j d) a y in
    ⊎_elim (λ (e : i ≡ j). e) (λ o. ⊎_elim
    (λ (m : i < j). let apart = layout-apart rs each h i j d m k in absurd (omega arith))
    (λ (m : j < i). let apart = layout-apart rs each h j i d m l in absurd (omega arith))
    o) (cases_order i j)

-- the region of a value that holds an address, and that of its region
pub containing_in-map : {X : Type 0} (region : X → Region) (xs : List X) (a : ℕ)
    → option_map region (containing_in region xs a) ≡ containing_region (map region xs) a
containing_in-map region [] a = refl
containing_in-map {X} region (x ∷ xs) a =
    elim (has_address (region x) a) as (λ b. option_map region (cond b (Some x) (containing_in region xs a))
    ≡ cond b (Some (region x)) (containing_region (map region xs) a)) [
      | true ↦ refl
      | false ↦ containing_in-map region xs a
    ]

module _ {X : Type 0} (region : X → Region) where
  pub containing_in-nowhere : (xs : List X) (a : ℕ) (d : X)
      → ((k : ℕ) → k < length xs → has_address (region (get_or xs k d)) a ≡ false)
      → containing_in region xs a ≡ None
  containing_in-nowhere xs a d h =
      found_nowhere (λ (ys : List X). containing_in region ys a) (λ (x : X). has_address (region x) a)
      (λ (x : X). Some x) None refl (λ x ys. refl) xs d h

  containing_in-none : (xs : List X) (a : ℕ)
      → ((k : ℕ) (d : X) → k < length xs → has_address (region (get_or xs k d)) a ≡ false)
      → containing_in region xs a ≡ None
  containing_in-none [] a h = refl
  containing_in-none (x ∷ xs) a h = containing_in-nowhere (x ∷ xs) a x (λ k l. h k x l)

  -- the value that holds an address, where each ends below the start of the later ones
  pub containing_in-holds : (xs : List X)
      → ((i j : ℕ) (d : X) → i < j → j < length xs
      → last (region (get_or xs i d)) < (region (get_or xs j d)).start)
      → (i a : ℕ) (d : X) → i < length xs → has_address (region (get_or xs i d)) a ≡ true
      → containing_in region xs a ≡ Some (get_or xs i d)
  containing_in-holds xs apart i a d l x =
      let p = has_address-from (region (get_or xs i d)) a x in
      found_at (λ (ys : List X). containing_in region ys a) (λ (y : X). has_address (region y) a)
      (λ (y : X). Some y) None refl (λ y ys. refl) xs i d l
      (λ k m. has_address-past (region (get_or xs k d)) a (let e = apart k i d m l in omega arith))
      x

  -- a search by the starts of values that mean regions
  module _ (fits : (x : X) → IsRegion (region x)) (xs : List X) (starts : List ℕ)
      (indexed : IsIndexed (map region xs) starts) where
    pub apart : (i j : ℕ) (d : X) → i < j → j < length xs
        → last (region (get_or xs i d)) < (region (get_or xs j d)).start
    apart i j d l k =
        let e = length-map xs region in
        let each = each_is_region region fits xs in
        rw (get_or-map region xs i d (region d) (omega arith), get_or-map region xs j d (region d) k) at
        (layout-apart (map region xs) each indexed.layout i j (region d) l (omega arith))

    start-of : (k : ℕ) (d : Region) → k < length xs → get_or starts k 0 ≡ (get_or (map region xs) k d).start
    start-of k d l =
        let e = length-map xs region in
        ap (λ (ns : List ℕ). get_or ns k 0) indexed.starts
        ∙ get_or-map (λ (r : Region). r.start) (map region xs) k d 0 (omega arith)

    pub start-at : (k : ℕ) (d : X) → k < length xs → get_or starts k 0 ≡ (region (get_or xs k d)).start
    start-at k d l =
        start-of k (region d) l ∙ ap (λ (r : Region). r.start) (get_or-map region xs k d (region d) l)

    pub length-starts : length starts ≡ length xs
    length-starts =
        ap length indexed.starts ∙ length-map (map region xs) (λ (r : Region). r.start) ∙ length-map xs region

    pub starts-ascend : (i j : ℕ) → i ≤ j → j < length starts → get_or starts i 0 ≤ get_or starts j 0
    starts-ascend i j l k =
        let same = length-starts in
        let e = length-map xs region in
        let d : Region = record { start = 0; len = 0; place = None } in
        let each = each_is_region region fits xs in
        let up = layout-ascends (map region xs) each indexed.layout i j d l (omega arith) in
        rw (start-of i d (omega arith), start-of j d (omega arith)) up

    -- the starts from the n-th on are above the address
    module _ (a n : ℕ) (above : (k : ℕ) → n ≤ k → k < length starts → a < get_or starts k 0) where
      later : (k : ℕ) (d : X) → n ≤ k → k < length xs → has_address (region (get_or xs k d)) a ≡ false
      later k d m l =
          let same = length-starts in
          let after : a < get_or starts k 0 = above k m (omega arith) in
          has_address-before (region (get_or xs k d)) a (rw (start-at k d l) at after)

      pub containing_in-below : n ≡ 0 → None ≡ containing_in region xs a
      containing_in-below e = sym (containing_in-none xs a (λ k d l. later k d (omega arith) l))

      -- and the one before them is that of x, at the address or below
      module _ (x : X) (some : 0 < n) (within : n ≤ length starts) (at : x ≡ get_or xs (n - 1) x)
          (start : ℕ) (is : start ≡ get_or starts (n - 1) 0) (low : start ≤ a) where
        start_is : (region (get_or xs (n - 1) x)).start ≡ start
        start_is = let same = length-starts in sym (is ∙ start-at (n - 1) x (omega arith))

        pub region-started : (region x).start ≡ start
        region-started = ap (λ (y : X). (region y).start) at ∙ start_is

        pub containing_in-before : a - start < (region x).len → Some x ≡ containing_in region xs a
        containing_in-before h =
            let same = length-starts in
            let here = start_is in
            let long = subst (λ (y : X). a - start < (region y).len) at h in
            let inside = has_address-inside (region (get_or xs (n - 1) x)) a (omega arith) (omega arith) in
            sym (containing_in-holds xs apart (n - 1) a x (omega arith) inside ∙ ap (λ (y : X). Some y) (sym at))

        pub containing_in-past : (region x).len ≤ a - start → None ≡ containing_in region xs a
        containing_in-past h =
            let same = length-starts in
            let here = start_is in
            let short = subst (λ (y : X). (region y).len ≤ a - start) at h in
            sym (containing_in-nowhere xs a x (λ k l. elim (cases_lt k n) [
              | inl m ↦ has_address-past (region (get_or xs k x)) a (elim (cases_lt k (n - 1)) [
                | inl p ↦ let before = apart k (n - 1) x p (omega arith) in omega arith
                | inr p ↦
                    let e : n - 1 ≡ k = omega arith in
                    let end : ℕ → ℕ = λ i. (region (get_or xs i x)).start + (region (get_or xs i x)).len in
                    subst (λ (i : ℕ). end i ≤ a) e (omega arith)
              ])
              | inr m ↦ later k x m l
            ]))

-- the regions of shared values
abbrev pub regions : {X : Type 0} → (X → Region) → List (Arc X Global) → List Region
regions {X} f rs = map f (map (λ (r : Arc X Global). r.value) rs)

-- the region at a place
pub region-at : {X : Type 0} (f : X → Region) (rs : List (Arc X Global)) (i : ℕ) (r : Arc X Global)
    → (d : Region) → i < length rs → r ≡ get_or rs i r → get_or (regions f rs) i d ≡ f r.value
region-at {X} f rs i r d l e =
    let value = λ (q : Arc X Global). q.value in
    get_or-map f (map value rs) i r.value d (subst (λ (n : ℕ). i < n) (sym (length-map rs value)) l)
    ∙ ap f (get_or-map value rs i r r.value l ∙ ap value (sym e))

-- there are as many regions as shared values
pub length-regions : {X : Type 0} (f : X → Region) (rs : List (Arc X Global))
    → length (regions f rs) ≡ length rs
length-regions {X} f rs =
    let value = λ (r : Arc X Global). r.value in
    length-map (map value rs) f ∙ length-map rs value

-- their starts
pub starts-regions : {X : Type 0} (f : X → Region) (rs : List (Arc X Global))
    → map (λ (r : Arc X Global). (f r.value).start) rs ≡ map (λ (r : Region). r.start) (regions f rs)
starts-regions {X} f rs =
    let value = λ (r : Arc X Global). r.value in
    sym (map-map (λ (r : Region). r.start) f (map value rs) ∙ map-map (λ (x : X). (f x).start) value rs)
