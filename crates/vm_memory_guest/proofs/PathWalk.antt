-- What a walk without translation gives, one window after the other.
use Rattle.std.proofs.Common.{◌≡◌, ℕ, zero, suc, ◌+◌, ◌-◌, ◌^◌, ◌%◌, ◌<◌, ◌≤◌, ◌⊎◌, ◌&&◌, min, Bool, true, false, not, cond, List, [], ◌∷◌, ◌++◌, map, Contains, suc-le-suc, Option, Some, None, Result, Ok, Err, refl, sym, ap, ap₂, subst, ◌∙◌, inl, inr, add-zero, zero-add, suc-add, not-suc-le-zero, subst₂, mod-eq_of_lt, arith}
use Rattle.std.proofs.lemmas.Option.{none-some, same_Some}
use Rattle.std.proofs.lemmas.Bool.{cond-true, cond-false, cases_lt, cases_Bool, and_parts, and_from, true≢false, leb-true, ltb-true, le-leb, lt-ltb, eqb-true, eq-eqb, false_from_ne_true}
use Rattle.vm_memory_base.specs.Address.{step, is_within}
use Rattle.vm_memory_base.specs.Table.{Mapping}
use Rattle.vm_memory_base.specs.declared.bitmap.BitmapId.TheVariants.{Block}
use Rattle.vm_memory_guest.specs.Access.{Access, AccessFault, NoRegion, NoHostBytes, Reached, Meets, Reaches, Stops, meets_at, meets, onto, or_fault, path, first_fault, same_mappings, is_cut, Stretch, lengthened, stretches, window_of, windows}
use Rattle.vm_memory_guest.specs.Error.{error_of}
use Rattle.vm_memory_guest.specs.Walk.{reach_of, error_item, items_of, walk_of}
use Rattle.vm_memory_guest.specs.Host.{Cell}
use Rattle.vm_memory_guest.specs.Memory.{Direct}
use Rattle.vm_memory_guest.specs.Region.{Region, IsRegion, IsLayout, Lies, Backed, Unbacked, Unmapped, containing_region, cell, lies_in, lies_from, same_region, window_at}
use Rattle.vm_memory_guest.specs.declared.region.error.GuestMemoryError.{GuestMemoryError}
use Rattle.vm_memory_guest.specs.declared.region.error.GuestMemoryError.TheVariants.{InvalidGuestAddress, HostAddressNotAvailable}
use Rattle.vm_memory_guest.specs.Window.{Window}
use Rattle.vm_memory_guest.proofs.LayoutLaws.{IsLayout-tail}

shifted : (i d : ℕ) → i + suc d ≡ i + 1 + d
shifted i d = omega arith

-- a walk: its path, and what stops it
abbrev pub walked : (ℕ → Meets) → ℕ → ℕ → Access
walked m i n = record { path = path m i n; fault = first_fault m i n }

abbrev pub onward : Meets → Access → Access
onward o rest = record { path = onto o rest.path; fault = or_fault o rest.fault }

-- walks that meet the same are the same
pub walk_agree : (m k : ℕ → Meets) (i j n : ℕ) → ((d : ℕ) → d < n → m (i + d) ≡ k (j + d))
    → walked m i n ≡ walked k j n
unfolding path first_fault
walk_agree m k i j zero h = refl
walk_agree m k i j (suc n) h =
    ap₂ onward (ap m (sym (add-zero i)) ∙ h 0 (omega arith) ∙ ap k (add-zero j))
    (walk_agree m k (i + 1) (j + 1) n
    (λ d p. ap m (sym (shifted i d)) ∙ h (suc d) (omega arith) ∙ ap k (shifted j d)))

-- no bytes
pub path-none : (m : ℕ → Meets) (i : ℕ) → path m i 0 ≡ []
unfolding path
path-none m i = refl

pub first_fault-none : (m : ℕ → Meets) (i : ℕ) → first_fault m i 0 ≡ None
unfolding first_fault
first_fault-none m i = refl

-- a byte that stops an access
pub path-stops : (m : ℕ → Meets) (i n : ℕ) (fault : AccessFault) → m i ≡ Stops fault → path m i n ≡ []
unfolding path
path-stops m i zero fault e = refl
path-stops m i (suc n) fault e = ap (λ o. onto o (path m (i + 1) n)) e

pub first_fault-stops : (m : ℕ → Meets) (i n : ℕ) (fault : AccessFault) → 0 < n → m i ≡ Stops fault
    → first_fault m i n ≡ Some fault
unfolding first_fault
first_fault-stops m i zero fault h e = elim (not-suc-le-zero h) [ ]
first_fault-stops m i (suc n) fault h e = ap (λ o. or_fault o (first_fault m (i + 1) n)) e

-- a byte that is reached
pub path-reaches : (m : ℕ → Meets) (i n : ℕ) (x : Reached) → m i ≡ Reaches x → path m i (suc n) ≡ x ∷ path m (i + 1) n
unfolding path
path-reaches m i n x e = ap (λ o. onto o (path m (i + 1) n)) e

pub first_fault-reaches : (m : ℕ → Meets) (i n : ℕ) (x : Reached) → m i ≡ Reaches x
    → first_fault m i (suc n) ≡ first_fault m (i + 1) n
unfolding first_fault
first_fault-reaches m i n x e = ap (λ o. or_fault o (first_fault m (i + 1) n)) e

-- so many bytes of a path from one on, with no cut between them
abbrev pub stretch : Reached → ℕ → Stretch
stretch x len = record { first = x; len = len }

-- the first stretch begins with the first byte
pub lengthened-first : (x : Reached) (ss : List Stretch) → (len : ℕ) × (rest : List Stretch)
    × (lengthened x ss ≡ record { first = x; len = len } ∷ rest)
lengthened-first x [] = (1, [], refl)
lengthened-first x (s ∷ ss) = go (is_cut x s.first)
  where
    go : (b : Bool) → (len : ℕ) × (rest : List Stretch)
        × (cond b (stretch x 1 ∷ s ∷ ss) (stretch x (s.len + 1) ∷ ss) ≡ stretch x len ∷ rest)
    go true = (1, s ∷ ss, refl)
    go false = (s.len + 1, ss, refl)

-- a path begins after a cut
abbrev pub IsCutFrom : Reached → List Reached → Type 0
IsCutFrom x [] = Unit {0}
IsCutFrom x (y ∷ ys) = is_cut x y ≡ true

pub stretches-cut : (x : Reached) (ys : List Reached) → IsCutFrom x ys
    → stretches (x ∷ ys) ≡ record { first = x; len = 1 } ∷ stretches ys
unfolding stretches
stretches-cut x [] c = refl
stretches-cut x (y ∷ ys) c =
    let f = lengthened-first y (stretches ys) in
    subst (λ (ss : List Stretch). lengthened x ss ≡ stretch x 1 ∷ ss) (sym f.2)
    (cond-true (is_cut x y) (stretch x 1 ∷ stretch y f.0 ∷ f.1) (stretch x (f.0 + 1) ∷ f.1) c)

pub stretches-joined : (x y : Reached) (ys : List Reached) (len : ℕ) (rest : List Stretch)
    → stretches ys ≡ record { first = y; len = len } ∷ rest → is_cut x y ≡ false
    → stretches (x ∷ ys) ≡ record { first = x; len = len + 1 } ∷ rest
unfolding stretches
stretches-joined x y ys len rest e c = ap (lengthened x) e
    ∙ cond-false (is_cut x y) (stretch x 1 ∷ stretch y len ∷ rest) (stretch x (len + 1) ∷ rest) c

module _ (m : ℕ → Meets) (x : ℕ → Reached) where
  -- bytes that are reached do not stop an access
  pub first_fault-past : (i k n : ℕ) → ((d : ℕ) → d < k → m (i + d) ≡ Reaches (x (i + d)))
      → first_fault m i (k + n) ≡ first_fault m (i + k) n
  first_fault-past i zero n h = ap₂ (first_fault m) (sym (add-zero i)) (zero-add n)
  first_fault-past i (suc k) n h =
      let here : m i ≡ Reaches (x i) = subst (λ (j : ℕ). m j ≡ Reaches (x j)) (add-zero i) (h 0 (omega arith)) in
      ap (first_fault m i) (suc-add k n) ∙ first_fault-reaches m i (k + n) (x i) here
      ∙ first_fault-past (i + 1) k n
      (λ d p. subst (λ (j : ℕ). m j ≡ Reaches (x j)) (shifted i d) (h (suc d) (omega arith)))
      ∙ ap (λ (j : ℕ). first_fault m j n) (sym (shifted i k))

  -- neighbouring bytes with no cut between them are one stretch, up to the next cut
  pub stretches-past : (i k n : ℕ) → ((d : ℕ) → d < suc k → m (i + d) ≡ Reaches (x (i + d)))
      → ((d : ℕ) → d < k → is_cut (x (i + d)) (x (i + suc d)) ≡ false) → IsCutFrom (x (i + k)) (path m (i + suc k) n)
      → stretches (path m i (suc k + n)) ≡ record { first = x i; len = suc k } ∷ stretches (path m (i + suc k) n)
  stretches-past i zero n h joined c =
      let here : m i ≡ Reaches (x i) = subst (λ (j : ℕ). m j ≡ Reaches (x j)) (add-zero i) (h 0 (omega arith)) in
      let size : 1 + n ≡ suc n = omega arith in
      ap (λ (t : ℕ). stretches (path m i t)) size ∙ ap stretches (path-reaches m i n (x i) here)
      ∙ stretches-cut (x i) (path m (i + 1) n)
      (subst (λ (j : ℕ). IsCutFrom (x j) (path m (i + 1) n)) (add-zero i) c)
  stretches-past i (suc k) n h joined c =
      let here : m i ≡ Reaches (x i) = subst (λ (j : ℕ). m j ≡ Reaches (x j)) (add-zero i) (h 0 (omega arith)) in
      let size : suc (suc k) + n ≡ suc (suc k + n) = omega arith in
      let rest = stretches-past (i + 1) k n
      (λ d p. subst (λ (j : ℕ). m j ≡ Reaches (x j)) (shifted i d) (h (suc d) (omega arith)))
      (λ d p. ap₂ (λ (u v : ℕ). is_cut (x u) (x v)) (sym (shifted i d)) (sym (shifted i (suc d)))
      ∙ joined (suc d) (omega arith))
      (subst₂ (λ (u v : ℕ). IsCutFrom (x u) (path m v n)) (shifted i k) (shifted i (suc k)) c) in
      let cut : is_cut (x i) (x (i + 1)) ≡ false =
      subst (λ (j : ℕ). is_cut (x j) (x (i + 1)) ≡ false) (add-zero i) (joined 0 (omega arith)) in
      let len : suc k + 1 ≡ suc (suc k) = omega arith in
      ap (λ (t : ℕ). stretches (path m i t)) size ∙ ap stretches (path-reaches m i (suc k + n) (x i) here)
      ∙ stretches-joined (x i) (x (i + 1)) (path m (i + 1) (suc k + n)) (suc k)
      (stretches (path m (i + 1 + suc k) n)) rest cut
      ∙ ap₂ (λ (t j : ℕ). stretch (x i) t ∷ stretches (path m j n)) len (sym (shifted i (suc k)))

-- whether an address lies among those of a region
pub is_within-bounds : (start len x : ℕ) → is_within start len x ≡ true → (start ≤ x) × (x < start + len)
is_within-bounds start len x h =
    let parts = and_parts _ _ h in (leb-true start x parts.0, ltb-true x (start + len) parts.1)

pub is_within-from : (start len x : ℕ) → start ≤ x → x < start + len → is_within start len x ≡ true
is_within-from start len x low high = and_from _ _ (le-leb start x low) (lt-ltb x (start + len) high)

-- the region that is found is the first one, or it is found after it
pub containing_region-cases : (x : Region) (xs : List Region) (a : ℕ) (r : Region)
    → containing_region (x ∷ xs) a ≡ Some r → ((is_within x.start x.len a ≡ true) × (x ≡ r))
    ⊎ ((is_within x.start x.len a ≡ false) × (containing_region xs a ≡ Some r))
containing_region-cases x xs a r e = elim (cases_Bool (is_within x.start x.len a)) [
  | inl t ↦ inl (t, same_Some x r (sym (cond-true _ (Some x) (containing_region xs a) t) ∙ e))
  | inr f ↦ inr (f, sym (cond-false _ (Some x) (containing_region xs a) f) ∙ e)
]

-- the region that is found holds the address
pub containing_region-within : (regions : List Region) (a : ℕ) (r : Region) → containing_region regions a ≡ Some r
    → is_within r.start r.len a ≡ true
containing_region-within [] a r e = absurd (none-some r e)
containing_region-within (x ∷ xs) a r e = elim (containing_region-cases x xs a r e) [
  | inl h ↦ subst (λ (q : Region). is_within q.start q.len a ≡ true) h.1 h.0
  | inr h ↦ containing_region-within xs a r h.1
]

-- and is one of the regions
pub containing_region-contains : (regions : List Region) (a : ℕ) (r : Region) → containing_region regions a ≡ Some r
    → Contains regions r
containing_region-contains [] a r e = absurd (none-some r e)
containing_region-contains (x ∷ xs) a r e = elim (containing_region-cases x xs a r e) [
  | inl h ↦ (0, omega arith, h.1)
  | inr h ↦ (let c = containing_region-contains xs a r h.1 in (suc c.0, suc-le-suc c.1, c.2))
]

pub same_region-parts : (q r : Region) → same_region q r ≡ true → (q.start ≡ r.start) × (q.len ≡ r.len)
same_region-parts q r h =
    let parts = and_parts _ _ h in (eqb-true q.start r.start parts.0, eqb-true q.len r.len parts.1)

pub same_region-itself : (r : Region) → same_region r r ≡ true
same_region-itself r = and_from _ _ (eq-eqb r.start r.start refl) (eq-eqb r.len r.len refl)

-- regions that are found and have the same addresses are one
pub containing_region-same : (regions : List Region) (a b : ℕ) (q r : Region) → containing_region regions a ≡ Some q
    → containing_region regions b ≡ Some r → same_region q r ≡ true → q ≡ r
containing_region-same [] a b q r e f s = absurd (none-some q e)
containing_region-same (x ∷ xs) a b q r e f s =
    let same = same_region-parts q r s in
    let in_q = containing_region-within (x ∷ xs) a q e in
    let in_r = containing_region-within (x ∷ xs) b r f in
    let b_in_q : is_within q.start q.len b ≡ true =
    ap₂ (λ (start len : ℕ). is_within start len b) same.0 same.1 ∙ in_r in
    let a_in_r : is_within r.start r.len a ≡ true =
    ap₂ (λ (start len : ℕ). is_within start len a) (sym same.0) (sym same.1) ∙ in_q in
    elim (containing_region-cases x xs a q e) [
      | inl h ↦ elim (containing_region-cases x xs b r f) [
        | inl k ↦ sym h.1 ∙ k.1
        | inr k ↦ absurd (true≢false (sym b_in_q ∙ sym (ap (λ (t : Region). is_within t.start t.len b) h.1) ∙ k.0))
      ]
      | inr h ↦ elim (containing_region-cases x xs b r f) [
        | inl k ↦ absurd (true≢false (sym a_in_r ∙ sym (ap (λ (t : Region). is_within t.start t.len a) k.1) ∙ h.0))
        | inr k ↦ containing_region-same xs a b q r h.1 k.1 s
      ]
    ]

-- in a layout a region ends before any that stands after it
layout_apart : (x : Region) (xs : List Region) (a : ℕ) (r : Region) → IsLayout (x ∷ xs)
    → containing_region xs a ≡ Some r → x.start + x.len ≤ r.start
layout_apart x [] a r h e = absurd (none-some r e)
layout_apart x (y ∷ ys) a r h e = elim (containing_region-cases y ys a r e) [
  | inl k ↦
      (let end : x.start + x.len ≤ y.start = omega (arith, h.0) in
      subst (λ (q : Region). x.start + x.len ≤ q.start) k.1 end)
  | inr k ↦ (let rest : y.start + y.len ≤ r.start = layout_apart y ys a r h.1 k.1 in omega (arith, h.0))
]

-- in a layout the region that holds an address is found at each of its addresses
pub containing_region-layout : (regions : List Region) (a : ℕ) (r : Region) (b : ℕ) → IsLayout regions
    → containing_region regions a ≡ Some r → is_within r.start r.len b ≡ true → containing_region regions b ≡ Some r
containing_region-layout [] a r b h e w = absurd (none-some r e)
containing_region-layout (x ∷ xs) a r b h e w = elim (containing_region-cases x xs a r e) [
  | inl k ↦
      cond-true _ (Some x) (containing_region xs b)
      (subst (λ (q : Region). is_within q.start q.len b ≡ true) (sym k.1) w) ∙ ap (λ (q : Region). Some q) k.1
  | inr k ↦ cond-false _ (Some x) (containing_region xs b) (false_from_ne_true _ (λ t.
      let apart = layout_apart x xs a r h k.1 in
      let in_x = is_within-bounds x.start x.len b t in
      let in_r = is_within-bounds r.start r.len b w in
      omega arith)) ∙ containing_region-layout xs a r b (IsLayout-tail x xs h) k.1 w
]

-- the byte at an address of a region whose first byte has this cell, reached without translation
abbrev pub reached_in : Region → Cell → ℕ → Reached
reached_in r first p = record {
  cell = record { block = first.block; offset = first.offset + (p - r.start) };
  region = r;
  mapping = None;
  bitmap = Block first.block;
  mark = first.offset + (p - r.start);
}

module _ (regions : List Region) (a i : ℕ) where
  -- what a byte meets without translation
  pub direct-hole : containing_region regions (step a i) ≡ None → meets regions Direct a i ≡ Stops (NoRegion (step a i))
  direct-hole e = ap (λ (o : Option Region). meets_at Direct (a + i) None (step a i) (lies_in o (step a i))) e

  pub direct-bare : (r : Region) → containing_region regions (step a i) ≡ Some r → r.place ≡ None
      → meets regions Direct a i ≡ Stops NoHostBytes
  direct-bare r e none = ap (λ (o : Option Region). meets_at Direct (a + i) None (step a i) (lies_in o (step a i))) e
      ∙ ap (λ (o : Option Cell). meets_at Direct (a + i) None (step a i) (lies_from r o (step a i - r.start))) none

  pub direct-byte : (r : Region) (first : Cell) → containing_region regions (step a i) ≡ Some r → r.place ≡ Some first
      → meets regions Direct a i ≡ Reaches (reached_in r first (step a i))
  direct-byte r first e some =
      ap (λ (o : Option Region). meets_at Direct (a + i) None (step a i) (lies_in o (step a i))) e
      ∙ ap (λ (o : Option Cell). meets_at Direct (a + i) None (step a i) (lies_from r o (step a i - r.start))) some

pub step-none : (a : ℕ) → a < 2 ^ 64 → step a 0 ≡ a
step-none a h = ap (λ (x : ℕ). x % 2 ^ 64) (add-zero a) ∙ mod-eq_of_lt h

pub step-within : (a i : ℕ) → a + i < 2 ^ 64 → step a i ≡ a + i
step-within a i h = mod-eq_of_lt h

pub step-step : (a i j : ℕ) → step a (i + j) ≡ step (step a i) j
step-step a i j = omega arith

direct_mark : (x y p : ℕ) (l : Lies) → meets_at Direct x None p l ≡ meets_at Direct y None p l
direct_mark x y p (Backed r c) = refl
direct_mark x y p Unbacked = refl
direct_mark x y p Unmapped = refl

-- without translation an access goes on as one from the address that it came to
pub direct-step : (regions : List Region) (a i j : ℕ)
    → meets regions Direct a (i + j) ≡ meets regions Direct (step a i) j
direct-step regions a i j = direct_mark (a + (i + j)) (step a i + j) (step a (i + j)) (cell regions (step a (i + j)))
    ∙ ap (λ (p : ℕ). meets_at Direct (step a i + j) None p (cell regions p)) (step-step a i j)

-- the items of a walk without translation
abbrev pub direct_items : List Region → ℕ → ℕ → List (Result Window GuestMemoryError)
direct_items regions a n = items_of (walk_of regions a n)

items : List Reached → Option AccessFault → List (Result Window GuestMemoryError)
items xs fault = items_of (reach_of (record { path = xs; fault = fault }))

-- a walk of no bytes
pub walk-none : (regions : List Region) (a : ℕ) → direct_items regions a 0 ≡ []
unfolding items stretches
walk-none regions a = ap₂ items (path-none (meets regions Direct a) 0) (first_fault-none (meets regions Direct a) 0)

-- a walk that is stopped at its first byte
pub walk-stops : (regions : List Region) (a n : ℕ) (fault : AccessFault) → 0 < n
    → meets regions Direct a 0 ≡ Stops fault → direct_items regions a n ≡ Err (error_of fault) ∷ []
unfolding items stretches
walk-stops regions a n fault h e =
    ap₂ items (path-stops (meets regions Direct a) 0 n fault e)
    (first_fault-stops (meets regions Direct a) 0 n fault h e)

-- a walk from an address that no region holds
pub walk-hole : (regions : List Region) (a n : ℕ) → a < 2 ^ 64 → containing_region regions a ≡ None → 0 < n
    → direct_items regions a n ≡ Err (InvalidGuestAddress (record { 0 = a })) ∷ []
walk-hole regions a n below e h =
    let at : step a 0 ≡ a = step-none a below in
    walk-stops regions a n (NoRegion a) h
    (direct-hole regions a 0 (ap (containing_region regions) at ∙ e) ∙ ap (λ (p : ℕ). Stops (NoRegion p)) at)

-- a walk from an address of a region without host bytes
pub walk-bare : (regions : List Region) (a n : ℕ) (r : Region) → a < 2 ^ 64 → containing_region regions a ≡ Some r
    → r.place ≡ None → 0 < n → direct_items regions a n ≡ Err HostAddressNotAvailable ∷ []
walk-bare regions a n r below e none h =
    walk-stops regions a n NoHostBytes h
    (direct-bare regions a 0 r (ap (containing_region regions) (step-none a below) ∙ e) none)

module _ (regions : List Region) (a : ℕ) (r : Region) (first : Cell) (is_region : IsRegion r) where
  -- after the last byte of a region there is a cut, or the path ends
  cut_after : (j n : ℕ) (x : Reached) → x.region ≡ r → x.mapping ≡ None → (n ≡ 0) ⊎ (a + j ≡ r.start + r.len)
      → IsCutFrom x (path (meets regions Direct a) j n)
  cut_after j zero x here none ends = subst (IsCutFrom x) (sym (path-none (meets regions Direct a) j)) tt
  cut_after j (suc n) x here none ends = elim ends [
    | inl e ↦ absurd (omega arith)
    | inr e ↦ from_home e (containing_region regions (step a j)) refl
  ]
    where
      from_place : (q : Region) → a + j ≡ r.start + r.len → containing_region regions (step a j) ≡ Some q
          → (o : Option Cell) → q.place ≡ o → IsCutFrom x (path (meets regions Direct a) j (suc n))
      from_place q e found None bare =
          subst (IsCutFrom x) (sym
          (path-stops (meets regions Direct a) j (suc n) NoHostBytes (direct-bare regions a j q found bare))) tt
      from_place q e found (Some c) some =
          let apart : same_region r q ≡ false = false_from_ne_true _ (λ t.
          let same = same_region-parts r q t in
          let in_q = is_within-bounds q.start q.len (step a j) (containing_region-within regions (step a j) q found) in
          let short = is_region.short in
          let fits = is_region.fits in
          omega (arith, same.0, same.1, in_q.0, in_q.1)) in
          let cut : is_cut x (reached_in q c (step a j)) ≡ true =
          subst₂ (λ (h : Region) (o : Option Mapping). not (same_region h q && same_mappings o None) ≡ true) (sym here)
          (sym none) (ap (λ (b : Bool). not (b && true)) apart) in
          subst (IsCutFrom x) (sym
          (path-reaches (meets regions Direct a) j n (reached_in q c (step a j))
          (direct-byte regions a j q c found some))) cut

      from_home : a + j ≡ r.start + r.len → (o : Option Region) → containing_region regions (step a j) ≡ o
          → IsCutFrom x (path (meets regions Direct a) j (suc n))
      from_home e None hole =
          subst (IsCutFrom x) (sym
          (path-stops (meets regions Direct a) j (suc n) (NoRegion (step a j)) (direct-hole regions a j hole))) tt
      from_home e (Some q) found = from_place q e found q.place refl

  module _ (one : (b : ℕ) → is_within r.start r.len b ≡ true → containing_region regions b ≡ Some r)
      (some : r.place ≡ Some first) (from : r.start ≤ a) where
    byte_at : (j : ℕ) → a + j < r.start + r.len → meets regions Direct a j ≡ Reaches (reached_in r first (a + j))
    byte_at j h =
        let fits = is_region.fits in
        let at : step a j ≡ a + j = step-within a j (omega arith) in
        direct-byte regions a j r first
        (ap (containing_region regions) at
        ∙ one (a + j) (is_within-from r.start r.len (a + j) (omega arith) h)) some
        ∙ ap (λ (p : ℕ). Reaches (reached_in r first p)) at

    -- the access goes on from the address that it came to
    goes_on : (k n : ℕ) → walked (meets regions Direct a) (0 + k) n ≡ walked (meets regions Direct (step a k)) 0 n
    goes_on k n =
        let m = meets regions Direct a in
        let later = meets regions Direct (step a k) in
        walk_agree m later (0 + k) 0 n
        (λ d h. ap m (ap (λ (j : ℕ). j + d) (zero-add k)) ∙ direct-step regions a k d
        ∙ ap later (sym (zero-add d)))

    -- the bytes of one region are one stretch, and then the access goes on
    stretches-in_region : (k n : ℕ) → a + suc k ≤ r.start + r.len → (n ≡ 0) ⊎ (a + suc k ≡ r.start + r.len)
        → stretches (path (meets regions Direct a) 0 (suc k + n)) ≡ record { first = reached_in r first a; len = suc k }
        ∷ stretches (path (meets regions Direct (step a (suc k))) 0 n)
    stretches-in_region k n inside ends =
        let m = meets regions Direct a in
        let x = λ (j : ℕ). reached_in r first (a + j) in
        let behind : IsCutFrom (x (0 + k)) (path m (0 + suc k) n) =
        cut_after (0 + suc k) n (x (0 + k)) refl refl (elim ends [ inl e ↦ inl e | inr e ↦ inr (omega arith) ]) in
        let joined : is_cut (x 0) (x 0) ≡ false = ap (λ (b : Bool). not (b && true)) (same_region-itself r) in
        let run = stretches-past m x 0 k n (λ d h. byte_at (0 + d) (omega arith)) (λ d h. joined) behind in
        run ∙ ap₂ (λ (p : ℕ) (w : Access). stretch (reached_in r first p) (suc k) ∷ stretches w.path)
        (add-zero a) (goes_on (suc k) n)

    first_fault-in_region : (k n : ℕ) → a + k ≤ r.start + r.len
        → first_fault (meets regions Direct a) 0 (k + n) ≡ first_fault (meets regions Direct (step a k)) 0 n
    first_fault-in_region k n inside =
        let m = meets regions Direct a in
        let x = λ (j : ℕ). reached_in r first (a + j) in
        first_fault-past m x 0 k n (λ d h. byte_at (0 + d) (omega arith)) ∙ ap (λ (w : Access). w.fault) (goes_on k n)

-- the window of len bytes of a region from an address on
abbrev pub window_in : Region → Cell → ℕ → ℕ → Window
window_in r first a len = window_at first (a - r.start) len

-- how many of the n bytes from an address on lie in a region
abbrev pub len_in : Region → ℕ → ℕ → ℕ
len_in r a n = min (r.len - (a - r.start)) n

module _ (regions : List Region) (a n : ℕ) (r : Region) (first : Cell) (is_region : IsRegion r)
    (some : r.place ≡ Some first) (found : containing_region regions a ≡ Some r)
    (one : (b : ℕ) → is_within r.start r.len b ≡ true → containing_region regions b ≡ Some r) (more : 0 < n) where
  -- what of a path lies in the region of its first byte is one stretch, where that region is found at each of its
  -- addresses
  pub stretches-in_found_region : stretches (path (meets regions Direct a) 0 n)
      ≡ record { first = reached_in r first a; len = len_in r a n }
      ∷ stretches (path (meets regions Direct (step a (len_in r a n))) 0 (n - len_in r a n))
  stretches-in_found_region =
      let within = is_within-bounds r.start r.len a (containing_region-within regions a r found) in
      let k = len_in r a n - 1 in
      let some_bytes : suc k ≡ len_in r a n = omega (arith, within.0, within.1) in
      let size : n ≡ suc k + (n - len_in r a n) = omega (arith, within.0, within.1) in
      let inside : a + suc k ≤ r.start + r.len = omega (arith, within.0, within.1) in
      let ends : (n - len_in r a n ≡ 0) ⊎ (a + suc k ≡ r.start + r.len) =
      elim (cases_lt (r.len - (a - r.start)) n) [
        | inl h ↦ inr (omega (arith, within.0, within.1))
        | inr h ↦ inl (omega arith)
      ] in
      ap (λ (t : ℕ). stretches (path (meets regions Direct a) 0 t)) size
      ∙ stretches-in_region regions a r first is_region one some within.0 k (n - len_in r a n) inside ends
      ∙ ap (λ (t : ℕ). stretch (reached_in r first a) t
      ∷ stretches (path (meets regions Direct (step a t)) 0 (n - len_in r a n))) some_bytes

  pub first_fault-in_found_region : first_fault (meets regions Direct a) 0 n
      ≡ first_fault (meets regions Direct (step a (len_in r a n))) 0 (n - len_in r a n)
  first_fault-in_found_region =
      let within = is_within-bounds r.start r.len a (containing_region-within regions a r found) in
      let size : n ≡ len_in r a n + (n - len_in r a n) = omega arith in
      let inside : a + len_in r a n ≤ r.start + r.len = omega (arith, within.0, within.1) in
      ap (first_fault (meets regions Direct a) 0) size
      ∙ first_fault-in_region regions a r first is_region one some within.0 (len_in r a n) (n - len_in r a n) inside

  pub windows-in_found_region : windows (path (meets regions Direct a) 0 n) ≡ window_in r first a (len_in r a n)
      ∷ windows (path (meets regions Direct (step a (len_in r a n))) 0 (n - len_in r a n))
  windows-in_found_region = ap (map window_of) stretches-in_found_region

  -- a walk from an address of such a region with host bytes
  pub walk-in_found_region : direct_items regions a n ≡ Ok (window_in r first a (len_in r a n))
      ∷ direct_items regions (step a (len_in r a n)) (n - len_in r a n)
  walk-in_found_region = ap₂
      (λ (ss : List Stretch) (o : Option AccessFault). map (λ w. Ok w) (map window_of ss)
      ++ error_item o) stretches-in_found_region first_fault-in_found_region

-- a walk from an address of a region with host bytes: one window of what of it lies in the region, and then the
-- walk from the next address
pub walk-in_region : (regions : List Region) (a n : ℕ) (r : Region) (first : Cell) → IsLayout regions
    → containing_region regions a ≡ Some r → r.place ≡ Some first → IsRegion r → 0 < n
    → direct_items regions a n ≡ Ok (window_in r first a (len_in r a n))
    ∷ direct_items regions (step a (len_in r a n)) (n - len_in r a n)
walk-in_region regions a n r first layout found some is_region more =
    walk-in_found_region regions a n r first is_region some found
    (λ b w. containing_region-layout regions a r b layout found w) more

pub windows-in_region : (regions : List Region) (a n : ℕ) (r : Region) (first : Cell) → IsLayout regions
    → containing_region regions a ≡ Some r → r.place ≡ Some first → IsRegion r → 0 < n
    → windows (path (meets regions Direct a) 0 n) ≡ window_in r first a (len_in r a n)
    ∷ windows (path (meets regions Direct (step a (len_in r a n))) 0 (n - len_in r a n))
windows-in_region regions a n r first layout found some is_region more =
    windows-in_found_region regions a n r first is_region some found
    (λ b w. containing_region-layout regions a r b layout found w) more
