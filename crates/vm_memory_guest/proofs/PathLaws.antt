-- What paths and their windows have in common, whatever the route.
use Rattle.std.specs.List.{AllByRecursion}
use Rattle.std.proofs.Common.{◌≡◌, ℕ, zero, suc, ◌+◌, ◌-◌, ◌^◌, ◌%◌, ◌<◌, ◌≤◌, ◌⊎◌, min, true, false, List, [], ◌∷◌, ◌++◌, map, length, All, suc-le-suc, Option, Some, None, MatchOption, slice_index, flat_map, refl, sym, ap, ap₂, subst, subst₂, ◌∙◌, inl, inr, add-zero, add-one, add_assoc, arith}
use Rattle.std.proofs.lemmas.Bool.{cond_both, cases_lt, cases_Bool, and_parts, true≢false, false≢true, eqb-true, not-false}
use Rattle.std.proofs.lemmas.List.Folds.{flat_map-map}
use Rattle.std.proofs.lemmas.List.Sums.{sum_by-cons}
use Rattle.std.proofs.lemmas.List.Elements.{All-contains, All-from_recursion}
use Rattle.std.proofs.lemmas.Option.{same_Some}
use Rattle.vm_memory_base.specs.Address.{step, numbers}
use Rattle.vm_memory_base.specs.Table.{Mapping, Says}
use Rattle.vm_memory_base.specs.declared.bitmap.BitmapId.{BitmapId}
use Rattle.vm_memory_guest.specs.Access.{AccessFault, Reached, Meets, Reaches, Stops, marked_bitmap, mark_of, meets_at, meets, onto, or_fault, path, first_fault, same_mappings, is_cut, Stretch, stretches, window_of, windows, Access, allowed, refusal, access_of}
use Rattle.vm_memory_guest.specs.Dirt.{path_cells, path_marks, window_marks}
use Rattle.vm_memory_base.specs.declared.iotlb.Permissions.{Permissions}
use Rattle.vm_memory_guest.specs.Host as host
use Rattle.vm_memory_guest.specs.Host.{Cell, Shape, Name, Holds, IsHeld, cells_from}
use Rattle.vm_memory_guest.specs.Memory.{Route, Direct, Through, mapping_of, translated, physical}
use Rattle.vm_memory_guest.specs.Region.{Region, IsRegion, IsLayout, containing_region, lies_in, lies_from, place_end, place_names, region_names}
use Rattle.vm_memory_guest.specs.Window.{bitmap_name, window_names, span, cells, cells_of, Window}
use Rattle.vm_memory_guest.proofs.HoldsLemmas.{Holds-each}
use Rattle.vm_memory_guest.proofs.PathWalk.{stretch, path-none, lengthened-first, stretches-cut, stretches-joined, is_within-bounds, containing_region-within, containing_region-contains, containing_region-same, window_in, windows-in_region}

-- a path has at most the bytes that were asked for
pub length-path : (m : ℕ → Meets) (i n : ℕ) → length (path m i n) ≤ n
unfolding path
length-path m i zero = omega arith
length-path m i (suc n) = go (length-path m (i + 1) n) (m i)
  where
    go : length (path m (i + 1) n) ≤ n → (o : Meets) → length (onto o (path m (i + 1) n)) ≤ suc n
    go ih (Reaches x) = suc-le-suc ih
    go ih (Stops fault) = omega arith

-- all of them, or as many as come before the one that stops it
pub path-ends : (m : ℕ → Meets) (i n : ℕ)
    → MatchOption (first_fault m i n) (length (path m i n) ≡ n)
    (λ fault. (length (path m i n) < n) × (m (i + length (path m i n)) ≡ Stops fault))
unfolding path first_fault
path-ends m i zero = refl
path-ends m i (suc n) = go (path-ends m (i + 1) n) (m i) refl
  where
    shifted : (k : ℕ) → i + 1 + k ≡ i + suc k
    shifted k = omega arith

    reached : (o : Option AccessFault) (xs : List Reached)
        → MatchOption o (length xs ≡ n) (λ fault. (length xs < n) × (m (i + 1 + length xs) ≡ Stops fault))
        → MatchOption o (suc (length xs) ≡ suc n)
        (λ fault. (suc (length xs) < suc n) × (m (i + suc (length xs)) ≡ Stops fault))
    reached None xs h = ap suc h
    reached (Some fault) xs h = (suc-le-suc h.0, ap m (sym (shifted (length xs))) ∙ h.1)

    go : MatchOption (first_fault m (i + 1) n) (length (path m (i + 1) n) ≡ n)
        (λ fault. (length (path m (i + 1) n) < n) × (m (i + 1 + length (path m (i + 1) n)) ≡ Stops fault)) → (o : Meets)
        → m i ≡ o → MatchOption (or_fault o (first_fault m (i + 1) n)) (length (onto o (path m (i + 1) n)) ≡ suc n)
        (λ fault. (length (onto o (path m (i + 1) n)) < suc n)
        × (m (i + length (onto o (path m (i + 1) n))) ≡ Stops fault))
    go ih (Reaches x) e = reached (first_fault m (i + 1) n) (path m (i + 1) n) ih
    go ih (Stops fault) e = (omega arith, ap m (add-zero i) ∙ e)

-- a byte before others begins a stretch of its own, or lengthens the one after it
record Split (x y : Reached) (ys : List Reached) : Type 0 where
  len : ℕ
  rest : List Stretch
  behind : stretches (y ∷ ys) ≡ stretch y len ∷ rest
  how : ((is_cut x y ≡ true) × (stretches (x ∷ y ∷ ys) ≡ stretch x 1 ∷ stretch y len ∷ rest))
      ⊎ ((is_cut x y ≡ false) × (stretches (x ∷ y ∷ ys) ≡ stretch x (len + 1) ∷ rest))

first_of : (y : Reached) (ys : List Reached) → (len : ℕ) × (rest : List Stretch)
    × (stretches (y ∷ ys) ≡ stretch y len ∷ rest)
unfolding stretches
first_of y ys = lengthened-first y (stretches ys)

split : (x y : Reached) (ys : List Reached) → Split x y ys
split x y ys =
    let f = first_of y ys in
    record {
      len = f.0;
      rest = f.1;
      behind = f.2;
      how = elim (cases_Bool (is_cut x y)) [
        | inl c ↦ inl (c, stretches-cut x (y ∷ ys) c ∙ ap (λ (ss : List Stretch). stretch x 1 ∷ ss) f.2)
        | inr c ↦ inr (c, stretches-joined x y (y ∷ ys) f.0 f.1 f.2 c)
      ];
    }

one_alone : (x : Reached) → stretches (x ∷ []) ≡ stretch x 1 ∷ []
unfolding stretches
one_alone x = refl

none_at_all : stretches [] ≡ []
unfolding stretches
none_at_all = refl

-- neighbouring bytes of a path that no cut parts stand in a relation
module _ (Next : Reached → Reached → Type 0) where
  abbrev pub Leads : Reached → List Reached → Type 0
  Leads x [] = Unit {0}
  Leads x (y ∷ ys) = is_cut x y ≡ false → Next x y

  abbrev pub IsSmooth : List Reached → Type 0
  IsSmooth [] = Unit {0}
  IsSmooth (x ∷ xs) = Leads x xs × IsSmooth xs

  pub path-smooth : (m : ℕ → Meets)
      → ((j : ℕ) (x y : Reached) → m j ≡ Reaches x → m (j + 1) ≡ Reaches y → is_cut x y ≡ false → Next x y) → (i n : ℕ)
      → IsSmooth (path m i n)
  unfolding path
  path-smooth m each i zero = tt
  path-smooth m each i (suc n) = go (path-smooth m each (i + 1) n) (m i) refl
    where
      behind : (x : Reached) → m i ≡ Reaches x → (k : ℕ) → Leads x (path m (i + 1) k)
      behind x e zero = tt
      behind x e (suc k) = next (m (i + 1)) refl
        where
          next : (o : Meets) → m (i + 1) ≡ o → Leads x (onto o (path m (i + 1 + 1) k))
          next (Reaches y) f = each i x y e f
          next (Stops fault) f = tt

      go : IsSmooth (path m (i + 1) n) → (o : Meets) → m i ≡ o → IsSmooth (onto o (path m (i + 1) n))
      go ih (Reaches x) e = (behind x e n, ih)
      go ih (Stops fault) e = tt

-- what holds of each byte that is reached
pub path-all : (R : Reached → Type 0) (m : ℕ → Meets) (i n : ℕ)
    → ((j : ℕ) → i ≤ j → j < i + n → (x : Reached) → m j ≡ Reaches x → R x) → AllByRecursion R (path m i n)
unfolding path
path-all R m i zero each = tt
path-all R m i (suc n) each = go (path-all R m (i + 1) n (λ j low high. each j (omega arith) (omega arith))) (m i) refl
  where
    go : AllByRecursion R (path m (i + 1) n) → (o : Meets) → m i ≡ o → AllByRecursion R (onto o (path m (i + 1) n))
    go ih (Reaches x) e = (each i (omega arith) (omega arith) x e, ih)
    go ih (Stops fault) e = tt

-- what holds of each stretch: it holds of one byte, and stays when a byte comes before it
module _ (Next : Reached → Reached → Type 0) (R : Reached → Type 0) (Q : Stretch → Type 0)
    (one : (x : Reached) → R x → Q (record { first = x; len = 1 }))
    (more : (x y : Reached) (len : ℕ) → R x → Next x y → Q (record { first = y; len = len })
    → Q (record { first = x; len = len + 1 })) where
  pub stretches-all : (xs : List Reached) → AllByRecursion R xs → IsSmooth Next xs → AllByRecursion Q (stretches xs)
  stretches-all [] each smooth = subst (AllByRecursion Q) (sym none_at_all) tt
  stretches-all (x ∷ []) each smooth = subst (AllByRecursion Q) (sym (one_alone x)) (one x each.0, tt)
  stretches-all (x ∷ y ∷ ys) each smooth =
      let s = split x y ys in
      let behind : AllByRecursion Q (stretch y s.len ∷ s.rest) =
      subst (AllByRecursion Q) s.behind (stretches-all (y ∷ ys) each.1 smooth.1) in
      elim s.how [
        | inl h ↦ subst (AllByRecursion Q) (sym h.1) (one x each.0, behind)
        | inr h ↦ subst (AllByRecursion Q) (sym h.1) (more x y s.len each.0 (smooth.0 h.0) behind.0, behind.1)
      ]

-- what the stretches of a path give one after the other is what its bytes give
module _ {A : Type 0} (Next : Reached → Reached → Type 0) (f : Reached → A) (g : Stretch → List A)
    (one : (x : Reached) → g (record { first = x; len = 1 }) ≡ f x ∷ [])
    (more : (x y : Reached) (len : ℕ) → Next x y
    → g (record { first = x; len = len + 1 }) ≡ f x ∷ g (record { first = y; len = len })) where
  pub flat_map-stretches : (xs : List Reached) → IsSmooth Next xs → flat_map g (stretches xs) ≡ map f xs
  flat_map-stretches [] smooth = ap (flat_map g) none_at_all
  flat_map-stretches (x ∷ []) smooth = ap (flat_map g) (one_alone x) ∙ ap (λ (bs : List A). bs ++ []) (one x)
  flat_map-stretches (x ∷ y ∷ ys) smooth =
      let s = split x y ys in
      let behind : flat_map g (stretch y s.len ∷ s.rest) ≡ map f (y ∷ ys) =
      ap (flat_map g) (sym s.behind) ∙ flat_map-stretches (y ∷ ys) smooth.1 in
      elim s.how [
        | inl h ↦ ap (flat_map g) h.1 ∙ ap₂ ◌++◌ (one x) behind
        | inr h ↦
            ap (flat_map g) h.1 ∙ ap (λ (bs : List A). bs ++ flat_map g s.rest) (more x y s.len (smooth.0 h.0))
            ∙ ap (λ (bs : List A). f x ∷ bs) behind
      ]

-- the windows of a path have as many bytes as the path
pub span-windows : (xs : List Reached) → span (windows xs) ≡ length xs
span-windows [] = ap (λ (ss : List Stretch). span (map window_of ss)) none_at_all
span-windows (x ∷ []) = ap (λ (ss : List Stretch). span (map window_of ss)) (one_alone x)
span-windows (x ∷ y ∷ ys) =
    let size = λ (w : Window). w.size in
    let s = split x y ys in
    let behind : span (map window_of (stretch y s.len ∷ s.rest)) ≡ suc (length ys) =
    ap (λ (ss : List Stretch). span (map window_of ss)) (sym s.behind) ∙ span-windows (y ∷ ys) in
    let first_after : span (map window_of (stretch y s.len ∷ s.rest)) ≡ s.len + span (map window_of s.rest) =
    sum_by-cons size (window_of (stretch y s.len)) (map window_of s.rest) in
    elim s.how [
      | inl h ↦
          ap (λ (ss : List Stretch). span (map window_of ss)) h.1
          ∙ sum_by-cons size (window_of (stretch x 1)) (map window_of (stretch y s.len ∷ s.rest))
          ∙ ap (λ (t : ℕ). 1 + t) behind ∙ omega arith
      | inr h ↦
          ap (λ (ss : List Stretch). span (map window_of ss)) h.1
          ∙ sum_by-cons size (window_of (stretch x (s.len + 1))) (map window_of s.rest) ∙ omega arith
    ]

all_map : {X Y : Type 0} (P : Y → Type 0) (f : X → Y) (xs : List X) → AllByRecursion (λ x. P (f x)) xs
    → AllByRecursion P (map f xs)
all_map P f [] h = tt
all_map P f (x ∷ xs) h = (h.0, all_map P f xs h.1)

-- a byte that an access reaches: the region that holds its physical address, and where its bytes lie
pub record Arrives (regions : List Region) (route : Route) (a i : ℕ) (x : Reached) : Type 0 where
  pub first : Cell
  pub found : containing_region regions (physical route a i) ≡ Some x.region
  pub some : x.region.place ≡ Some first
  pub at : x.cell ≡ record { block = first.block; offset = first.offset + (physical route a i - x.region.start) }
  pub mapping : x.mapping ≡ mapping_of route a i
  pub bitmap : x.bitmap ≡ marked_bitmap route x.cell
  pub mark : x.mark ≡ mark_of route (a + i) x.cell

reached_of : Reached → Meets → Reached
reached_of d (Reaches x) = x
reached_of d (Stops fault) = d

pub meets-arrives : (regions : List Region) (route : Route) (a i : ℕ) (x : Reached)
    → meets regions route a i ≡ Reaches x → Arrives regions route a i x
unfolding reached_of
meets-arrives regions route a i x e = from_home (containing_region regions p) refl e
  where
    p : ℕ
    p = physical route a i

    from_place : (r : Region) → containing_region regions p ≡ Some r → (o : Option Cell) → r.place ≡ o
        → meets_at route (a + i) (mapping_of route a i) p (lies_from r o (p - r.start)) ≡ Reaches x
        → Arrives regions route a i x
    from_place r found None bare h = absurd (cc)
    from_place r found (Some first) some h =
        subst (Arrives regions route a i) (ap (reached_of x) h)
        (record {
          first = first;
          found = found;
          some = some;
          at = refl;
          mapping = refl;
          bitmap = refl;
          mark = refl;
        })

    from_home : (o : Option Region) → containing_region regions p ≡ o
        → meets_at route (a + i) (mapping_of route a i) p (lies_in o p) ≡ Reaches x → Arrives regions route a i x
    from_home None hole h = absurd (cc)
    from_home (Some r) found h = from_place r found r.place refl h

-- the physical address one on: the next, or 0 after the greatest
abbrev IsNext : ℕ → ℕ → Type 0
IsNext p q = (q ≡ p + 1) ⊎ ((q ≡ 0) × (p + 1 ≡ 2 ^ 64))

next_of : (s : ℕ) → IsNext (s % 2 ^ 64) ((s + 1) % 2 ^ 64)
next_of s = elim (cases_lt ((s + 1) % 2 ^ 64) 1) [
  | inl h ↦ inr (omega arith, omega arith)
  | inr h ↦ inl (omega arith)
]

translated_next : (s : ℕ) (m n : Option Mapping) → same_mappings m n ≡ true
    → IsNext (translated s m) (translated (s + 1) n)
translated_next s None None h = inl refl
translated_next s None (Some n) h = absurd (false≢true h)
translated_next s (Some m) None h = absurd (false≢true h)
translated_next s (Some m) (Some n) h =
    let same : m.difference ≡ n.difference = eqb-true _ _ (and_parts _ _ h).0 in
    subst (λ (t : ℕ). IsNext ((s + m.difference) % 2 ^ 64) (t % 2 ^ 64)) (omega arith) (next_of (s + m.difference))

physical_next : (route : Route) (a i : ℕ) → same_mappings (mapping_of route a i) (mapping_of route a (i + 1)) ≡ true
    → IsNext (physical route a i) (physical route a (i + 1))
physical_next Direct a i h =
    subst (λ (t : ℕ). IsNext ((a + i) % 2 ^ 64) (t % 2 ^ 64)) (add_assoc a i 1) (next_of (a + i))
physical_next (Through f space) a i h =
    subst (λ (t : ℕ). same_mappings (f (a + i)) (f t) ≡ true
    → IsNext (translated (a + i) (f (a + i))) (translated t (f t))) (add_assoc a i 1)
    (translated_next (a + i) (f (a + i)) (f (a + i + 1))) h

-- one byte follows another, in its block and in the bitmap that a write marks
pub record Follows (x y : Reached) : Type 0 where
  pub cell : y.cell ≡ record { block = x.cell.block; offset = x.cell.offset + 1 }
  pub bitmap : y.bitmap ≡ x.bitmap
  pub mark : y.mark ≡ x.mark + 1

abbrev cell_at : ℕ → ℕ → Cell
cell_at block offset = record { block = block; offset = offset }

bitmap_next : (route : Route) (c : Cell) (offset : ℕ)
    → marked_bitmap route (record { block = c.block; offset = offset }) ≡ marked_bitmap route c
bitmap_next Direct c offset = refl
bitmap_next (Through f space) c offset = refl

mark_next : (route : Route) (a i : ℕ) (c : Cell)
    → mark_of route (a + (i + 1)) (record { block = c.block; offset = c.offset + 1 }) ≡ mark_of route (a + i) c + 1
mark_next Direct a i c = refl
mark_next (Through f space) a i c = sym (add_assoc a i 1)

pub meets-follows : (regions : List Region) (route : Route) (a : ℕ) → All IsRegion regions → (i : ℕ) (x y : Reached)
    → meets regions route a i ≡ Reaches x → meets regions route a (i + 1) ≡ Reaches y → is_cut x y ≡ false → Follows x y
meets-follows regions route a each i x y e f c =
    let p = physical route a i in
    let q = physical route a (i + 1) in
    let here = meets-arrives regions route a i x e in
    let there = meets-arrives regions route a (i + 1) y f in
    let joined = and_parts _ _ (not-false _ c) in
    let homes : x.region ≡ y.region =
    containing_region-same regions p q x.region y.region here.found there.found joined.0 in
    let next : IsNext p q =
    physical_next route a i
    (subst₂ (λ (m n : Option Mapping). same_mappings m n ≡ true) here.mapping there.mapping joined.1) in
    let is_region : IsRegion x.region =
    All-contains IsRegion regions x.region each (containing_region-contains regions p x.region here.found) in
    let p_within = is_within-bounds x.region.start x.region.len p
    (containing_region-within regions p x.region here.found) in
    let q_within = is_within-bounds x.region.start x.region.len q
    (containing_region-within regions q x.region (there.found ∙ ap (λ (r : Region). Some r) (sym homes))) in
    let one_on : q ≡ p + 1 =
    elim next [
      | inl h ↦ h
      | inr h ↦ absurd
          (omega (arith, is_region.short, is_region.fits, p_within.0, p_within.1, q_within.0, q_within.1, h.0, h.1))
    ] in
    let firsts : here.first ≡ there.first =
    same_Some _ _ (sym here.some ∙ ap (λ (r : Region). r.place) homes ∙ there.some) in
    let offsets : here.first.offset + (q - x.region.start) ≡ here.first.offset + (p - x.region.start) + 1 =
    omega (arith, p_within.0) in
    let cells : y.cell ≡ cell_at x.cell.block (x.cell.offset + 1) =
    there.at ∙ ap₂ (λ (c : Cell) (r : Region). cell_at c.block (c.offset + (q - r.start))) (sym firsts) (sym homes)
    ∙ ap (cell_at here.first.block) offsets ∙ ap (λ (c : Cell). cell_at c.block (c.offset + 1)) (sym here.at) in
    record {
      cell = cells;
      bitmap = there.bitmap ∙ ap (marked_bitmap route) cells ∙ bitmap_next route x.cell (x.cell.offset + 1)
          ∙ sym here.bitmap;
      mark = there.mark ∙ ap (mark_of route (a + (i + 1))) cells ∙ mark_next route a i x.cell
          ∙ ap (λ (t : ℕ). t + 1) (sym here.mark);
    }

pub path-follows : (regions : List Region) (route : Route) (a n : ℕ) → All IsRegion regions
    → IsSmooth Follows (path (meets regions route a) 0 n)
path-follows regions route a n each =
    path-smooth Follows (meets regions route a) (meets-follows regions route a each) 0 n

-- the windows of a path put together are the path
pub cells-windows : (regions : List Region) (route : Route) (a n : ℕ) → All IsRegion regions
    → cells (windows (path (meets regions route a) 0 n)) ≡ path_cells (path (meets regions route a) 0 n)
cells-windows regions route a n each =
    let xs = path (meets regions route a) 0 n in
    let g = λ (s : Stretch). cells_from s.first.cell.block s.first.cell.offset s.len in
    flat_map-map cells_of window_of (stretches xs)
    ∙ flat_map-stretches Follows (λ x. x.cell) g (λ x. refl)
    (λ x y len h. ap (cells_from x.cell.block x.cell.offset) (add-one len)
    ∙ ap (λ (c : Cell). x.cell ∷ cells_from c.block c.offset len) (sym h.cell)) xs
    (path-follows regions route a n each)

-- and so are the marks of their bytes
pub marks-windows : (regions : List Region) (route : Route) (a n : ℕ) → All IsRegion regions
    → flat_map window_marks (windows (path (meets regions route a) 0 n)) ≡ path_marks (path (meets regions route a) 0 n)
marks-windows regions route a n each =
    let xs = path (meets regions route a) 0 n in
    let marks = λ (bitmap : BitmapId) (base len : ℕ). map (λ (offset : ℕ). (bitmap, offset)) (numbers base len) in
    flat_map-map window_marks window_of (stretches xs)
    ∙ flat_map-stretches Follows (λ x. (x.bitmap, x.mark)) (λ s. marks s.first.bitmap s.first.mark s.len)
    (λ x. refl) (λ x y len h. ap (marks x.bitmap x.mark) (add-one len)
    ∙ ap₂ (λ (b : BitmapId) (t : ℕ). (x.bitmap, x.mark) ∷ marks b t len) (sym h.bitmap) (sym h.mark)) xs
    (path-follows regions route a n each)

-- an offset in a bitmap that a byte marks is one of 64 bits
abbrev IsMark : Reached → Type 0
IsMark x = x.mark + 1 ≤ 2 ^ 64

bases_within : (regions : List Region) (route : Route) (a n : ℕ) → All IsRegion regions
    → AllByRecursion IsMark (path (meets regions route a) 0 n)
    → AllByRecursion (λ w. w.bitmap.base + w.size ≤ 2 ^ 64) (windows (path (meets regions route a) 0 n))
bases_within regions route a n each marks =
    let xs = path (meets regions route a) 0 n in
    all_map (λ (w : Window). w.bitmap.base + w.size ≤ 2 ^ 64) window_of (stretches xs)
    (stretches-all Follows IsMark (λ s. s.first.mark + s.len ≤ 2 ^ 64) (λ x h. h)
    (λ x y len h k q. omega (arith, k.mark)) xs marks (path-follows regions route a n each))

-- a byte that is reached lies within its region's bytes
arrives_within : (regions : List Region) (route : Route) (a i : ℕ) (x : Reached) (h : Arrives regions route a i x)
    → (x.cell.block ≡ h.first.block) × (x.cell.offset + 1 ≤ h.first.offset + x.region.len)
arrives_within regions route a i x h =
    let within = is_within-bounds x.region.start x.region.len (physical route a i)
    (containing_region-within regions (physical route a i) x.region h.found) in
    let offset : x.cell.offset ≡ h.first.offset + (physical route a i - x.region.start) =
    ap (λ (c : Cell). c.offset) h.at in
    (ap (λ (c : Cell). c.block) h.at, omega (arith, within.0, within.1))

arrives_below : (regions : List Region) (route : Route) (a i : ℕ) (x : Reached) → All IsRegion regions
    → Arrives regions route a i x → x.cell.offset + 1 < 2 ^ 64
arrives_below regions route a i x each h =
    let is_region : IsRegion x.region =
    All-contains IsRegion regions x.region each
    (containing_region-contains regions (physical route a i) x.region h.found) in
    let offsets : h.first.offset + x.region.len < 2 ^ 64 =
    subst (λ (o : Option Cell). place_end o x.region.len < 2 ^ 64) h.some is_region.offsets in
    let within = arrives_within regions route a i x h in
    omega (arith, within.1)

-- the windows of a path mark offsets of 64 bits
pub windows-bases_direct : (regions : List Region) (a n : ℕ) → All IsRegion regions
    → AllByRecursion (λ w. w.bitmap.base + w.size ≤ 2 ^ 64) (windows (path (meets regions Direct a) 0 n))
windows-bases_direct regions a n each =
    bases_within regions Direct a n each (path-all IsMark (meets regions Direct a) 0 n (λ j low high x e.
    let arrives = meets-arrives regions Direct a j x e in
    let below = arrives_below regions Direct a j x each arrives in
    omega (arith, arrives.mark)))

pub windows-bases_through : (regions : List Region) (f : Says) (space a n : ℕ) → All IsRegion regions → a + n ≤ 2 ^ 64
    → AllByRecursion (λ w. w.bitmap.base + w.size ≤ 2 ^ 64) (windows (path (meets regions (Through f space) a) 0 n))
windows-bases_through regions f space a n each fits =
    bases_within regions (Through f space) a n each
    (path-all IsMark (meets regions (Through f space) a) 0 n (λ j low high x e.
    let arrives = meets-arrives regions (Through f space) a j x e in
    omega (arith, arrives.mark)))

-- the windows of a path without translation inside one region are one window
pub windows-one : (regions : List Region) (a n : ℕ) (r : Region) (first : Cell) → IsLayout regions
    → containing_region regions a ≡ Some r → r.place ≡ Some first → IsRegion r → 0 < n → a - r.start + n ≤ r.len
    → windows (path (meets regions Direct a) 0 n) ≡ window_in r first a n ∷ []
windows-one regions a n r first layout found some is_region more inside =
    let w = window_in r first a n in
    let whole : min (r.len - (a - r.start)) n ≡ n = omega arith in
    let no_more : n - n ≡ 0 = omega arith in
    windows-in_region regions a n r first layout found some is_region more
    ∙ ap (λ (k : ℕ). window_in r first a k ∷ windows (path (meets regions Direct (step a k)) 0 (n - k))) whole
    ∙ ap (λ (t : ℕ). w ∷ windows (path (meets regions Direct (step a n)) 0 t)) no_more
    ∙ ap (λ (xs : List Reached). w ∷ windows xs) (path-none (meets regions Direct (step a n)) 0)
    ∙ ap (λ (ss : List Stretch). w ∷ map window_of ss) none_at_all

-- a host that holds what regions name holds what each of them names
region_held : (shape : Shape) (regions : List Region) (a : ℕ) (r : Region) → Holds shape (flat_map region_names regions)
    → containing_region regions a ≡ Some r → Holds shape (region_names r)
region_held shape regions a r h e =
    All-contains (λ q. Holds shape (region_names q)) regions r ((Holds-each shape regions).0 h)
    (containing_region-contains regions a r e)

-- what a route names besides the regions
abbrev pub route_names : Route → List Name
route_names Direct = []
route_names (Through f space) = host.Space space ∷ []

-- a host holds a byte that is reached, and the bitmap that a write of it marks
abbrev HoldsByte : Shape → Reached → Type 0
HoldsByte shape x = Holds shape (window_names (window_of (record { first = x; len = 1 })))

bitmap_held : (shape : Shape) (route : Route) (c : Cell) → Holds shape (route_names route)
    → c.block < length shape.blocks → IsHeld shape (bitmap_name (marked_bitmap route c))
bitmap_held shape Direct c h k = k
bitmap_held shape (Through f space) c h k = h.0

arrives_held : (shape : Shape) (regions : List Region) (route : Route) (a i : ℕ) (x : Reached)
    → Holds shape (flat_map region_names regions) → Holds shape (route_names route) → Arrives regions route a i x
    → HoldsByte shape x
arrives_held shape regions route a i x held held_too h =
    let place : Holds shape (place_names (Some h.first) x.region.len) =
    subst (λ (o : Option Cell). Holds shape (place_names o x.region.len)) h.some
    (region_held shape regions (physical route a i) x.region held h.found) in
    let within = arrives_within regions route a i x h in
    let inside = place.0 in
    let ends : x.cell.offset + 1 ≤ slice_index shape.blocks h.first.block = omega (arith, within.1, inside.1) in
    let block : x.cell.block < length shape.blocks =
    subst (λ (b : ℕ). b < length shape.blocks) (sym within.0) inside.0 in
    let here : x.cell.offset + 1 ≤ slice_index shape.blocks x.cell.block =
    subst (λ (b : ℕ). x.cell.offset + 1 ≤ slice_index shape.blocks b) (sym within.0) ends in
    let bitmap : IsHeld shape (bitmap_name x.bitmap) =
    subst (λ (b : BitmapId). IsHeld shape (bitmap_name b)) (sym h.bitmap)
    (bitmap_held shape route x.cell held_too block) in
    ((block, here), (bitmap, tt))

-- the windows of a memory that a host holds are held
pub windows-held : (shape : Shape) (regions : List Region) (route : Route) (a n : ℕ) → All IsRegion regions
    → Holds shape (flat_map region_names regions) → Holds shape (route_names route)
    → AllByRecursion (λ w. Holds shape (window_names w)) (windows (path (meets regions route a) 0 n))
windows-held shape regions route a n each held held_too =
    let xs = path (meets regions route a) 0 n in
    let bytes : AllByRecursion (HoldsByte shape) xs =
    path-all (HoldsByte shape) (meets regions route a) 0 n
    (λ j low high x e. arrives_held shape regions route a j x held held_too
    (meets-arrives regions route a j x e)) in
    all_map (λ (w : Window). Holds shape (window_names w)) window_of (stretches xs)
    (stretches-all Follows (HoldsByte shape) (λ s. Holds shape (window_names (window_of s))) (λ x h. h)
    (λ x y len h k q.
    let moved : Holds shape (host.Place x.cell.block (x.cell.offset + 1) len ∷ bitmap_name x.bitmap ∷ []) =
    subst₂ (λ (c : Cell) (b : BitmapId). Holds shape
    (host.Place c.block c.offset len ∷ bitmap_name b ∷ [])) k.cell k.bitmap q in
    let inside = moved.0 in
    let ends : x.cell.offset + (len + 1) ≤ slice_index shape.blocks x.cell.block = omega (arith, inside.1) in
    ((inside.0, ends), moved.1)) xs bytes (path-follows regions route a n each))

-- each of them, by its place in the list
pub windows-all_held : (shape : Shape) (regions : List Region) (route : Route) (a n : ℕ) → All IsRegion regions
    → Holds shape (flat_map region_names regions) → Holds shape (route_names route)
    → All (λ w. Holds shape (window_names w)) (windows (path (meets regions route a) 0 n))
windows-all_held shape regions route a n each held held_too =
    All-from_recursion (λ w. Holds shape (window_names w)) (windows (path (meets regions route a) 0 n))
    (windows-held shape regions route a n each held held_too)

-- an access that is refused asks for something
refused_some : (route : Route) (a n : ℕ) (access : Permissions) → allowed route a n access ≡ false → 0 < n
refused_some Direct a n access h = absurd (true≢false h)
refused_some (Through f space) a zero access h = absurd (true≢false h)
refused_some (Through f space) a (suc n) access h = omega arith

abbrev Ends : ℕ → Access → Type 0
Ends n access = MatchOption access.fault (length access.path ≡ n) (λ fault. length access.path < n)

reached_ends : (m : ℕ → Meets) (n : ℕ) → Ends n (record { path = path m 0 n; fault = first_fault m 0 n })
reached_ends m n = go (first_fault m 0 n) (path-ends m 0 n)
  where
    go : (o : Option AccessFault)
        → MatchOption o (length (path m 0 n) ≡ n)
        (λ fault. (length (path m 0 n) < n) × (m (0 + length (path m 0 n)) ≡ Stops fault))
        → MatchOption o (length (path m 0 n) ≡ n) (λ fault. length (path m 0 n) < n)
    go None h = h
    go (Some fault) h = h.0

-- an access reaches all that was asked, unless something stops it
pub access-ends : (regions : List Region) (route : Route) (a n : ℕ) (access : Permissions)
    → MatchOption (access_of regions route a n access).fault (length (access_of regions route a n access).path ≡ n)
    (λ fault. length (access_of regions route a n access).path < n)
access-ends regions route a n access =
    cond_both (allowed route a n access)
    (record { path = path (meets regions route a) 0 n; fault = first_fault (meets regions route a) 0 n })
    (record { path = []; fault = Some (refusal route a n) }) (Ends n) (λ h. reached_ends (meets regions route a) n)
    (λ h. refused_some route a n access h)

-- at most what was asked
pub length-access : (regions : List Region) (route : Route) (a n : ℕ) (access : Permissions)
    → length (access_of regions route a n access).path ≤ n
length-access regions route a n access =
    cond_both (allowed route a n access)
    (record { path = path (meets regions route a) 0 n; fault = first_fault (meets regions route a) 0 n })
    (record { path = []; fault = Some (refusal route a n) }) (λ (x : Access). length x.path ≤ n)
    (λ h. length-path (meets regions route a) 0 n) (λ h. omega arith)
