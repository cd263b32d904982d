-- Marks of windows, for exact bitmaps: they are the dirt of the bytes of the windows.
use Rattle.std.proofs.Common.{◌≡◌, ℕ, zero, suc, ◌+◌, ◌^◌, ◌≤◌, Bool, true, ltb, List, [], ◌∷◌, ◌++◌, map, flat_map, set, slice_get, Option, Some, None, All, MatchBool, refl, sym, ap, subst, ◌∙◌, arith}
use Rattle.std.proofs.lemmas.Bool.{lt-ltb}
use Rattle.std.proofs.lemmas.List.Elements.{All-head, All-tail}
use Rattle.vm_memory_base.specs.Address.{numbers}
use Rattle.vm_memory_base.specs.Pages.{PageSet, marked, marked_each}
use Rattle.vm_memory_base.specs.declared.bitmap.BitmapId.{BitmapId}
use Rattle.vm_memory_base.specs.declared.bitmap.BitmapId.TheVariants.{Block, Space}
use Rattle.vm_memory_guest.specs.Host.{Host, Cell, written}
use Rattle.vm_memory_guest.specs.Window.{cells, MarksOne, Marks, MarksWindow, MarksAll, Writes, Window}
use Rattle.vm_memory_guest.specs.Access.{Reached, windows}
use Rattle.vm_memory_guest.specs.Dirt.{change_one, changed_item, marks_pages, dirtied, path_marks, window_marks, path_cells, after_write, with_pages}

-- the bytes of the windows of a path mark what the bytes of the path mark, at offsets of 64 bits
pub record MarksFollow (xs : List Reached) : Type 0 where
  pub same : path_marks xs ≡ flat_map window_marks (windows xs)
  pub fit : All (λ w. w.bitmap.base + w.size ≤ 2 ^ 64) (windows xs)

-- ---- one element of a list changed

change_one-cons : {X : Type 0} (f : X → X) (x : X) (xs : List X) (i : ℕ) (o : Option X)
    → change_one f (x ∷ xs) (suc i) o ≡ x ∷ change_one f xs i o
change_one-cons f x xs i None = refl
change_one-cons f x xs i (Some y) = refl

-- a change past the first element is one of the others
pub changed_item-cons : {X : Type 0} (f : X → X) (x : X) (xs : List X) (i : ℕ)
    → changed_item f (x ∷ xs) (suc i) ≡ x ∷ changed_item f xs i
changed_item-cons f x xs i = change_one-cons f x xs i (slice_get xs i)

-- the same element changed twice
changed_item-changed_item : {X : Type 0} (f g : X → X) (xs : List X) (i : ℕ)
    → changed_item g (changed_item f xs i) i ≡ changed_item (λ x. g (f x)) xs i
changed_item-changed_item f g [] i = refl
changed_item-changed_item f g (x ∷ xs) zero = refl
changed_item-changed_item {X} f g (x ∷ xs) (suc i) =
    ap (λ (ys : List X). changed_item g ys (suc i)) (changed_item-cons f x xs i)
    ∙ changed_item-cons g x (changed_item f xs i) i
    ∙ ap (λ (ys : List X). x ∷ ys) (changed_item-changed_item f g xs i)
    ∙ sym (changed_item-cons (λ y. g (f y)) x xs i)

-- two changes that agree
changed_agree : {X : Type 0} (f g : X → X) → ((x : X) → f x ≡ g x) → (xs : List X) (i : ℕ)
    → changed_item f xs i ≡ changed_item g xs i
changed_agree {X} f g h xs i = at (slice_get xs i)
  where
    at : (o : Option X) → change_one f xs i o ≡ change_one g xs i o
    at None = refl
    at (Some x) = ap (λ (y : X). set xs i y) (h x)

-- a change that changes nothing
changed_same : {X : Type 0} (f : X → X) → ((x : X) → f x ≡ x) → (xs : List X) (i : ℕ) → changed_item f xs i ≡ xs
changed_same f h [] i = refl
changed_same {X} f h (x ∷ xs) zero = ap (λ (y : X). y ∷ xs) (h x)
changed_same {X} f h (x ∷ xs) (suc i) = changed_item-cons f x xs i
    ∙ ap (λ (ys : List X). x ∷ ys) (changed_same f h xs i)

-- a change of what is seen of a list
changed_item-map : {X Y : Type 0} (p : X → Y) (f : Y → Y) (xs : List X) (i : ℕ) (x y : X)
    → slice_get xs i ≡ Some x → p y ≡ f (p x) → map p (set xs i y) ≡ changed_item f (map p xs) i
changed_item-map p f [] i x y h e = absurd (cc)
changed_item-map {X} {Y} p f (z ∷ xs) zero x y h e =
    let q : z ≡ x = cc in
    ap (λ (w : Y). w ∷ map p xs) (e ∙ ap (λ (w : X). f (p w)) (sym q))
changed_item-map {X} {Y} p f (z ∷ xs) (suc i) x y h e =
    ap (λ (ws : List Y). p z ∷ ws) (changed_item-map p f xs i x y h e) ∙ sym (changed_item-cons f (p z) (map p xs) i)

-- ---- marks of a host's bitmaps

-- a mark of one byte at each of these offsets of bitmaps, in order
abbrev pub each_marked : List (BitmapId × ℕ) → Host PageSet → Host PageSet
each_marked [] host = host
each_marked (m ∷ ms) host = each_marked ms (marks_pages m.0 m.1 1 host)

-- marks of bytes one after the other
each_marked-append : (ms ns : List (BitmapId × ℕ)) (host : Host PageSet)
    → each_marked (ms ++ ns) host ≡ each_marked ns (each_marked ms host)
each_marked-append [] ns host = refl
each_marked-append (m ∷ ms) ns host = each_marked-append ms ns (marks_pages m.0 m.1 1 host)

-- the marks of bytes of one bitmap change that bitmap, which is one of those of blocks or of spaces
each_marked-one : (id : BitmapId) (number : ℕ) (put : List PageSet → Host PageSet)
    → ((offset : ℕ) (bs : List PageSet)
    → marks_pages id offset 1 (put bs) ≡ put (changed_item (marked offset 1) bs number))
    → (offsets : List ℕ) (bs : List PageSet)
    → each_marked (map (λ (offset : ℕ). (id, offset)) offsets) (put bs)
    ≡ put (changed_item (marked_each offsets) bs number)
each_marked-one id number put one [] bs =
    ap put (sym (changed_same (marked_each []) (λ (s : PageSet). refl) bs number))
each_marked-one id number put one (offset ∷ offsets) bs =
    ap (each_marked (map (λ (o : ℕ). (id, o)) offsets)) (one offset bs)
    ∙ each_marked-one id number put one offsets (changed_item (marked offset 1) bs number)
    ∙ ap put (changed_item-changed_item (marked offset 1) (marked_each offsets) bs number)

-- the dirt of a path is the marks of its bytes
dirtied-each : (xs : List Reached) (host : Host PageSet) → dirtied xs host ≡ each_marked (path_marks xs) host
dirtied-each [] host = refl
dirtied-each (x ∷ xs) host = dirtied-each xs (marks_pages x.bitmap x.mark 1 host)

-- the dirt of windows, one after the other
abbrev pub windows_dirtied : List Window → Host PageSet → Host PageSet
windows_dirtied [] host = host
windows_dirtied (w ∷ ws) host = windows_dirtied ws (marks_pages w.bitmap.id w.bitmap.base w.size host)

abbrev pub Fits : Window → Type 0
Fits w = w.bitmap.base + w.size ≤ 2 ^ 64

-- what is taken from the laws of page sets: a mark is a mark of each of its bytes, and a mark of no bytes changes
-- nothing
abbrev pub MarkIsByBytes : Type 0
MarkIsByBytes = (start len : ℕ) (set : PageSet) → start + len ≤ 2 ^ 64
    → marked_each (numbers start len) set ≡ marked start len set

abbrev pub EmptyMark : Type 0
EmptyMark = (start : ℕ) (set : PageSet) → marked start 0 set ≡ set

module _ (by_bytes : MarkIsByBytes) where
  -- a mark of a host's bitmap is a mark of each of its bytes
  marks_pages-by_bytes : (id : BitmapId) (base len : ℕ) (host : Host PageSet) → base + len ≤ 2 ^ 64
      → marks_pages id base len host ≡ each_marked (map (λ (offset : ℕ). (id, offset)) (numbers base len)) host
  marks_pages-by_bytes (Block block) base len host fits =
      ap (λ (bs : List PageSet). record host { bitmaps = bs })
      (changed_agree (marked base len) (marked_each (numbers base len))
      (λ (s : PageSet). sym (by_bytes base len s fits)) host.bitmaps block)
      ∙ sym (each_marked-one (Block block) block (λ bs. record host { bitmaps = bs }) (λ o bs. refl)
      (numbers base len) host.bitmaps)
  marks_pages-by_bytes (Space space) base len host fits =
      ap (λ (bs : List PageSet). record host { spaces = bs })
      (changed_agree (marked base len) (marked_each (numbers base len))
      (λ (s : PageSet). sym (by_bytes base len s fits)) host.spaces space)
      ∙ sym (each_marked-one (Space space) space (λ bs. record host { spaces = bs }) (λ o bs. refl)
      (numbers base len) host.spaces)

  -- the dirt of windows is the marks of their bytes
  pub windows_dirtied-each : (ws : List Window) (host : Host PageSet) → All Fits ws
      → windows_dirtied ws host ≡ each_marked (flat_map window_marks ws) host
  windows_dirtied-each [] host fit = refl
  windows_dirtied-each (w ∷ ws) host fit =
      windows_dirtied-each ws (marks_pages w.bitmap.id w.bitmap.base w.size host) (All-tail Fits w ws fit)
      ∙ ap (each_marked (flat_map window_marks ws))
      (marks_pages-by_bytes w.bitmap.id w.bitmap.base w.size host (All-head Fits w ws fit))
      ∙ sym (each_marked-append (window_marks w) (flat_map window_marks ws) host)

  -- the dirt of the windows of a path is that of its bytes
  windows_dirtied-windows : (xs : List Reached) (host : Host PageSet) → MarksFollow xs
      → windows_dirtied (windows xs) host ≡ dirtied xs host
  windows_dirtied-windows xs host follow =
      windows_dirtied-each (windows xs) host follow.fit
      ∙ ap (λ (ms : List (BitmapId × ℕ)). each_marked ms host) (sym follow.same)
      ∙ sym (dirtied-each xs host)

module _ {B : Type 0} (marks : B → ℕ → ℕ → B → Type 0) (pages : B → PageSet)
    (exact : (old new : B) (offset len : ℕ) → marks old offset len new
    → pages new ≡ marked offset len (pages old)) where
  changed_item-MarksOne : (number offset len : ℕ) (old new : List B) → MarksOne marks number offset len old new
      → map pages new ≡ changed_item (marked offset len) (map pages old) number
  changed_item-MarksOne number offset len old new h =
      ap (λ (bs : List B). map pages bs) h.is
      ∙ changed_item-map pages (marked offset len) old number h.before h.after h.was
      (exact h.before h.after offset len h.marked)

  -- a mark of an exact bitmap marks its pages
  with_pages-Marks : (id : BitmapId) (offset len : ℕ) (old new : Host B) → Marks marks id offset len old new
      → with_pages pages new ≡ marks_pages id offset len (with_pages pages old)
  with_pages-Marks (Block block) offset len old new h =
      ap (λ (host : Host B). with_pages pages host) h.2
      ∙ ap (λ (bs : List PageSet). record (with_pages pages old) { bitmaps = bs })
      (changed_item-MarksOne block offset len old.bitmaps h.0 h.1)
  with_pages-Marks (Space space) offset len old new h =
      ap (λ (host : Host B). with_pages pages host) h.2
      ∙ ap (λ (bs : List PageSet). record (with_pages pages old) { spaces = bs })
      (changed_item-MarksOne space offset len old.spaces h.0 h.1)

  module _ (empty : EmptyMark) where
    marks_pages-none : (id : BitmapId) (offset : ℕ) (host : Host PageSet) → marks_pages id offset 0 host ≡ host
    marks_pages-none (Block block) offset host =
        ap (λ (bs : List PageSet). record host { bitmaps = bs })
        (changed_same (marked offset 0) (empty offset) host.bitmaps block)
    marks_pages-none (Space space) offset host =
        ap (λ (bs : List PageSet). record host { spaces = bs })
        (changed_same (marked offset 0) (empty offset) host.spaces space)

    -- a window of exact bitmaps marks their pages
    pub with_pages-MarksWindow : (w : Window) (old new : Host B) → MarksWindow marks w old new
        → with_pages pages new ≡ marks_pages w.bitmap.id w.bitmap.base w.size (with_pages pages old)
    with_pages-MarksWindow w old new h = at w.size h
      where
        at : (size : ℕ) → MatchBool (ltb 0 size) (Marks marks w.bitmap.id w.bitmap.base size old new) (new ≡ old)
            → with_pages pages new ≡ marks_pages w.bitmap.id w.bitmap.base size (with_pages pages old)
        at zero k =
            ap (λ (host : Host B). with_pages pages host) k
            ∙ sym (marks_pages-none w.bitmap.id w.bitmap.base (with_pages pages old))
        at (suc size) k =
            let some : ltb 0 (suc size) ≡ true = lt-ltb 0 (suc size) (omega arith) in
            with_pages-Marks w.bitmap.id w.bitmap.base (suc size) old new
            (subst (λ (b : Bool). MatchBool b (Marks marks w.bitmap.id w.bitmap.base (suc size) old new)
            (new ≡ old)) some k)

    -- marks of windows of exact bitmaps leave the dirt of the windows
    pub with_pages-MarksAll : (ws : List Window) (old new : Host B) → MarksAll marks ws old new
        → with_pages pages new ≡ windows_dirtied ws (with_pages pages old)
    with_pages-MarksAll [] old new h = ap (λ (host : Host B). with_pages pages host) h
    with_pages-MarksAll (w ∷ ws) old new h =
        with_pages-MarksAll ws h.0 new h.2 ∙ ap (windows_dirtied ws) (with_pages-MarksWindow w old h.0 h.1)

    module _ (by_bytes : MarkIsByBytes) where
      -- marks of the windows of a path leave the dirt of its bytes
      pub dirtied-MarksAll : (xs : List Reached) (old new : Host B) → MarksFollow xs
          → MarksAll marks (windows xs) old new → with_pages pages new ≡ dirtied xs (with_pages pages old)
      dirtied-MarksAll xs old new follow h =
          with_pages-MarksAll (windows xs) old new h
          ∙ windows_dirtied-windows by_bytes xs (with_pages pages old) follow

      -- a write to the windows of a path leaves what a write to the path leaves
      pub after_write-Writes : (xs : List Reached) (bytes : List ℕ) (old new : Host B) → MarksFollow xs
          → cells (windows xs) ≡ path_cells xs → Writes marks (windows xs) bytes old new
          → with_pages pages new ≡ after_write xs bytes (with_pages pages old)
      after_write-Writes xs bytes old new follow same h =
          dirtied-MarksAll xs (record old { blocks = written (cells (windows xs)) bytes old.blocks }) new follow h
          ∙ ap (λ (cs : List Cell). dirtied xs
          (record (with_pages pages old) { blocks = written cs bytes old.blocks })) same

      -- a write to windows that have the cells and the marks of a path leaves what a write to the path leaves
      pub after_write-AreWindows : (xs : List Reached) (ws : List Window) (bytes : List ℕ) (old new : Host B)
          → cells ws ≡ path_cells xs → flat_map window_marks ws ≡ path_marks xs → All Fits ws
          → Writes marks ws bytes old new → with_pages pages new ≡ after_write xs bytes (with_pages pages old)
      after_write-AreWindows xs ws bytes old new same marked fit h =
          let moved = record old { blocks = written (cells ws) bytes old.blocks } in
          with_pages-MarksAll ws moved new h
          ∙ windows_dirtied-each by_bytes ws (with_pages pages moved) fit
          ∙ ap (λ (ms : List (BitmapId × ℕ)). each_marked ms (with_pages pages moved)) marked
          ∙ sym (dirtied-each xs (with_pages pages moved))
          ∙ ap (λ (cs : List Cell). dirtied xs
          (record (with_pages pages old) { blocks = written cs bytes old.blocks })) same
