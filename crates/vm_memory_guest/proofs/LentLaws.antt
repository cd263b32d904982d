-- What transfers in leave of a host, and how they fail.
use Rattle.std.proofs.Common.{◌≡◌, ◌≢◌, ◌⊎◌, inl, inr, ℕ, zero, suc, ◌+◌, ◌-◌, ◌*◌, ◌/◌, ◌%◌, ◌^◌, ◌<◌, ◌≤◌, Bool, true, false, if◌then◌else◌, List, [], ◌∷◌, map, length, get_or, set, Option, Some, None, Result, Ok, Err, IfErr, All, Contains, drop, refl, sym, ap, ap₂, subst, ◌∙◌, arith}
use Rattle.std.proofs.Math.Nat.{div-lt_iff_lt-mul, mod-eq_of_lt}
use Rattle.std.proofs.lemmas.Bool.{cases_eq}
use Rattle.std.proofs.lemmas.Bool.Decides.{nat_tests}
use Rattle.std.proofs.lemmas.List.{length-take, set-get_or}
use Rattle.std.proofs.lemmas.List.Elements.{All-cons, All-head, All-nil, All-tail}
use Rattle.vm_memory_base.specs.Address.{is_within}
use Rattle.vm_memory_base.specs.Pages.{Pages, PageSet, shape, is_dirty_at, in_view, marked}
use Rattle.vm_memory_base.specs.Transfer.{Answer, Next, Gives, Fails, giving, tried, over_front, Stop, Whole, Dry, Failed, counted_as, again, retries, whole_of}
use Rattle.vm_memory_base.specs.declared.bitmap.BitmapId.{BitmapId}
use Rattle.vm_memory_base.specs.declared.bitmap.BitmapId.TheVariants.{Block, Space}
use Rattle.vm_memory_base.specs.declared.io.VolatileMemoryError.{VolatileMemoryError}
use Rattle.vm_memory_guest.specs.Access.{Reached, Stretch, is_cut, lengthened, stretches, window_of, windows}
use Rattle.vm_memory_guest.specs.Dealt.{dealt, in_order, lent, received}
use Rattle.vm_memory_guest.specs.Dirt.{marks_pages, pages_at}
use Rattle.vm_memory_guest.specs.Host.{Host, Cell, block_at, byte_at, bytes_at, cells_from, with_byte, written}
use Rattle.vm_memory_guest.specs.Lent.{IsDirty, IsMarked, MarksChanges, fails_as}
use Rattle.vm_memory_guest.specs.Transfer.{marked_of}
use Rattle.vm_memory_guest.specs.Window.{Window, cells_of, part}
use Rattle.vm_memory_guest.proofs.EffectLaws.{DirtyPagesStay, ShapeStays, Kept-marks_pages, blocks-marks_pages, is_dirty_at-marks_stays, pages_at-marks, pages_at-with_blocks}
use Rattle.vm_memory_guest.proofs.HostLemmas.{length-bytes}
use Rattle.vm_memory_base.specs.lemmas.Turns.{KeptBy, IfFailed, again_keeps, rest_keeps}
use Rattle.vm_memory_guest.specs.lemmas.Orders.{Why, order_keeps}
use Rattle.vm_memory_guest.proofs.WrittenLaws.{byte_at-with_byte_other, lengths-written}

-- ---- bytes that come to the front of a window

-- bytes that are written where they stand change nothing
written_same : (cs : List Cell) (blocks : List (List ℕ)) → written cs (bytes_at blocks cs) blocks ≡ blocks
written_same [] blocks = refl
written_same (c ∷ cs) blocks =
    let same : with_byte blocks c (byte_at blocks c) ≡ blocks =
    ap (λ (bs : List ℕ). set blocks c.block bs) (set-get_or (block_at blocks c.block) c.offset 0)
    ∙ set-get_or blocks c.block [] in
    ap (λ (now : List (List ℕ)). written cs (bytes_at blocks cs) now) same ∙ written_same cs blocks

-- a byte that is written is none of those after it
bytes_at-behind : (b o k n x : ℕ) (blocks : List (List ℕ)) → o < k
    → bytes_at (with_byte blocks (record { block = b; offset = o }) x) (cells_from b k n)
    ≡ bytes_at blocks (cells_from b k n)
bytes_at-behind b o k zero x blocks l = refl
bytes_at-behind b o k (suc n) x blocks l =
    let c : Cell = record { block = b; offset = o } in
    let d : Cell = record { block = b; offset = k } in
    let other : d ≡ c → ⊥ = λ (p : d ≡ c). let e : k ≡ o = ap (λ (z : Cell). z.offset) p in absurd (omega arith) in
    ap₂ (λ (y : ℕ) (ys : List ℕ). y ∷ ys) (byte_at-with_byte_other blocks d c x other)
    (bytes_at-behind b o (k + 1) n x blocks (omega arith))

same_or_not : (c d : Cell) → (c ≡ d) ⊎ (c ≢ d)
same_or_not c d = elim (cases_eq c.block d.block) [
  | inl p ↦ elim (cases_eq c.offset d.offset) [
    | inl q ↦ inl (ap₂ (λ (b o : ℕ). record { block = b; offset = o }) p q)
    | inr q ↦ inr (λ (e : c ≡ d). q (ap (λ (z : Cell). z.offset) e))
  ]
  | inr p ↦ inr (λ (e : c ≡ d). p (ap (λ (z : Cell). z.block) e))
]

-- one of the first count cells, and of the n cells from an offset of a block on
record Covers (b o n count : ℕ) (cell : Cell) : Type 0 where
  at : ℕ
  is : cell ≡ record { block = b; offset = o + at }
  within : at < n
  covered : at < count

-- bytes that come to the front of cells change no byte after them, and none beside the cells
written_front : (b o n : ℕ) (xs : List ℕ) (blocks : List (List ℕ)) (cell : Cell)
    → (byte_at (written (cells_from b o n) (over_front xs (bytes_at blocks (cells_from b o n))) blocks) cell
    ≡ byte_at blocks cell) ⊎ Covers b o n (length xs) cell
written_front b o zero xs blocks cell = inl refl
written_front b o (suc n) [] blocks cell =
    inl (ap (λ (now : List (List ℕ)). byte_at now cell) (written_same (cells_from b o (suc n)) blocks))
written_front b o (suc n) (x ∷ xs) blocks cell =
    let c : Cell = record { block = b; offset = o } in
    let next : List (List ℕ) = with_byte blocks c x in
    let cs : List Cell = cells_from b (o + 1) n in
    let same : bytes_at next cs ≡ bytes_at blocks cs = bytes_at-behind b o (o + 1) n x blocks (omega arith) in
    elim (written_front b (o + 1) n xs next cell) [
      | inl e ↦
          (let now = subst (λ (bs : List ℕ). byte_at (written cs (over_front xs bs) next) cell ≡ byte_at next cell)
          same e in
          elim (same_or_not cell c) [
            | inl p ↦
                (let here : o ≡ o + 0 = omega arith in
                let first : cell ≡ record { block = b; offset = o + 0 } =
                p ∙ ap (λ (k : ℕ). record { block = b; offset = k }) here in
                inr (record { at = 0; is = first; within = omega arith; covered = omega arith }))
            | inr p ↦ inl (now ∙ byte_at-with_byte_other blocks cell c x p)
          ])
      | inr f ↦
          (let there : o + 1 + f.at ≡ o + suc f.at = omega arith in
          let later : cell ≡ record { block = b; offset = o + suc f.at } =
          f.is ∙ ap (λ (k : ℕ). record { block = b; offset = k }) there in
          let within : suc f.at < suc n = omega (arith, f.within) in
          inr (record { at = suc f.at; is = later; within = within; covered = omega (arith, f.covered) }))
    ]

-- what a try brings is no more than what is marked
length-tried : (n : ℕ) (source : List Next) → length (tried n source).bytes ≤ marked_of n (tried n source).answer
length-tried zero source = omega arith
length-tried (suc n) [] = omega arith
length-tried (suc n) (Gives bs ∷ rest) = let l = length-take (suc n) bs in omega arith
length-tried (suc n) (Fails bs e ∷ rest) = let l = length-take (suc n) bs in omega arith

-- ---- hosts whose changes are marked

-- what is seen of each is seen of one
map_at : {X Y : Type 0} (h : X → Y) (d : X) (xs : List X) (i : ℕ) → h (get_or xs i d) ≡ get_or (map h xs) i (h d)
map_at h d [] i = refl
map_at h d (x ∷ xs) zero = refl
map_at h d (x ∷ xs) (suc i) = map_at h d xs i

shape_at : (id : BitmapId) (old new : Host PageSet) → map shape new.bitmaps ≡ map shape old.bitmaps
    → map shape new.spaces ≡ map shape old.spaces → shape (pages_at id new) ≡ shape (pages_at id old)
shape_at (Block b) old new h k =
    map_at shape None new.bitmaps b ∙ ap (λ (ss : List (Option (ℕ × ℕ))). get_or ss b None) h
    ∙ sym (map_at shape None old.bitmaps b)
shape_at (Space s) old new h k =
    map_at shape None new.spaces s ∙ ap (λ (ss : List (Option (ℕ × ℕ))). get_or ss s None) k
    ∙ sym (map_at shape None old.spaces s)

-- a set of the same shape has as many pages, and as large
as_many : (set : PageSet) (p : Pages) → shape set ≡ shape (Some p)
    → (q : Pages) × (set ≡ Some q) × (q.page_size ≡ p.page_size) × (length q.flags ≡ length p.flags)
as_many None p h = absurd (cc)
as_many (Some q) p h =
    let both : (q.page_size, length q.flags) ≡ (p.page_size, length p.flags) = cc in
    (q, refl, ap (λ (t : ℕ × ℕ). t.0) both, ap (λ (t : ℕ × ℕ). t.1) both)

pub same_changes : (ws : List Window) (host : Host PageSet) → MarksChanges ws host host
same_changes ws host = record {
  lengths = refl;
  bitmaps = refl;
  spaces = refl;
  tables = refl;
  dirty = λ id offset h. h;
  bytes = λ cell. inl refl;
}

-- pages that only become dirty
pub record Dirtier (old new : Host PageSet) : Type 0 where
  pub bitmaps : map shape new.bitmaps ≡ map shape old.bitmaps
  pub spaces : map shape new.spaces ≡ map shape old.spaces
  pub dirty : (id : BitmapId) (offset : ℕ) → is_dirty_at (pages_at id old) offset ≡ true
      → is_dirty_at (pages_at id new) offset ≡ true

-- what is dirty stays so
pub stays_dirty : (mid new : Host PageSet) → Dirtier mid new → (id : BitmapId) (offset : ℕ)
    → IsDirty id offset mid → IsDirty id offset new
stays_dirty mid new c id offset h p has inside fits =
    let q = as_many (pages_at id mid) p (sym (shape_at id mid new c.bitmaps c.spaces) ∙ ap shape has) in
    let inside' : offset < length (q.0).flags * (q.0).page_size = rw (q.2, q.3) inside in
    let was : is_dirty_at (pages_at id mid) offset ≡ true = rw q.1 (h q.0 q.1 inside' fits) in
    subst (λ (s : PageSet). is_dirty_at s offset ≡ true) has (c.dirty id offset was)

still_dirty : (ws : List Window) (mid new : Host PageSet) → MarksChanges ws mid new → (id : BitmapId) (offset : ℕ)
    → IsDirty id offset mid → IsDirty id offset new
still_dirty ws mid new c =
    stays_dirty mid new (record { bitmaps = c.bitmaps; spaces = c.spaces; dirty = c.dirty })

-- a marked byte stays so among windows that have its window, where it stays dirty
marked_among : (ws vs : List Window) (old new : Host PageSet) (cell : Cell) (m : IsMarked ws cell old)
    → Contains vs m.window
    → IsDirty m.window.bitmap.id (m.window.bitmap.base + m.at) new → IsMarked vs cell new
marked_among ws vs old new cell m among dirty = record {
  window = m.window;
  at = m.at;
  among = among;
  within = m.within;
  is = m.is;
  dirty = dirty;
}

still_marked : (ws : List Window) (mid new : Host PageSet) → MarksChanges ws mid new → (cell : Cell)
    → IsMarked ws cell mid → IsMarked ws cell new
still_marked ws mid new c cell m =
    marked_among ws ws mid new cell m m.among
    (still_dirty ws mid new c m.window.bitmap.id (m.window.bitmap.base + m.at) m.dirty)

-- changes one after the other
both_changes : (ws : List Window) (old mid new : Host PageSet) → MarksChanges ws old mid → MarksChanges ws mid new
    → MarksChanges ws old new
both_changes ws old mid new a b = record {
  lengths = b.lengths ∙ a.lengths;
  bitmaps = b.bitmaps ∙ a.bitmaps;
  spaces = b.spaces ∙ a.spaces;
  tables = b.tables ∙ a.tables;
  dirty = λ id offset h. b.dirty id offset (a.dirty id offset h);
  bytes = λ cell. elim (b.bytes cell) [
    | inl e ↦ elim (a.bytes cell) [
      | inl f ↦ inl (e ∙ f)
      | inr m ↦ inr (still_marked ws mid new b cell m)
    ]
    | inr m ↦ inr m
  ];
}

-- what is marked for some windows is marked for others
wider_changes : (ws vs : List Window) (old new : Host PageSet)
    → ((cell : Cell) → IsMarked ws cell new → IsMarked vs cell new) → MarksChanges ws old new
    → MarksChanges vs old new
wider_changes ws vs old new each c = record {
  lengths = c.lengths;
  bitmaps = c.bitmaps;
  spaces = c.spaces;
  tables = c.tables;
  dirty = c.dirty;
  bytes = λ cell. elim (c.bytes cell) [
    | inl e ↦ inl e
    | inr m ↦ inr (each cell m)
  ];
}

-- a window that is one of more
among_changes : (w : Window) (ws : List Window) (old new : Host PageSet) → Contains ws w
    → MarksChanges (w ∷ []) old new → MarksChanges ws old new
among_changes w ws old new one = wider_changes (w ∷ []) ws old new each
  where
    among : (v : Window) → Contains (w ∷ []) v → Contains ws v
    among v (zero, l, is) = subst (λ (u : Window). Contains ws u) is one
    among v (suc k, l, is) = absurd (omega arith)

    each : (cell : Cell) → IsMarked (w ∷ []) cell new → IsMarked ws cell new
    each cell m = marked_among (w ∷ []) ws new new cell m (among m.window m.among) m.dirty

-- a part of a window
part_changes : (w : Window) (filled len : ℕ) (old new : Host PageSet) → filled + len ≤ w.size
    → MarksChanges (part w filled len ∷ []) old new → MarksChanges (w ∷ []) old new
part_changes w filled len old new fits = wider_changes (part w filled len ∷ []) (w ∷ []) old new each
  where
    same : (v : Window) → Contains (part w filled len ∷ []) v → part w filled len ≡ v
    same v (zero, l, is) = is
    same v (suc k, l, is) = absurd (omega arith)

    in_place : (at : ℕ) → w.bitmap.base + (filled + at) < 2 ^ 64
        → in_view w.bitmap.base filled + at ≡ w.bitmap.base + (filled + at)
    in_place at l =
        let e : (w.bitmap.base + filled) % 2 ^ 64 ≡ w.bitmap.base + filled = mod-eq_of_lt (omega arith) in omega arith

    whole : (cell : Cell) (at : ℕ) → at < len
        → cell ≡ record { block = w.block.0; offset = w.offset + filled + at }
        → IsDirty w.bitmap.id (in_view w.bitmap.base filled + at) new → IsMarked (w ∷ []) cell new
    whole cell at within is dirty =
        let there : w.offset + filled + at ≡ w.offset + (filled + at) = omega arith in
        record {
          window = w;
          at = filled + at;
          among = (0, omega arith, refl);
          within = omega arith;
          is = is ∙ ap (λ (o : ℕ). record { block = w.block.0; offset = o }) there;
          dirty = λ p has inside l. subst (λ (o : ℕ). is_dirty_at (Some p) o ≡ true) (in_place at l)
              (dirty p has (rw (in_place at l) inside) (rw (in_place at l) l));
        }

    each : (cell : Cell) → IsMarked (part w filled len ∷ []) cell new → IsMarked (w ∷ []) cell new
    each cell m =
        let p : m.window ≡ part w filled len = sym (same m.window m.among) in
        whole cell m.at (subst (λ (v : Window). m.at < v.size) p m.within)
        (subst (λ (v : Window). cell ≡ record { block = v.block.0; offset = v.offset + m.at }) p m.is)
        (subst (λ (v : Window). IsDirty v.bitmap.id (v.bitmap.base + m.at) new) p m.dirty)

-- ---- one try, and tries one after the other

-- what is taken from the laws of page sets: a mark makes its bytes dirty, where one of the pages has them
abbrev pub MarkedBytesAreDirty : Type 0
MarkedBytesAreDirty = (start len offset : ℕ) (p : Pages) → 0 < p.page_size → is_within start len offset ≡ true
    → offset < 2 ^ 64 → offset / p.page_size < length p.flags → is_dirty_at (marked start len (Some p)) offset ≡ true

-- what each try keeps, of a window and of its parts, is kept where it is lent, once or until it is full
module _ (Kept : List Next × Host PageSet → Type 0) (Good : VolatileMemoryError → Type 0) where
  counted_good : (count : ℕ) (stop : Stop) → IfFailed Kept Good stop → IfErr (counted_as count stop) Good
  counted_good count Whole good = tt
  counted_good count Dry good = tt
  counted_good count (Failed e) good = good

  dealt_keeps : (w : Window) → ((x : List Next × Host PageSet) → Kept x → KeptBy Kept Good (lent w x))
      → ((filled : ℕ) → filled < w.size → (x : List Next × Host PageSet) → Kept x
      → KeptBy Kept Good (lent (part w filled (w.size - filled)) x))
      → (until_full : Bool) (x : List Next × Host PageSet) → Kept x → KeptBy Kept Good (dealt until_full w x)
  dealt_keeps w each behind false x kept = again_keeps Kept Good (lent w) each retries x kept
  dealt_keeps w each behind true x kept =
      let turn = λ (filled : ℕ). again (lent (part w filled (w.size - filled))) in
      let m = whole_of turn w.size x in
      let k = rest_keeps Kept Good turn w.size
      (λ filled x some. again_keeps Kept Good (lent (part w filled (w.size - filled))) (behind filled some) retries x)
      w.size 0 x kept in
      (k.0, counted_good m.count m.stop k.1)

module _ (shape_stays : ShapeStays) (stays : DirtyPagesStay) (dirties : MarkedBytesAreDirty) where
  -- a byte of a mark is dirty
  pub dirty_after : (set : PageSet) (start len at : ℕ) (p : Pages) → marked start len set ≡ Some p → at < len
      → start + at < length p.flags * p.page_size → start + at < 2 ^ 64 → is_dirty_at (Some p) (start + at) ≡ true
  dirty_after None start len at p is within inside fits = absurd (cc)
  dirty_after (Some q) start len at p is within inside fits =
      let r = as_many (Some q) p (sym (shape_stays start len (Some q)) ∙ ap shape is) in
      let same : r.0 ≡ q = let e : Some q ≡ Some (r.0) = r.1 in cc in
      let size : q.page_size ≡ p.page_size = ap (λ (x : Pages). x.page_size) (sym same) ∙ r.2 in
      let count : length q.flags ≡ length p.flags = ap (λ (x : Pages). length x.flags) (sym same) ∙ r.3 in
      let inside' : start + at < length q.flags * q.page_size = rw (size, count) inside in
      let some : 0 < q.page_size = positive (length q.flags) q.page_size (start + at) inside' in
      let among : is_within start len (start + at) ≡ true = grind (arith, nat_tests) in
      let lies : (start + at) / q.page_size < length q.flags = (div-lt_iff_lt-mul some).1 inside' in
      subst (λ (s : PageSet). is_dirty_at s (start + at) ≡ true) is
      (dirties start len (start + at) q some among fits lies)
    where
      positive : (n size x : ℕ) → x < n * size → 0 < size
      positive n zero x h = let e : n * 0 ≡ 0 = omega arith in absurd (omega arith)
      positive n (suc size) x h = omega arith

  lent_changes : (w : Window) (source : List Next) (host : Host PageSet)
      → MarksChanges (w ∷ []) host (lent w (source, host)).left.1
  lent_changes w source host =
      let buffer : List ℕ = bytes_at host.blocks (cells_of w) in
      let t = tried (length buffer) source in
      let blocks : List (List ℕ) = written (cells_of w) (over_front t.bytes buffer) host.blocks in
      let mid : Host PageSet = record host { blocks = blocks } in
      let id = w.bitmap.id in
      let base = w.bitmap.base in
      let count : ℕ = marked_of w.size t.answer in
      let kept = Kept-marks_pages shape_stays id base count mid in
      let moved = blocks-marks_pages id base count mid in
      let enough : length t.bytes ≤ count =
      subst (λ (n : ℕ). length t.bytes ≤ marked_of n t.answer) (length-bytes host.blocks w)
      (length-tried (length buffer) source) in
      let now : pages_at id (marks_pages id base count mid) ≡ marked base count (pages_at id host) =
      pages_at-marks id base count mid ∙ ap (marked base count) (pages_at-with_blocks id host blocks) in
      record {
        lengths = ap (λ (bs : List (List ℕ)). map length bs) moved
            ∙ lengths-written (cells_of w) (over_front t.bytes buffer) host.blocks;
        bitmaps = kept.bitmaps;
        spaces = kept.spaces;
        tables = kept.tables;
        dirty = λ other offset h. is_dirty_at-marks_stays stays id other base count offset mid
            (rw (pages_at-with_blocks other host blocks) h);
        bytes = λ cell. elim (written_front w.block.0 w.offset w.size t.bytes host.blocks cell) [
          | inl e ↦ inl (ap (λ (bs : List (List ℕ)). byte_at bs cell) moved ∙ e)
          | inr f ↦ inr (record {
            window = w;
            at = f.at;
            among = (0, omega arith, refl);
            within = f.within;
            is = f.is;
            dirty = λ p has inside fits. dirty_after (pages_at id host) base count f.at p (sym now ∙ has)
                (omega (arith, f.covered, enough)) inside fits;
          })
        ];
      }

  -- a transfer in marks what it changes
  module _ {E : Type 0} (failure : VolatileMemoryError → E) (fault : Option E) (until_full : Bool) where
    pub received_changes : (ws : List Window) (total : ℕ) (source : List Next) (host : Host PageSet)
        → MarksChanges ws host (received failure fault until_full ws total source host).host
    received_changes ws total source host =
        (order_keeps failure fault (dealt until_full) Kept (λ e. Unit {0}) ws each total (source, host)
        (same_changes ws host)).0
      where
        Kept : List Next × Host PageSet → Type 0
        Kept x = MarksChanges ws host x.1

        any : (r : Answer) → IfErr r (λ e. Unit {0})
        any (Ok count) = tt
        any (Err e) = tt

        each : (w : Window) → Contains ws w → (x : List Next × Host PageSet) → Kept x
            → KeptBy Kept (λ e. Unit {0}) (dealt until_full w x)
        each w among = dealt_keeps Kept (λ e. Unit {0}) w
            (λ x kept. (on x kept (lent w x).left.1 (lent_changes w x.0 x.1), any (lent w x).answer))
            (λ filled some x kept. let v = part w filled (w.size - filled) in (
              on x kept (lent v x).left.1 (part_changes w filled (w.size - filled) x.1 (lent v x).left.1 (omega arith)
                  (lent_changes v x.0 x.1)),
              any (lent v x).answer,
            )) until_full
          where
            on : (x : List Next × Host PageSet) → Kept x → (new : Host PageSet) → MarksChanges (w ∷ []) x.1 new
                → MarksChanges ws host new
            on x kept new more = both_changes ws host x.1 new kept (among_changes w ws x.1 new among more)

-- ---- transfers in that are refused

-- a stretch of some bytes
abbrev HasSome : Stretch → Type 0
HasSome s = 0 < s.len

some-joined : (cut : Bool) (x : Reached) (s : Stretch) (ss : List Stretch) → All HasSome (s ∷ ss)
    → All HasSome (if cut then record { first = x; len = 1 } ∷ s ∷ ss else record { first = x; len = s.len + 1 } ∷ ss)
some-joined true x s ss h = All-cons HasSome (record { first = x; len = 1 }) (s ∷ ss) (omega arith) h
some-joined false x s ss h =
    All-cons HasSome (record { first = x; len = s.len + 1 }) ss (omega arith) (All-tail HasSome s ss h)

some-lengthened : (x : Reached) (ss : List Stretch) → All HasSome ss → All HasSome (lengthened x ss)
some-lengthened x [] h = All-cons HasSome (record { first = x; len = 1 }) [] (omega arith) h
some-lengthened x (s ∷ ss) h = some-joined (is_cut x s.first) x s ss h

some-stretches : (xs : List Reached) → All HasSome (stretches xs)
unfolding stretches
some-stretches [] = All-nil HasSome
some-stretches (x ∷ xs) = some-lengthened x (stretches xs) (some-stretches xs)

some-windows_of : (ss : List Stretch) → All HasSome ss → All (λ (w : Window). 0 < w.size) (map window_of ss)
some-windows_of [] h = All-nil (λ (w : Window). 0 < w.size)
some-windows_of (s ∷ ss) h =
    All-cons (λ (w : Window). 0 < w.size) (window_of s) (map window_of ss) (All-head HasSome s ss h)
    (some-windows_of ss (All-tail HasSome s ss h))

-- each window of a path has some bytes
pub some-windows : (xs : List Reached) → All (λ (w : Window). 0 < w.size) (windows xs)
some-windows xs = some-windows_of (stretches xs) (some-stretches xs)

module _ (test : VolatileMemoryError → Bool) where
  abbrev Passes : Next → Type 0
  Passes n = fails_as test n ≡ true

  passes-giving : (bs : List ℕ) (rest : List Next) → All Passes rest → All Passes (giving bs rest)
  passes-giving [] rest h = h
  passes-giving (b ∷ bs) rest h = All-cons Passes (Gives (b ∷ bs)) rest refl h

  passes-tried : (n : ℕ) (source : List Next) → All Passes source → All Passes (tried n source).left
  passes-tried zero source h = h
  passes-tried (suc n) [] h = h
  passes-tried (suc n) (Gives bs ∷ rest) h =
      passes-giving (drop (suc n) bs) rest (All-tail Passes (Gives bs) rest h)
  passes-tried (suc n) (Fails bs f ∷ rest) h = All-tail Passes (Fails bs f) rest h

  failed-tried : (n : ℕ) (source : List Next) → All Passes source → IfErr (tried n source).answer (λ e. test e ≡ true)
  failed-tried zero source h = tt
  failed-tried (suc n) [] h = tt
  failed-tried (suc n) (Gives bs ∷ rest) h = tt
  failed-tried (suc n) (Fails bs f ∷ rest) h = All-head Passes (Fails bs f) rest h

  module _ {E : Type 0} (failure : VolatileMemoryError → E) (fault : Option E) (until_full : Bool) where
    pub received_refused : (ws : List Window) (total : ℕ) (source : List Next) (host : Host PageSet) (e : E)
        → All (λ (w : Window). 0 < w.size) ws → All Passes source
        → (received failure fault until_full ws total source host).answer ≡ Err e
        → ((v : VolatileMemoryError) × (test v ≡ true) × (e ≡ failure v))
        ⊎ ((fault ≡ Some e) × ((received failure fault until_full ws total source host).host ≡ host))
    received_refused ws total source host e some h is =
        elim (subst (λ (r : Result ℕ E). IfErr r
        (Why failure fault (dealt until_full) Kept Good ws total (source, host) new)) is
        (order_keeps failure fault (dealt until_full) Kept Good ws each total (source, host) h).1) [
          | inl failed ↦ inl failed
          | inr met ↦ inr (met.0, ap (λ (x : List Next × Host PageSet). x.1) (met.1 some).1)
        ]
      where
        Kept : List Next × Host PageSet → Type 0
        Kept x = All Passes x.0

        Good : VolatileMemoryError → Type 0
        Good v = test v ≡ true

        new : List Next × Host PageSet
        new = (in_order failure fault (dealt until_full) ws total (source, host)).left

        one : (w : Window) (x : List Next × Host PageSet) → Kept x → KeptBy Kept Good (lent w x)
        one w x kept =
            let n = length (bytes_at x.1.blocks (cells_of w)) in (passes-tried n x.0 kept, failed-tried n x.0 kept)

        each : (w : Window) → Contains ws w → (x : List Next × Host PageSet) → Kept x
            → KeptBy Kept Good (dealt until_full w x)
        each w among = dealt_keeps Kept Good w (one w) (λ filled some. one (part w filled (w.size - filled))) until_full
