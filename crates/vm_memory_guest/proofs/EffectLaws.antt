-- What a write to a path keeps of a host, what is read back, and which pages are dirty then.
use Rattle.std.proofs.Common.{◌≡◌, ◌≢◌, ℕ, zero, suc, ◌/◌, ◌^◌, ◌<◌, ◌≤◌, ◌⊎◌, true, false, List, [], ◌∷◌, map, length, take, get_or, slice_get, Option, Some, None, All, AllPairs, Contains, refl, sym, ap, subst, ◌∙◌, inl, inr, arith, eq-eqb, length-take-le, get_or-set_other}
use Rattle.std.proofs.lemmas.Bool.{cases_eq, true≢false}
use Rattle.std.proofs.lemmas.List.{length-map}
use Rattle.std.proofs.lemmas.List.Elements.{All-head, All-tail, All-weaker}
use Rattle.vm_memory_base.specs.Pages.{Pages, PageSet, shape, is_dirty_at, marked}
use Rattle.vm_memory_base.specs.Table.{Table}
use Rattle.vm_memory_base.specs.declared.bitmap.BitmapId.{BitmapId}
use Rattle.vm_memory_base.specs.declared.bitmap.BitmapId.TheVariants.{Block, Space}
use Rattle.vm_memory_guest.specs.Host.{Host, Cell, block_at, bytes_at, shape_of, written}
use Rattle.vm_memory_guest.specs.Access.{Reached}
use Rattle.vm_memory_guest.specs.Dirt.{change_one, changed_item, marks_pages, dirtied, pages_at, same_page, path_cells, after_write, bytes_read}
use Rattle.vm_memory_guest.proofs.DirtLaws.{changed_item-cons}
use Rattle.vm_memory_guest.proofs.MarkLaws.{shape_of-written}
use Rattle.vm_memory_guest.proofs.WrittenLaws.{written-take, bytes_at-written}

-- ---- one element of a list changed

-- what is seen of each element stays, where the change keeps it
map-changed_kept : {X Y : Type 0} (h : X → Y) (f : X → X) → ((x : X) → h (f x) ≡ h x) → (xs : List X) (i : ℕ)
    → map h (changed_item f xs i) ≡ map h xs
map-changed_kept h f e [] i = refl
map-changed_kept {X} {Y} h f e (x ∷ xs) zero = ap (λ (y : Y). y ∷ map h xs) (e x)
map-changed_kept {X} {Y} h f e (x ∷ xs) (suc i) =
    ap (λ (ys : List X). map h ys) (changed_item-cons f x xs i)
    ∙ ap (λ (ys : List Y). h x ∷ ys) (map-changed_kept h f e xs i)

-- the element that is changed
get_or-changed_item : {X : Type 0} (f : X → X) (d : X) → f d ≡ d → (xs : List X) (i : ℕ)
    → get_or (changed_item f xs i) i d ≡ f (get_or xs i d)
get_or-changed_item f d h [] i = sym h
get_or-changed_item f d h (x ∷ xs) zero = refl
get_or-changed_item {X} f d h (x ∷ xs) (suc i) =
    ap (λ (ys : List X). get_or ys (suc i) d) (changed_item-cons f x xs i) ∙ get_or-changed_item f d h xs i

-- an element beside the one that is changed
get_or-changed_other : {X : Type 0} (f : X → X) (d : X) (xs : List X) (i j : ℕ) → j ≢ i
    → get_or (changed_item f xs i) j d ≡ get_or xs j d
get_or-changed_other {X} f d xs i j h = at (slice_get xs i)
  where
    at : (o : Option X) → get_or (change_one f xs i o) j d ≡ get_or xs j d
    at None = refl
    at (Some x) = get_or-set_other xs i j (f x) d h

-- ---- marks, seen at each bitmap

same_id : (a b : BitmapId) → (a ≡ b) ⊎ (a ≢ b)
same_id (Block m) (Block n) = elim (cases_eq m n) [
  | inl e ↦ inl (ap (λ (k : ℕ). Block k) e)
  | inr e ↦ inr (λ (h : Block m ≡ Block n). e (cc))
]
same_id (Block m) (Space n) = inr (λ (h : Block m ≡ Space n). cc)
same_id (Space m) (Block n) = inr (λ (h : Space m ≡ Block n). cc)
same_id (Space m) (Space n) = elim (cases_eq m n) [
  | inl e ↦ inl (ap (λ (k : ℕ). Space k) e)
  | inr e ↦ inr (λ (h : Space m ≡ Space n). e (cc))
]

-- a mark of a bitmap, seen at that bitmap
pub pages_at-marks : (id : BitmapId) (offset len : ℕ) (host : Host PageSet)
    → pages_at id (marks_pages id offset len host) ≡ marked offset len (pages_at id host)
pages_at-marks (Block block) offset len host = get_or-changed_item (marked offset len) None refl host.bitmaps block
pages_at-marks (Space space) offset len host = get_or-changed_item (marked offset len) None refl host.spaces space

-- a mark of a bitmap, seen at another
pages_at-marks_other : (id other : BitmapId) (offset len : ℕ) (host : Host PageSet) → other ≢ id
    → pages_at id (marks_pages other offset len host) ≡ pages_at id host
pages_at-marks_other (Block m) (Block n) offset len host h =
    get_or-changed_other (marked offset len) None host.bitmaps n m (λ (e : m ≡ n). h (ap (λ (k : ℕ). Block k) (sym e)))
pages_at-marks_other (Block m) (Space n) offset len host h = refl
pages_at-marks_other (Space m) (Block n) offset len host h = refl
pages_at-marks_other (Space m) (Space n) offset len host h =
    get_or-changed_other (marked offset len) None host.spaces n m (λ (e : m ≡ n). h (ap (λ (k : ℕ). Space k) (sym e)))

-- bytes in the blocks are no matter to the bitmaps
pub pages_at-with_blocks : (id : BitmapId) (host : Host PageSet) (blocks : List (List ℕ))
    → pages_at id (record host { blocks = blocks }) ≡ pages_at id host
pages_at-with_blocks (Block block) host blocks = refl
pages_at-with_blocks (Space space) host blocks = refl

-- ---- pages that stay

same_page-marked : (set : PageSet) (x len a b : ℕ) → same_page (marked x len set) a b ≡ same_page set a b
same_page-marked None x len a b = refl
same_page-marked (Some p) x len a b = refl

-- a mark of any bitmap changes no page's extent
same_page-marks : (id other : BitmapId) (offset len : ℕ) (host : Host PageSet) (a b : ℕ)
    → same_page (pages_at id (marks_pages other offset len host)) a b ≡ same_page (pages_at id host) a b
same_page-marks id other offset len host a b = elim (same_id other id) [
  | inl e ↦ rw (e, pages_at-marks id offset len host) (same_page-marked (pages_at id host) offset len a b)
  | inr e ↦ rw (pages_at-marks_other id other offset len host e)
]

-- the byte does not lie in the page of this offset of this bitmap
abbrev IsElsewhere : BitmapId → ℕ → Host PageSet → Reached → Type 0
IsElsewhere id offset host x = x.bitmap ≡ id → same_page (pages_at id host) x.mark offset ≡ false

-- what is taken from the laws of page sets: a mark of one byte changes no page but its own
abbrev OtherPagesStay : Type 0
OtherPagesStay = (x offset : ℕ) (p : Pages) → (x / p.page_size ≡ offset / p.page_size → ⊥)
    → is_dirty_at (marked x 1 (Some p)) offset ≡ is_dirty_at (Some p) offset

module _ (others_stay : OtherPagesStay) where
  is_dirty_at-marked_other : (set : PageSet) (x offset : ℕ) → same_page set x offset ≡ false
      → is_dirty_at (marked x 1 set) offset ≡ is_dirty_at set offset
  is_dirty_at-marked_other None x offset h = refl
  is_dirty_at-marked_other (Some p) x offset h =
      others_stay x offset p
      (λ (e : x / p.page_size ≡ offset / p.page_size). true≢false (sym (eq-eqb _ _ e) ∙ h))

  -- a page that a byte does not lie in stays as it is when the byte of any bitmap is marked
  is_dirty_at-marks_other : (id : BitmapId) (offset : ℕ) (host : Host PageSet) (x : Reached)
      → IsElsewhere id offset host x
      → is_dirty_at (pages_at id (marks_pages x.bitmap x.mark 1 host)) offset ≡ is_dirty_at (pages_at id host) offset
  is_dirty_at-marks_other id offset host x h = elim (same_id x.bitmap id) [
    | inl e ↦ rw (e, pages_at-marks id x.mark 1 host) (is_dirty_at-marked_other (pages_at id host) x.mark offset (h e))
    | inr e ↦ rw (pages_at-marks_other id x.bitmap x.mark 1 host e)
  ]

  -- pages that no byte of a path names stay
  is_dirty_at-dirtied_other : (xs : List Reached) (id : BitmapId) (offset : ℕ) (host : Host PageSet)
      → All (IsElsewhere id offset host) xs
      → is_dirty_at (pages_at id (dirtied xs host)) offset ≡ is_dirty_at (pages_at id host) offset
  is_dirty_at-dirtied_other [] id offset host h = refl
  is_dirty_at-dirtied_other (x ∷ xs) id offset host h =
      let next = marks_pages x.bitmap x.mark 1 host in
      let still = λ (y : Reached) (k : IsElsewhere id offset host y)
      (e : y.bitmap ≡ id). same_page-marks id x.bitmap x.mark 1 host y.mark offset ∙ k e in
      let rest = All-weaker (IsElsewhere id offset host) (IsElsewhere id offset next) still xs
      (All-tail (IsElsewhere id offset host) x xs h) in
      is_dirty_at-dirtied_other xs id offset next rest
      ∙ is_dirty_at-marks_other id offset host x (All-head (IsElsewhere id offset host) x xs h)

  -- a write leaves the pages that no byte of its path names
  pub is_dirty_at-after_write_other : (xs : List Reached) (bytes : List ℕ) (id : BitmapId) (offset : ℕ)
      (host : Host PageSet)
      → All (λ (x : Reached). x.bitmap ≡ id → same_page (pages_at id host) x.mark offset ≡ false) xs
      → is_dirty_at (pages_at id (after_write xs bytes host)) offset ≡ is_dirty_at (pages_at id host) offset
  is_dirty_at-after_write_other xs bytes (Block block) offset host h =
      is_dirty_at-dirtied_other xs (Block block) offset
      (record host { blocks = written (path_cells xs) bytes host.blocks }) h
  is_dirty_at-after_write_other xs bytes (Space space) offset host h =
      is_dirty_at-dirtied_other xs (Space space) offset
      (record host { blocks = written (path_cells xs) bytes host.blocks }) h

-- ---- pages that are dirty

-- what is taken from the laws of page sets: a mark of one byte makes its page dirty, and each mark keeps dirty pages
-- dirty, and the pages as many and as large
abbrev OwnPageIsDirty : Type 0
OwnPageIsDirty = (x offset : ℕ) (p : Pages) → x < 2 ^ 64 → x / p.page_size ≡ offset / p.page_size
    → offset / p.page_size < length p.flags → is_dirty_at (marked x 1 (Some p)) offset ≡ true

abbrev pub DirtyPagesStay : Type 0
DirtyPagesStay = (start len offset : ℕ) (set : PageSet) → is_dirty_at set offset ≡ true
    → is_dirty_at (marked start len set) offset ≡ true

abbrev PagesStay : Type 0
PagesStay = (start len : ℕ) (p : Pages) → (q : Pages) × (marked start len (Some p) ≡ Some q)
    × (q.page_size ≡ p.page_size) × (length q.flags ≡ length p.flags)

module _ (stays : DirtyPagesStay) where
  -- no mark makes a page clean
  pub is_dirty_at-marks_stays : (other id : BitmapId) (x len offset : ℕ) (host : Host PageSet)
      → is_dirty_at (pages_at id host) offset ≡ true
      → is_dirty_at (pages_at id (marks_pages other x len host)) offset ≡ true
  is_dirty_at-marks_stays other id x len offset host h = elim (same_id other id) [
    | inl e ↦ rw (e, pages_at-marks id x len host) (stays x len offset (pages_at id host) h)
    | inr e ↦ rw (pages_at-marks_other id other x len host e) h
  ]

  is_dirty_at-dirtied_stays : (xs : List Reached) (id : BitmapId) (offset : ℕ) (host : Host PageSet)
      → is_dirty_at (pages_at id host) offset ≡ true → is_dirty_at (pages_at id (dirtied xs host)) offset ≡ true
  is_dirty_at-dirtied_stays [] id offset host h = h
  is_dirty_at-dirtied_stays (x ∷ xs) id offset host h =
      is_dirty_at-dirtied_stays xs id offset (marks_pages x.bitmap x.mark 1 host)
      (is_dirty_at-marks_stays x.bitmap id x.mark 1 offset host h)

  -- a write makes no page clean
  pub is_dirty_at-after_write_stays : (xs : List Reached) (bytes : List ℕ) (id : BitmapId) (offset : ℕ)
      (host : Host PageSet)
      → is_dirty_at (pages_at id host) offset ≡ true
      → is_dirty_at (pages_at id (after_write xs bytes host)) offset ≡ true
  is_dirty_at-after_write_stays xs bytes id offset host h =
      let blocks = written (path_cells xs) bytes host.blocks in
      is_dirty_at-dirtied_stays xs id offset (record host { blocks = blocks })
      (rw (pages_at-with_blocks id host blocks) h)

module _ (own : OwnPageIsDirty) (stays : DirtyPagesStay) (as_many : PagesStay) where
  -- the pages of a bitmap are of one size, and as many, after any mark
  same_pages : (other id : BitmapId) (offset len : ℕ) (host : Host PageSet) (p : Pages) → pages_at id host ≡ Some p
      → (q : Pages) × (pages_at id (marks_pages other offset len host) ≡ Some q) × (q.page_size ≡ p.page_size)
      × (length q.flags ≡ length p.flags)
  same_pages other id offset len host p h = elim (same_id other id) [
    | inl e ↦
        (let q = as_many offset len p in
        (q.0, rw (e, pages_at-marks id offset len host) (ap (marked offset len) h ∙ q.1), q.2, q.3))
    | inr e ↦ (p, pages_at-marks_other id other offset len host e ∙ h, refl, refl)
  ]

  dirtied_at : (xs : List Reached) (k : ℕ) (x : Reached) (host : Host PageSet) (p : Pages) → k < length xs
      → get_or xs k x ≡ x → x.mark < 2 ^ 64 → pages_at x.bitmap host ≡ Some p → x.mark / p.page_size < length p.flags
      → is_dirty_at (pages_at x.bitmap (dirtied xs host)) x.mark ≡ true
  dirtied_at [] k x host p l e fits tracked within = absurd (omega arith)
  dirtied_at (y ∷ ys) zero x host p l e fits tracked within =
      let now : pages_at x.bitmap (marks_pages x.bitmap x.mark 1 host) ≡ marked x.mark 1 (Some p) =
      pages_at-marks x.bitmap x.mark 1 host ∙ ap (marked x.mark 1) tracked in
      let dirty : is_dirty_at (pages_at x.bitmap (marks_pages x.bitmap x.mark 1 host)) x.mark ≡ true =
      ap (λ (s : PageSet). is_dirty_at s x.mark) now ∙ own x.mark x.mark p fits refl within in
      let first : is_dirty_at (pages_at x.bitmap (marks_pages y.bitmap y.mark 1 host)) x.mark ≡ true =
      subst (λ (z : Reached). is_dirty_at (pages_at x.bitmap (marks_pages z.bitmap z.mark 1 host)) x.mark ≡ true)
      (sym e) dirty in
      is_dirty_at-dirtied_stays stays ys x.bitmap x.mark (marks_pages y.bitmap y.mark 1 host) first
  dirtied_at (y ∷ ys) (suc k) x host p l e fits tracked within =
      let q = same_pages y.bitmap x.bitmap y.mark 1 host p tracked in
      dirtied_at ys k x (marks_pages y.bitmap y.mark 1 host) q.0 (omega arith) e fits q.1 (rw (q.2, q.3) within)

  -- a write makes the page of each byte of its path dirty, if there is one
  pub is_dirty_at-after_write : (xs : List Reached) (bytes : List ℕ) (x : Reached) (host : Host PageSet) (p : Pages)
      → Contains xs x → x.mark < 2 ^ 64 → pages_at x.bitmap host ≡ Some p → x.mark / p.page_size < length p.flags
      → is_dirty_at (pages_at x.bitmap (after_write xs bytes host)) x.mark ≡ true
  is_dirty_at-after_write xs bytes x host p found fits tracked within =
      let blocks = written (path_cells xs) bytes host.blocks in
      dirtied_at xs found.0 x (record host { blocks = blocks }) p found.1 found.2 fits
      (pages_at-with_blocks x.bitmap host blocks ∙ tracked) within

-- ---- what a write keeps

-- marks leave the blocks
pub blocks-marks_pages : (id : BitmapId) (offset len : ℕ) (host : Host PageSet)
    → (marks_pages id offset len host).blocks ≡ host.blocks
blocks-marks_pages (Block block) offset len host = refl
blocks-marks_pages (Space space) offset len host = refl

-- dirt leaves the blocks
blocks-dirtied : (xs : List Reached) (host : Host PageSet) → (dirtied xs host).blocks ≡ host.blocks
blocks-dirtied [] host = refl
blocks-dirtied (x ∷ xs) host = blocks-dirtied xs (marks_pages x.bitmap x.mark 1 host)
    ∙ blocks-marks_pages x.bitmap x.mark 1 host

-- what a write leaves of the bytes
pub blocks-after_write : (xs : List Reached) (bytes : List ℕ) (host : Host PageSet)
    → (after_write xs bytes host).blocks ≡ written (path_cells xs) bytes host.blocks
blocks-after_write xs bytes host =
    blocks-dirtied xs (record host { blocks = written (path_cells xs) bytes host.blocks })

-- what is written to a path and read back from it, where each cell is met once
pub bytes_read-after_write : (xs : List Reached) (bytes : List ℕ) (host : Host PageSet)
    → AllPairs (λ (c d : Cell). c ≢ d) (path_cells xs)
    → All (λ (c : Cell). c.offset < length (block_at host.blocks c.block)) (path_cells xs)
    → length xs ≤ length bytes → bytes_read xs (after_write xs bytes host) ≡ take (length xs) bytes
bytes_read-after_write xs bytes host once inside enough =
    let cs = path_cells xs in
    let count : length cs ≡ length xs = length-map xs (λ (x : Reached). x.cell) in
    let first : List ℕ = take (length cs) bytes in
    let same : (after_write xs bytes host).blocks ≡ written cs first host.blocks =
    blocks-dirtied xs (record host { blocks = written cs bytes host.blocks }) ∙ written-take cs bytes host.blocks in
    ap (λ (blocks : List (List ℕ)). bytes_at blocks cs) same
    ∙ bytes_at-written cs first host.blocks once inside (length-take-le (length cs) bytes (omega arith))
    ∙ ap (λ (n : ℕ). take n bytes) count

-- what is taken from the laws of page sets: a mark keeps the page size and the number of pages
abbrev pub ShapeStays : Type 0
ShapeStays = (start len : ℕ) (set : PageSet) → shape (marked start len set) ≡ shape set

module _ (shape_stays : ShapeStays) where
  -- what dirt keeps of a host, besides the blocks
  pub record Kept (old new : Host PageSet) : Type 0 where
    pub bitmaps : map shape new.bitmaps ≡ map shape old.bitmaps
    pub spaces : map shape new.spaces ≡ map shape old.spaces
    pub tables : new.tables ≡ old.tables

  -- a mark keeps them
  pub Kept-marks_pages : (id : BitmapId) (offset len : ℕ) (host : Host PageSet)
      → Kept host (marks_pages id offset len host)
  Kept-marks_pages (Block block) offset len host = record {
    bitmaps = map-changed_kept shape (marked offset len) (shape_stays offset len) host.bitmaps block;
    spaces = refl;
    tables = refl;
  }
  Kept-marks_pages (Space space) offset len host = record {
    bitmaps = refl;
    spaces = map-changed_kept shape (marked offset len) (shape_stays offset len) host.spaces space;
    tables = refl;
  }

  Kept-dirtied : (xs : List Reached) (host : Host PageSet) → Kept host (dirtied xs host)
  Kept-dirtied [] host = record { bitmaps = refl; spaces = refl; tables = refl }
  Kept-dirtied (x ∷ xs) host =
      let first = Kept-marks_pages x.bitmap x.mark 1 host in
      let rest = Kept-dirtied xs (marks_pages x.bitmap x.mark 1 host) in
      record {
        bitmaps = rest.bitmaps ∙ first.bitmaps;
        spaces = rest.spaces ∙ first.spaces;
        tables = rest.tables ∙ first.tables;
      }

  -- dirt keeps the shape of a host
  shape_of-dirtied : (xs : List Reached) (host : Host PageSet) → shape_of (dirtied xs host) ≡ shape_of host
  shape_of-dirtied xs host =
      let k = Kept-dirtied xs host in
      let b = ap (λ (bs : List (List ℕ)). map length bs) (blocks-dirtied xs host) in
      let s = length-map (dirtied xs host).spaces shape in
      let s' = length-map host.spaces shape in
      let n = ap (λ (ss : List (Option (ℕ × ℕ))). length ss) k.spaces in
      let t = ap (λ (ts : List Table). length ts) k.tables in
      cc

  module _ (xs : List Reached) (bytes : List ℕ) (host : Host PageSet) where
    moved : Host PageSet
    moved = record host { blocks = written (path_cells xs) bytes host.blocks }

    -- a write leaves the tables
    pub tables-after_write : (after_write xs bytes host).tables ≡ host.tables
    unfolding moved
    tables-after_write = (Kept-dirtied xs moved).tables

    -- a write keeps how many pages each bitmap of a block has, and their size
    pub bitmap_shapes-after_write : map shape (after_write xs bytes host).bitmaps ≡ map shape host.bitmaps
    unfolding moved
    bitmap_shapes-after_write = (Kept-dirtied xs moved).bitmaps

    -- a write keeps how many pages each space has, and their size
    pub space_shapes-after_write : map shape (after_write xs bytes host).spaces ≡ map shape host.spaces
    unfolding moved
    space_shapes-after_write = (Kept-dirtied xs moved).spaces

    -- a write keeps the shape of a host
    pub shape_of-after_write : shape_of (after_write xs bytes host) ≡ shape_of host
    unfolding moved
    shape_of-after_write = shape_of-dirtied xs moved ∙ shape_of-written (path_cells xs) bytes host
