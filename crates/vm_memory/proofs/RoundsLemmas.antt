-- An image that is patched in rounds, and the block that it mirrors.
use Rattle.std.proofs.Common.{◌≡◌, ◌↔◌, Bool, ℕ, zero, suc, ◌+◌, ◌*◌, ◌/◌, ◌^◌, ◌<◌, ◌==◌, ◌≢◌, true, false, cond, List, [], ◌∷◌, map, length, get_or, Option, Some, None, option_map, Result, Ok, Err, IsSome, All, Contains, refl, sym, ap, subst, ◌∙◌, inl, inr, arith}
use Rattle.std.proofs.lemmas.Bool.{eqb-true, eqb-false, cases_Bool, true≢false, cond-true, cond-false}
use Rattle.std.proofs.lemmas.Cmp.{nat_eq_equiv}
use Rattle.std.proofs.lemmas.List.{length-map, set-get_or, get_or-map, get_or-set_same, get_or-set_other, ext_get_or}
use Rattle.std.proofs.lemmas.List.Elements.{All-nil, All-cons, All-head, All-tail, All-map, All-contains}
use Rattle.std.proofs.lemmas.Map.Views.{list_any-from_Contains, Contains-from_any}
use Rattle.std.proofs.lemmas.Nat.{div_below}
use Rattle.std.proofs.lemmas.Option.{slice_get_cases, slice_get_within, slice_get-map, get_or_from_slice_get}
use Rattle.std.specs.Cmp.{both_ways}
use Rattle.std.specs.List.{list_any, slice_get, slice_set}
use Rattle.vm_memory_base.specs.Pages.{Pages, PageSet, shape, is_dirty_at, dirty_pages, cleaned}
use Rattle.vm_memory_base.specs.Table.{Table}
use Rattle.vm_memory_base.specs.Transfer.{Next}
use Rattle.vm_memory_base.specs.declared.address.GuestAddress.{GuestAddress}
use Rattle.vm_memory_base.specs.declared.bitmap.BitmapId.{BitmapId}
use Rattle.vm_memory_base.specs.declared.bitmap.BitmapId.TheVariants.{Block}
use Rattle.vm_memory_base.specs.declared.iotlb.Permissions.{Permissions}
use Rattle.vm_memory_base.specs.declared.iotlb.Permissions.TheVariants as permissions
use Rattle.vm_memory_guest.specs.Access.{Reached, Stretch, onto, meets, meets_at, path, access_of, is_cut, lengthened, stretches, window_of, windows}
use Rattle.vm_memory_guest.specs.Copy.{after_copy, dirtied_cells}
use Rattle.vm_memory_guest.specs.Dirt.{pages_at, path_cells, after_write, bytes_read, dirtied, marks_pages}
use Rattle.vm_memory_guest.specs.Dealt.{received}
use Rattle.vm_memory_guest.specs.Error.{of_window}
use Rattle.vm_memory_guest.specs.Host.{Host, Cell, block_at, byte_at, bytes_at, written}
use Rattle.vm_memory_guest.specs.Lent.{IsMarked, MarksChanges}
use Rattle.vm_memory_guest.specs.Memory.{Memory, Translation, Direct, physical, route_behind}
use Rattle.vm_memory_guest.specs.Region.{Region, Lies, Backed, Unbacked, Unmapped, cell}
use Rattle.vm_memory_guest.specs.Typed.{path_given, whole_path}
use Rattle.vm_memory_guest.specs.Window.{Window, with_bitmap}
use Rattle.vm_memory_guest.specs.declared.region.error.GuestMemoryError.{GuestMemoryError}
use Rattle.vm_memory_guest.specs.declared.region.error.GuestMemoryError.TheVariants as errors
use Rattle.vm_memory_guest.specs.Patch.{patched}
use Rattle.vm_memory_guest.proofs.PatchLemmas.{get_or-patched, length-patched}
use Rattle.vm_memory.specs.Machine.{Step, outcome}
use Rattle.vm_memory_device.specs.Reach.{reached_by}
use Rattle.vm_memory.specs.Reply.{access_result, reply_of}
use Rattle.vm_memory.specs.Rounds.{patched_by, patched_with, bytes_of_block, pages_of_block, image_now, image_after, MirrorsBlock, RepliesAsImage, Cover, IsTracked}
use Rattle.vm_memory.specs.State.{State}
use Rattle.vm_memory.specs.declared.machine.command.Command.{Command}
use Rattle.vm_memory.specs.declared.machine.command.Command.TheVariants as command
use Rattle.vm_memory.specs.declared.machine.command.Reply.{Reply}
use Rattle.vm_memory.specs.declared.machine.command.Reply.TheVariants as reply

-- ---- what is taken from the laws of page sets and of writes

abbrev pub AreListed : Type 0
AreListed = (p : Pages) (page : ℕ) → Contains (dirty_pages (Some p)) page ↔ (get_or p.flags page false ≡ true)

-- an image has the bytes of the block outside the dirty pages
pub record IsClean (set : PageSet) (now image : List ℕ) : Type 0 where
  pub len : length image ≡ length now
  pub bytes : (k : ℕ) → k < length now → is_dirty_at set k ≡ false → get_or image k 0 ≡ get_or now k 0

module _ (are_listed : AreListed) where
  -- the test of a page among the dirty ones
  any-dirty : (p : Pages) (page : ℕ)
      → list_any (λ (q : ℕ). page == q) (dirty_pages (Some p)) ≡ get_or p.flags page false
  any-dirty p page =
      let dirty = dirty_pages (Some p) in
      both_ways (list_any (λ (q : ℕ). page == q) dirty) (get_or p.flags page false)
      (λ t. (are_listed p page).0 (Contains-from_any (λ x y h. eqb-true x y h) page dirty t))
      (λ t. list_any-from_Contains nat_eq_equiv page dirty ((are_listed p page).1 t))

  pub mirrors_from_clean : (set : PageSet) (now image : List ℕ) → IsClean set now image
      → patched_by set (dirty_pages set) now image ≡ now
  mirrors_from_clean None now image clean =
      ext_get_or 0 image now clean.len (λ k l. clean.bytes k (omega (arith, clean.len)) refl)
  mirrors_from_clean (Some p) now image clean =
      let dirty = dirty_pages (Some p) in
      let len = length-patched p.page_size dirty now image in
      ext_get_or 0 (patched p.page_size dirty now image) now (len ∙ clean.len)
      (λ k l. get_or-patched p.page_size dirty now image k (omega (arith, len)) ∙ at k (omega (arith, len, clean.len)))
    where
      at : (k : ℕ) → k < length now
          → cond (list_any (λ (page : ℕ). k / p.page_size == page) (dirty_pages (Some p))) (get_or now k 0)
          (get_or image k 0)
          ≡ get_or now k 0
      at k l = elim (cases_Bool (is_dirty_at (Some p) k)) [
        | inl e ↦ cond-true _ _ _ (any-dirty p (k / p.page_size) ∙ e)
        | inr e ↦ cond-false _ _ _ (any-dirty p (k / p.page_size) ∙ e) ∙ clean.bytes k l e
      ]

  pub clean_from_mirrors : (set : PageSet) (now image : List ℕ) → patched_by set (dirty_pages set) now image ≡ now
      → IsClean set now image
  clean_from_mirrors None now image e = record {
    len = ap (λ (xs : List ℕ). length xs) e;
    bytes = λ k l h. ap (λ (xs : List ℕ). get_or xs k 0) e;
  }
  clean_from_mirrors (Some p) now image e =
      let dirty = dirty_pages (Some p) in
      let len : length image ≡ length now =
      sym (length-patched p.page_size dirty now image) ∙ ap (λ (xs : List ℕ). length xs) e in
      record {
        len = len;
        bytes = λ k l h.
            sym (cond-false _ _ _ (any-dirty p (k / p.page_size) ∙ h))
            ∙ sym (get_or-patched p.page_size dirty now image k (omega (arith, len)))
            ∙ ap (λ (xs : List ℕ). get_or xs k 0) e;
      }

-- ---- writes without translation

-- a byte that marks its own place in its block's bitmap
abbrev pub MarksItsCell : Reached → Type 0
MarksItsCell x = (x.bitmap ≡ Block x.cell.block) × (x.mark ≡ x.cell.offset)

marks_first : (x p : ℕ) (l : Lies) (rest : List Reached) → All MarksItsCell rest
    → All MarksItsCell (onto (meets_at Direct x None p l) rest)
marks_first x p (Backed r c) rest own = All-cons MarksItsCell _ rest (refl, refl) own
marks_first x p Unbacked rest own = All-nil MarksItsCell
marks_first x p Unmapped rest own = All-nil MarksItsCell

marks_own : (regions : List Region) (a i n : ℕ) → All MarksItsCell (path (meets regions Direct a) i n)
unfolding path
marks_own regions a i zero = All-nil MarksItsCell
marks_own regions a i (suc n) =
    marks_first (a + i) (physical Direct a i) (cell regions (physical Direct a i))
    (path (meets regions Direct a) (i + 1) n)
    (marks_own regions a (i + 1) n)

pub direct_marks : (o : Option Translation) → (IsSome o → ⊥)
    → (regions : List Region) (tables : List Table) (a n : ℕ) (access : Permissions)
    → All MarksItsCell (access_of regions (route_behind o tables) a n access).path
direct_marks None off regions tables a n access = marks_own regions a 0 n
direct_marks (Some b) off regions tables a n access = absurd (off refl)

-- and so do those that a store takes
taken_marks : (b : Bool) (xs : List Reached) (e : GuestMemoryError) → All MarksItsCell xs
    → All MarksItsCell (path_given (cond b (Ok xs) (Err e)))
taken_marks true xs e own = own
taken_marks false xs e own = All-nil MarksItsCell

pub whole_marks : (size : ℕ) (xs : List Reached) (fault : Option GuestMemoryError) → All MarksItsCell xs
    → All MarksItsCell (path_given (whole_path size xs fault))
whole_marks size [] None own = All-nil MarksItsCell
whole_marks size [] (Some e) own = All-nil MarksItsCell
whole_marks size (x ∷ xs) fault own = taken_marks _ (x ∷ xs) _ own

-- and so do the windows of a path
marks_stretch : (x : Reached) (ss : List Stretch) → MarksItsCell x → All (λ s. MarksItsCell s.first) ss
    → All (λ s. MarksItsCell s.first) (lengthened x ss)
marks_stretch x [] own others = All-cons (λ (s : Stretch). MarksItsCell s.first) _ [] own others
marks_stretch x (s ∷ ss) own others = go (is_cut x s.first)
  where
    one : Stretch
    one = record { first = x; len = 1 }

    more : Stretch
    more = record { first = x; len = s.len + 1 }

    rest : All (λ (t : Stretch). MarksItsCell t.first) ss
    rest = All-tail (λ (t : Stretch). MarksItsCell t.first) s ss others

    go : (b : Bool) → All (λ (t : Stretch). MarksItsCell t.first) (cond b (one ∷ s ∷ ss) (more ∷ ss))
    go true = All-cons (λ (t : Stretch). MarksItsCell t.first) one (s ∷ ss) own others
    go false = All-cons (λ (t : Stretch). MarksItsCell t.first) more ss own rest

marks_stretches : (xs : List Reached) → All MarksItsCell xs → All (λ s. MarksItsCell s.first) (stretches xs)
unfolding stretches
marks_stretches [] own = All-nil (λ (s : Stretch). MarksItsCell s.first)
marks_stretches (x ∷ xs) own =
    marks_stretch x (stretches xs) (All-head MarksItsCell x xs own)
    (marks_stretches xs (All-tail MarksItsCell x xs own))

abbrev pub MarksItself : Window → Type 0
MarksItself w = (w.bitmap.id ≡ Block w.block.0) × (w.bitmap.base ≡ w.offset)

pub windows_mark : (xs : List Reached) → All MarksItsCell xs → All MarksItself (windows xs)
windows_mark xs own = All-map MarksItself window_of (stretches xs) (marks_stretches xs own)

-- the path of cells that mark their own places
abbrev pub itself : Cell → Reached
itself c = record {
  cell = c;
  region = record { start = 0; len = 0; place = None };
  mapping = None;
  bitmap = Block c.block;
  mark = c.offset;
}

pub itself_marks : (cs : List Cell) → All MarksItsCell (map itself cs)
itself_marks [] = All-nil MarksItsCell
itself_marks (c ∷ cs) = All-cons MarksItsCell _ (map itself cs) (refl, refl) (itself_marks cs)

cells-itself : (cs : List Cell) → path_cells (map itself cs) ≡ cs
cells-itself [] = refl
cells-itself (c ∷ cs) = ap (λ (ds : List Cell). c ∷ ds) (cells-itself cs)

dirtied-itself : (cs : List Cell) (host : Host PageSet) → dirtied (map itself cs) host ≡ dirtied_cells cs host
dirtied-itself [] host = refl
dirtied-itself (c ∷ cs) host = dirtied-itself cs (marks_pages (Block c.block) c.offset 1 host)

pub after_copy-is : (from to : List Cell) (host : Host PageSet)
    → after_write (map itself to) (bytes_at host.blocks from) host ≡ after_copy from to host
after_copy-is from to host =
    let start : List Cell → Host PageSet =
    λ cs. record host { blocks = written cs (bytes_at host.blocks from) host.blocks } in
    ap (λ (cs : List Cell). dirtied (map itself to) (start cs)) (cells-itself to) ∙ dirtied-itself to (start to)

-- ---- what a write keeps

map-get_or : {X Y : Type 0} (f : X → Y) (d : X) (xs : List X) (i : ℕ) → get_or (map f xs) i (f d) ≡ f (get_or xs i d)
map-get_or f d [] i = refl
map-get_or f d (x ∷ xs) zero = refl
map-get_or f d (x ∷ xs) (suc i) = map-get_or f d xs i

-- what is seen of the elements of two lists is seen of each
same_at : {X Y : Type 0} (f : X → Y) (d : X) (xs ys : List X) (i : ℕ) → map f xs ≡ map f ys
    → f (get_or xs i d) ≡ f (get_or ys i d)
same_at {X} {Y} f d xs ys i e =
    sym (map-get_or f d xs i) ∙ ap (λ (zs : List Y). get_or zs i (f d)) e ∙ map-get_or f d ys i

page_below : (n k m : ℕ) → n < m * k → n / k < m
page_below n zero m h = absurd (omega arith)
page_below n (suc k) m h = div_below n (suc k) m (omega arith) h

-- pages that cover a block, and an image that has its bytes outside those that are dirty
pub record IsKept (set : PageSet) (now image : List ℕ) : Type 0 where
  pub cover : Cover (shape set) (length now)
  pub short : length now < 2 ^ 64
  pub clean : IsClean set now image

-- the same of a block in a host
abbrev pub KeepsBlock : ℕ → List ℕ → Host PageSet → Type 0
KeepsBlock block image host = IsKept (pages_of_block block host) (bytes_of_block block host) image

-- what is taken from the laws of writes
pub record WriteLaws : Type 0 where
  pub bytes_stay : (cells : List Cell) (bytes : List ℕ) (blocks : List (List ℕ)) (c : Cell)
      → (Contains cells c → ⊥) → byte_at (written cells bytes blocks) c ≡ byte_at blocks c
  pub lengths_stay : (cells : List Cell) (bytes : List ℕ) (blocks : List (List ℕ))
      → map (λ (b : List ℕ). length b) (written cells bytes blocks) ≡ map (λ (b : List ℕ). length b) blocks
  pub named_are_dirty : (xs : List Reached) (bytes : List ℕ) (x : Reached) (host : Host PageSet) (p : Pages)
      → Contains xs x → x.mark < 2 ^ 64 → pages_at x.bitmap host ≡ Some p → x.mark / p.page_size < length p.flags
      → is_dirty_at (pages_at x.bitmap (after_write xs bytes host)) x.mark ≡ true
  pub blocks_are : (xs : List Reached) (bytes : List ℕ) (host : Host PageSet)
      → (after_write xs bytes host).blocks ≡ written (path_cells xs) bytes host.blocks
  pub dirty_stay : (xs : List Reached) (bytes : List ℕ) (id : BitmapId) (offset : ℕ) (host : Host PageSet)
      → is_dirty_at (pages_at id host) offset ≡ true
      → is_dirty_at (pages_at id (after_write xs bytes host)) offset ≡ true
  pub shapes_stay : (xs : List Reached) (bytes : List ℕ) (host : Host PageSet)
      → map shape (after_write xs bytes host).bitmaps ≡ map shape host.bitmaps
  pub lent_mark : (fault : Option GuestMemoryError) (until_full : Bool) (ws : List Window) (total : ℕ)
      (next : List Next)
      (host : Host PageSet) → MarksChanges ws host (received of_window fault until_full ws total next host).host

module _ (laws : WriteLaws) (xs : List Reached) (own : All MarksItsCell xs) (bytes : List ℕ) (host : Host PageSet) where
  -- a byte of a path makes its page dirty, where the block's bitmap covers the byte
  reached_is_dirty : (block k : ℕ) (p : Pages) → k < 2 ^ 64 → pages_of_block block host ≡ Some p
      → k < length p.flags * p.page_size
      → Contains (path_cells xs) (record { block = block; offset = k })
      → is_dirty_at (pages_of_block block (after_write xs bytes host)) k ≡ true
  reached_is_dirty block k p short is within found = elim (slice_get_cases xs found.0).1 [
    | inl at ↦
        (let x = at.0 in
        let c : Cell = record { block = block; offset = k } in
        let here : x.cell ≡ c =
        sym (get_or-map (λ (y : Reached). y.cell) xs found.0 x c at.1 ∙ ap (λ (y : Reached). y.cell) at.3) ∙ found.2 in
        let marks = All-contains MarksItsCell xs x own (found.0, at.1, at.3) in
        let id : x.bitmap ≡ Block block = marks.0 ∙ ap (λ (d : Cell). Block d.block) here in
        let mark : x.mark ≡ k = marks.1 ∙ ap (λ (d : Cell). d.offset) here in
        let pages : pages_at x.bitmap host ≡ Some p = ap (λ (i : BitmapId). pages_at i host) id ∙ is in
        let dirty = laws.named_are_dirty xs bytes x host p (found.0, at.1, at.3) (omega arith) pages
        (rw mark (page_below k p.page_size (length p.flags) within)) in
        let after = after_write xs bytes host in
        subst (λ (i : BitmapId). is_dirty_at (pages_at i after) k ≡ true) id
        (subst (λ (m : ℕ). is_dirty_at (pages_at x.bitmap after) m ≡ true) mark dirty))
    | inr past ↦ absurd (omega (arith, past.0, length-map xs (λ (y : Reached). y.cell)))
  ]

  pub write_keeps : (block : ℕ) (image : List ℕ) → KeepsBlock block image host
      → KeepsBlock block image (after_write xs bytes host)
  write_keeps block image kept = record {
    cover = subst (λ (s : Option (ℕ × ℕ)). Cover s (length (bytes_of_block block after))) (sym shapes)
        (rw len kept.cover);
    short = rw len kept.short;
    clean = record { len = kept.clean.len ∙ sym len; bytes = λ k l e. same k (rw (← len) l) e };
  }
    where
      after : Host PageSet
      after = after_write xs bytes host

      len : length (bytes_of_block block (after_write xs bytes host)) ≡ length (bytes_of_block block host)
      len =
          rw (laws.blocks_are xs bytes host)
          (same_at (λ (b : List ℕ). length b) [] (written (path_cells xs) bytes host.blocks) host.blocks block
          (laws.lengths_stay (path_cells xs) bytes host.blocks))

      shapes : shape (pages_of_block block (after_write xs bytes host)) ≡ shape (pages_of_block block host)
      shapes = same_at shape None (after_write xs bytes host).bitmaps host.bitmaps block
          (laws.shapes_stay xs bytes host)

      untouched : (k : ℕ) → k < length (bytes_of_block block host)
          → is_dirty_at (pages_of_block block (after_write xs bytes host)) k ≡ false
          → (set : PageSet) → pages_of_block block host ≡ set → Cover (shape set) (length (bytes_of_block block host))
          → Contains (path_cells xs) (record { block = block; offset = k }) → ⊥
      untouched k l e None is cover found = omega (arith, cover)
      untouched k l e (Some p) is cover found =
          true≢false (sym (reached_is_dirty block k p (omega (arith, kept.short)) is (omega (arith, cover)) found) ∙ e)

      same : (k : ℕ) → k < length (bytes_of_block block host)
          → is_dirty_at (pages_of_block block (after_write xs bytes host)) k ≡ false
          → get_or image k 0 ≡ get_or (bytes_of_block block (after_write xs bytes host)) k 0
      same k l e = elim (cases_Bool (is_dirty_at (pages_of_block block host) k)) [
        | inl dirty ↦ absurd (true≢false (sym (laws.dirty_stay xs bytes (Block block) k host dirty) ∙ e))
        | inr before ↦
            kept.clean.bytes k l before
            ∙ sym (laws.bytes_stay (path_cells xs) bytes host.blocks (record { block = block; offset = k })
            (untouched k l e (pages_of_block block host) refl kept.cover))
            ∙ ap (λ (bs : List (List ℕ)). get_or (get_or bs block []) k 0) (sym (laws.blocks_are xs bytes host))
      ]

-- and what is received
module _ (block : ℕ) (image : List ℕ) (host after : Host PageSet) (ws : List Window) (own : All MarksItself ws)
    (changes : MarksChanges ws host after) (kept : KeepsBlock block image host) where
  -- a byte of the block that changes lies in a dirty page
  marked_is_dirty : (k : ℕ) (set : PageSet) → pages_of_block block after ≡ set
      → Cover (shape set) (length (bytes_of_block block host))
      → k < length (bytes_of_block block host) → IsMarked ws (record { block = block; offset = k }) after
      → is_dirty_at set k ≡ true
  marked_is_dirty k None is cover l m = absurd (omega (arith, cover, l))
  marked_is_dirty k (Some p) is cover l m =
      let w = m.window in
      let marks = All-contains MarksItself ws w own m.among in
      let id : w.bitmap.id ≡ Block block = marks.0 ∙ ap (λ (c : Cell). Block c.block) (sym m.is) in
      let at : w.bitmap.base + m.at ≡ k = ap (λ (b : ℕ). b + m.at) marks.1 ∙ ap (λ (c : Cell). c.offset) (sym m.is) in
      let pages : pages_at w.bitmap.id after ≡ Some p = ap (λ (i : BitmapId). pages_at i after) id ∙ is in
      subst (λ (o : ℕ). is_dirty_at (Some p) o ≡ true) at
      (m.dirty p pages (rw at (omega (arith, cover, l))) (rw at (omega (arith, kept.short, l))))

  pub lent_keeps : KeepsBlock block image after
  lent_keeps = record {
    cover = rw len covers;
    short = rw len kept.short;
    clean = record { len = kept.clean.len ∙ sym len; bytes = λ k l e. same k (rw (← len) l) e };
  }
    where
      len : length (bytes_of_block block after) ≡ length (bytes_of_block block host)
      len = same_at (λ (b : List ℕ). length b) [] after.blocks host.blocks block changes.lengths

      shapes : shape (pages_of_block block after) ≡ shape (pages_of_block block host)
      shapes = same_at shape None after.bitmaps host.bitmaps block changes.bitmaps

      covers : Cover (shape (pages_of_block block after)) (length (bytes_of_block block host))
      covers = subst (λ (s : Option (ℕ × ℕ)). Cover s (length (bytes_of_block block host))) (sym shapes) kept.cover

      stays : (k : ℕ) → k < length (bytes_of_block block host) → is_dirty_at (pages_of_block block after) k ≡ false
          → get_or (bytes_of_block block after) k 0 ≡ get_or (bytes_of_block block host) k 0
      stays k l e = elim (changes.bytes (record { block = block; offset = k })) [
        | inl byte ↦ byte
        | inr marked ↦
            absurd (true≢false (sym (marked_is_dirty k (pages_of_block block after) refl covers l marked) ∙ e))
      ]

      same : (k : ℕ) → k < length (bytes_of_block block host) → is_dirty_at (pages_of_block block after) k ≡ false
          → get_or image k 0 ≡ get_or (bytes_of_block block after) k 0
      same k l e = elim (cases_Bool (is_dirty_at (pages_of_block block host) k)) [
        | inl dirty ↦ absurd (true≢false (sym (changes.dirty (Block block) k dirty) ∙ e))
        | inr before ↦ kept.clean.bytes k l before ∙ sym (stays k l e)
      ]

-- ---- what a harvest keeps

-- what is taken from the laws of page sets: clean pages are as large and as many
abbrev pub CleanedStay : Type 0
CleanedStay = (set : PageSet) → shape (cleaned set) ≡ shape set

module _ (are_listed : AreListed) (cleaned_stay : CleanedStay) (block : ℕ) (image : List ℕ) (host : Host PageSet)
    (kept : KeepsBlock block image host)
  where
    -- patched with its dirty pages, the image is the block
    harvest_keeps_own : (b : ℕ) (set : PageSet) → slice_get host.bitmaps b ≡ Some set → b ≡ block
        → KeepsBlock block (patched_with block host (dirty_pages set) image) (with_bitmap host (Block b) (cleaned set))
    harvest_keeps_own b set there same =
        let now = bytes_of_block block host in
        let is : pages_of_block block host ≡ set = rw (← same) (get_or_from_slice_get host.bitmaps b set None there) in
        let mirrors : patched_with block host (dirty_pages set) image ≡ now =
        rw (← is) (mirrors_from_clean are_listed (pages_of_block block host) now image kept.clean) in
        let within = slice_get_within host.bitmaps b set there in
        let after : pages_of_block block (with_bitmap host (Block b) (cleaned set)) ≡ cleaned set =
        rw (← same) (get_or-set_same host.bitmaps b (cleaned set) None within) in
        record {
          cover = rw (after, cleaned_stay set, ← is) kept.cover;
          short = kept.short;
          clean = record {
            len = ap (λ (xs : List ℕ). length xs) mirrors;
            bytes = λ k l e. ap (λ (xs : List ℕ). get_or xs k 0) mirrors;
          };
        }

    pub harvest_keeps : (b : ℕ) (set : PageSet) → slice_get host.bitmaps b ≡ Some set
        → KeepsBlock block
        (image_after block host (command.Harvest (Block b)) (reply.Pages (dirty_pages set)) image)
        (with_bitmap host (Block b) (cleaned set))
    harvest_keeps b set there = elim (cases_Bool (b == block)) [
      | inl t ↦
          rw (cond-true (b == block) (patched_with block host (dirty_pages set) image) image t)
          (harvest_keeps_own b set there (eqb-true b block t))
      | inr f ↦
          (let other : block ≢ b = λ e. eqb-false b block f (sym e) in
          let after : pages_of_block block (with_bitmap host (Block b) (cleaned set)) ≡ pages_of_block block host =
          get_or-set_other host.bitmaps b block (cleaned set) None other in
          rw (cond-false (b == block) (patched_with block host (dirty_pages set) image) image f, after) kept)
    ]

-- ---- copies and reads

module _ (are_listed : AreListed) where
  -- a copy of a block mirrors it
  pub copy_mirrors : (block : ℕ) (host : Host PageSet) → MirrorsBlock block host (bytes_of_block block host)
  copy_mirrors block host =
      mirrors_from_clean are_listed (pages_of_block block host) (bytes_of_block block host) (bytes_of_block block host)
      (record { len = refl; bytes = λ k l e. refl })

  -- an image that mirrors a covered block
  pub kept_from_mirrors : (block : ℕ) (image : List ℕ) (host : Host PageSet) → IsTracked block host
      → length (bytes_of_block block host) < 2 ^ 64 → MirrorsBlock block host image → KeepsBlock block image host
  kept_from_mirrors block image host tracked short mirrors = record {
    cover = tracked;
    short = short;
    clean = clean_from_mirrors are_listed (pages_of_block block host) (bytes_of_block block host) image mirrors;
  }

-- the bytes that a read replies
pub read_bytes : (xs : List Reached) (host : Host PageSet) (bytes : List ℕ) (answer : Result ℕ GuestMemoryError)
    → reply.Bytes bytes ≡ reply_of (λ (count : ℕ). reply.Bytes (bytes_read xs host)) answer → bytes ≡ bytes_read xs host
read_bytes xs host bytes (Ok count) e = cc
read_bytes xs host bytes (Err (errors.InvalidGuestAddress addr)) e = cc
read_bytes xs host bytes (Err (errors.IOError kind)) e = cc
read_bytes xs host bytes (Err (errors.PartialBuffer expected completed)) e = cc
read_bytes xs host bytes (Err errors.InvalidBackendAddress) e = cc
read_bytes xs host bytes (Err errors.HostAddressNotAvailable) e = cc
read_bytes xs host bytes (Err errors.CallbackOutOfRange) e = cc
read_bytes xs host bytes (Err errors.GuestAddressOverflow) e = cc
read_bytes xs host bytes (Err (errors.IommuError fault)) e = cc
read_bytes xs host bytes (Err errors.Memory) e = cc

-- byte k of a read, where it is of the block
pub read_of_image : (block : ℕ) (image : List ℕ) (old new : State) (memory : ℕ) (addr : GuestAddress) (n : ℕ)
    (bytes : List ℕ) (m : Memory) (k : ℕ) (x : Reached) → MirrorsBlock block old.host image
    → Step old (command.Read memory addr n) (reply.Bytes bytes) new → slice_get old.memories memory ≡ Some m
    → slice_get (reached_by m old.host.tables addr.0 n permissions.Read).path k ≡ Some x
    → x.cell.block ≡ block → slice_get bytes k ≡ Some (get_or (image_now block old.host image) x.cell.offset 0)
read_of_image block image old new memory addr n bytes m k x mirrors step there reached here = elim step [
  | inl e ↦
      (let xs = (reached_by m old.host.tables addr.0 n permissions.Read).path in
      let told = rw there at (ap (λ (p : Reply × State). p.0) e) in
      let is = read_bytes xs old.host bytes
      (access_result (reached_by m old.host.tables addr.0 n permissions.Read)) told in
      let cells : slice_get (path_cells xs) k ≡ Some x.cell =
      slice_get-map (λ (y : Reached). y.cell) xs k ∙ ap (option_map (λ (y : Reached). y.cell)) reached in
      let read : slice_get (bytes_read xs old.host) k ≡ Some (byte_at old.host.blocks x.cell) =
      slice_get-map (byte_at old.host.blocks) (path_cells xs) k ∙ ap (option_map (byte_at old.host.blocks)) cells in
      rw (is, mirrors) (read ∙ ap (λ (b : ℕ). Some (get_or (block_at old.host.blocks b) x.cell.offset 0)) here))
  | inr want ↦ absurd (let e : reply.Bytes bytes ≡ reply.Memory = want.0 in cc)
]

-- where an image mirrors a block, it may stand in its place
pub replies_as_image : (block : ℕ) (image : List ℕ) (old : State) (c : Command) → MirrorsBlock block old.host image
    → RepliesAsImage block image old c
replies_as_image block image old c mirrors =
    ap (λ (bs : List (List ℕ)). (outcome (record old { host = record old.host { blocks = bs } }) c).0)
    (ap (λ (b : List ℕ). slice_set old.host.blocks block b) mirrors ∙ set-get_or old.host.blocks block [])
