-- Marks of windows in the bitmaps of their own blocks.
use Rattle.std.specs.List.{AllByRecursion}
use Rattle.std.proofs.Common.{◌≡◌, ◌⊎◌, ◌∙◌, refl, sym, ap, ap₂, subst, inl, inr, ℕ, zero, suc, ◌+◌, ◌^◌, ◌<◌, ◌≤◌, arith, Bool, true, false, List, [], ◌∷◌, ◌++◌, length, map, flat_map, All, Option, Some, None, option_map, Result, Ok, Err, append_assoc, append-nil, slice_get, get_or, drop, drop-cons, add-one, Contains, ◌/◌}
use Rattle.std.proofs.lemmas.Bool.{cond-false}
use Rattle.std.proofs.lemmas.List.{get_or-map, length-map, map-append}
use Rattle.std.proofs.lemmas.List.Elements.{All-cons, All-nil, All-head, All-tail, All-from_recursion}
use Rattle.vm_memory_base.specs.Address.{numbers, step}
use Rattle.vm_memory_base.specs.Lookup.{Translates, RefusesTranslation}
use Rattle.vm_memory_base.specs.Pages.{Pages, PageSet, is_dirty_at, marked}
use Rattle.vm_memory_base.specs.Table.{Table, says}
use Rattle.vm_memory_base.specs.declared.bitmap.BitmapId.{BitmapId}
use Rattle.vm_memory_base.specs.declared.bitmap.BitmapId.TheVariants.{Block}
use Rattle.vm_memory_base.specs.declared.iotlb.IommuError.{IommuError}
use Rattle.vm_memory_base.specs.declared.iotlb.Permissions.TheVariants as permissions
use Rattle.vm_memory_base.specs.declared.iotlb.lookup.MappedRange.{MappedRange}
use Rattle.vm_memory_guest.specs.Access.{Access, AccessFault, Reached, allowed, meets, path, refusal, first_fault}
use Rattle.vm_memory_guest.specs.Answer.{Reach}
use Rattle.vm_memory_guest.specs.Copy.{dirtied_cells}
use Rattle.vm_memory_guest.specs.Dirt.{after_write, marks_pages, pages_at, path_cells, window_marks, with_pages}
use Rattle.vm_memory_guest.specs.Error.{error_of}
use Rattle.vm_memory_guest.specs.Host.{Cell, Host, Holds, Shape, cells_from, shape_of, written}
use Rattle.vm_memory_guest.specs.Memory.{Memory, Direct, route}
use Rattle.vm_memory_guest.specs.Pieces.{followed_by, marking, marking_from, unless_stopped, walk_of_pieces}
use Rattle.vm_memory_guest.specs.Region.{Region, IsRegion, region_names}
use Rattle.vm_memory_guest.specs.Transfer.{ended}
use Rattle.vm_memory_guest.specs.Walk.{NeedsPieces, items_of, reached, walk_of}
use Rattle.vm_memory_guest.specs.Window.{MarksAll, MarksWindow, Window, cells, cells_of, span, window_names}
use Rattle.vm_memory_guest.specs.declared.region.error.GuestMemoryError.{GuestMemoryError}
use Rattle.vm_memory_guest.proofs.AccessLaws.{cells-access}
use Rattle.vm_memory_guest.proofs.AccessLemmas.{Came, Ends, Gave, answer-ends, answer-whole, came_first, came_more, next_all}
use Rattle.vm_memory_guest.proofs.DirtLaws.{EmptyMark, Fits, MarkIsByBytes, each_marked, windows_dirtied-each, with_pages-MarksAll}
use Rattle.vm_memory_guest.proofs.MarkLaws.{MarksAll-append, shape_of-MarksAll}
use Rattle.vm_memory_guest.proofs.PathLaws.{length-access, windows-bases_direct, windows-held}
use Rattle.vm_memory_guest.proofs.WrittenLaws.{cells-append, cells-one, length-cells, span-append}
use Rattle.vm_memory_device.specs.Iommu.{behind, of_translation}
use Rattle.vm_memory_device.specs.Memories.{plain}
use Rattle.vm_memory_device.specs.Reach.{reached_by}
use Rattle.vm_memory_device.proofs.IommuLemmas.{fails-on, gives-on}
use Rattle.vm_memory.specs.Copy.{has_block, ends_inside}
use Rattle.vm_memory.specs.Marks.{marks_range, marks_reached}
use Rattle.vm_memory.specs.Parts.{range_window}
use Rattle.vm_memory.specs.Reply.{access_result, refusal_of, refused_as, replied, reply_of}
use Rattle.vm_memory.specs.declared.machine.command.BlockRange.{BlockRange}
use Rattle.vm_memory.specs.declared.machine.command.Reply.{Reply}
use Rattle.vm_memory.specs.declared.machine.command.Reply.TheVariants.{Count, Done}
use Rattle.vm_memory.specs.declared.machine.refusal.Refusal.{Refusal}
use Rattle.vm_memory.specs.declared.machine.refusal.Refusal.TheVariants as refusals
use Rattle.vm_memory.proofs.RoundsLemmas.{MarksItself, after_copy-is, direct_marks, itself, windows_mark}

-- ---- marks of windows are the dirt of their cells

-- the bitmap and the offset that a cell marks
abbrev cell_mark : Cell → BitmapId × ℕ
cell_mark c = (Block c.block, c.offset)

dirtied_cells-each : (cs : List Cell) (host : Host PageSet)
    → dirtied_cells cs host ≡ each_marked (map cell_mark cs) host
dirtied_cells-each [] host = refl
dirtied_cells-each (c ∷ cs) host = dirtied_cells-each cs (marks_pages (Block c.block) c.offset 1 host)

pub dirtied_cells-append : (xs ys : List Cell) (host : Host PageSet)
    → dirtied_cells (xs ++ ys) host ≡ dirtied_cells ys (dirtied_cells xs host)
dirtied_cells-append [] ys host = refl
dirtied_cells-append (x ∷ xs) ys host = dirtied_cells-append xs ys (marks_pages (Block x.block) x.offset 1 host)

marks-cells_from : (b o n : ℕ) → map (λ (x : ℕ). (Block b, x)) (numbers o n) ≡ map cell_mark (cells_from b o n)
marks-cells_from b o zero = refl
marks-cells_from b o (suc n) = ap (λ (ms : List (BitmapId × ℕ)). (Block b, o) ∷ ms) (marks-cells_from b (o + 1) n)

-- windows that mark themselves mark what their cells mark
own_marks : (ws : List Window) → All MarksItself ws → flat_map window_marks ws ≡ map cell_mark (cells ws)
own_marks [] own = refl
own_marks (w ∷ ws) own =
    let here = All-head MarksItself w ws own in
    let one : window_marks w ≡ map cell_mark (cells_of w) =
    ap₂ (λ (id : BitmapId) (base : ℕ). map (λ (x : ℕ). (id, x)) (numbers base w.size)) here.0 here.1
    ∙ marks-cells_from w.block.0 w.offset w.size in
    ap₂ (λ (xs ys : List (BitmapId × ℕ)). xs ++ ys) one (own_marks ws (All-tail MarksItself w ws own))
    ∙ sym (map-append cell_mark (cells_of w) (cells ws))

module _ {B : Type 0} (marks : B → ℕ → ℕ → B → Type 0) (pages : B → PageSet)
    (exact : (old new : B) (offset len : ℕ) → marks old offset len new → pages new ≡ marked offset len (pages old))
    (empty : EmptyMark) (by_bytes : MarkIsByBytes) where
  pub dirtied_cells-MarksAll : (ws : List Window) (old new : Host B) → All MarksItself ws → All Fits ws
      → MarksAll marks ws old new → with_pages pages new ≡ dirtied_cells (cells ws) (with_pages pages old)
  dirtied_cells-MarksAll ws old new own fit h =
      let host = with_pages pages old in
      with_pages-MarksAll marks pages exact empty ws old new h
      ∙ (windows_dirtied-each by_bytes ws host fit
      ∙ (ap (λ (ms : List (BitmapId × ℕ)). each_marked ms host) (own_marks ws own)
      ∙ sym (dirtied_cells-each (cells ws) host)))

  -- the windows of a walk without translation
  pub dirtied_cells-walk : (regions : List Region) (a n : ℕ) (old new : Host B) → All IsRegion regions
      → MarksAll marks (walk_of regions a n).windows old new
      → with_pages pages new ≡ dirtied_cells (cells (walk_of regions a n).windows) (with_pages pages old)
  dirtied_cells-walk regions a n old new each h =
      let ws = (walk_of regions a n).windows in
      dirtied_cells-MarksAll ws old new
      (windows_mark (path (meets regions Direct a) 0 n)
      (direct_marks None (λ on. absurd (cc)) regions [] a n permissions.Write))
      (All-from_recursion Fits ws (windows-bases_direct regions a n each)) h

  -- a window of a block that marks the block
  pub dirtied_cells-range : (range : BlockRange) (old new : Host B) → range.offset + range.len ≤ 2 ^ 64
      → MarksWindow marks (range_window range) old new
      → with_pages pages new
      ≡ dirtied_cells (cells_from range.block range.offset range.len) (with_pages pages old)
  dirtied_cells-range range old new fits h =
      let w = range_window range in
      dirtied_cells-MarksAll (w ∷ []) old new (All-cons MarksItself w [] (refl, refl) (All-nil MarksItself))
      (All-cons Fits w [] fits (All-nil Fits)) (new, h, refl)
      ∙ ap (λ (cs : List Cell). dirtied_cells cs (with_pages pages old)) (cells-one w)

-- marks of a range of a block that is there, and that the range ends in
pub range_marked : (old new : Host PageSet) (range : BlockRange) → has_block old range ≡ true
    → ends_inside old range ≡ true → new ≡ dirtied_cells (cells_from range.block range.offset range.len) old
    → (Done, new) ≡ marks_range old range
range_marked old new range a b same = rw (a, b, same) refl

-- ---- what marks keep

written-none : (cs : List Cell) (blocks : List (List ℕ)) → written cs [] blocks ≡ blocks
written-none [] blocks = refl
written-none (c ∷ cs) blocks = refl

-- the dirt of cells is that of a write of no byte to a path that marks its own cells
dirtied_cells-write : (cs : List Cell) (host : Host PageSet)
    → after_write (map itself cs) [] host ≡ dirtied_cells cs host
dirtied_cells-write cs host =
    after_copy-is [] cs host
    ∙ ap (λ (blocks : List (List ℕ)). dirtied_cells cs (record host { blocks = blocks })) (written-none cs host.blocks)

pub dirtied_cells-rest : (cs : List Cell) (host : Host PageSet)
    → dirtied_cells cs host ≡ record host { bitmaps = (dirtied_cells cs host).bitmaps }
dirtied_cells-rest [] host = refl
dirtied_cells-rest (c ∷ cs) host = dirtied_cells-rest cs (marks_pages (Block c.block) c.offset 1 host)

-- where a write makes no page clean
pub dirtied_cells-stay : ((xs : List Reached) (bytes : List ℕ) (id : BitmapId) (offset : ℕ) (host : Host PageSet)
    → is_dirty_at (pages_at id host) offset ≡ true
    → is_dirty_at (pages_at id (after_write xs bytes host)) offset ≡ true)
    → (cs : List Cell) (id : BitmapId) (offset : ℕ) (host : Host PageSet)
    → is_dirty_at (pages_at id host) offset ≡ true
    → is_dirty_at (pages_at id (dirtied_cells cs host)) offset ≡ true
dirtied_cells-stay stay cs id offset host dirty =
    subst (λ (h : Host PageSet). is_dirty_at (pages_at id h) offset ≡ true) (dirtied_cells-write cs host)
    (stay (map itself cs) [] id offset host dirty)

Contains-map : {X Y : Type 0} (f : X → Y) (xs : List X) (x : X) → Contains xs x → Contains (map f xs) (f x)
Contains-map f xs x (k, below, is) =
    (k, rw (length-map xs f) below, get_or-map f xs k x (f x) below ∙ ap f is)

-- where a write makes the page of each byte of its path dirty
pub dirtied_cells-dirty : ((xs : List Reached) (bytes : List ℕ) (x : Reached) (host : Host PageSet) (p : Pages)
    → Contains xs x → x.mark < 2 ^ 64 → pages_at x.bitmap host ≡ Some p → x.mark / p.page_size < length p.flags
    → is_dirty_at (pages_at x.bitmap (after_write xs bytes host)) x.mark ≡ true)
    → (cs : List Cell) (c : Cell) (host : Host PageSet) (p : Pages) → Contains cs c → c.offset < 2 ^ 64
    → pages_at (Block c.block) host ≡ Some p → c.offset / p.page_size < length p.flags
    → is_dirty_at (pages_at (Block c.block) (dirtied_cells cs host)) c.offset ≡ true
dirtied_cells-dirty named cs c host p among fits there within =
    subst (λ (h : Host PageSet). is_dirty_at (pages_at (Block c.block) h) c.offset ≡ true) (dirtied_cells-write cs host)
    (named (map itself cs) [] (itself c) host p (Contains-map itself cs c among) fits there within)

-- ---- a walk, window by window

module _ {B : Type 0} (marks : B → ℕ → ℕ → B → Type 0) where
  -- marks came so far: the windows that are done are marked
  pub record Marked (start left : Reach AccessFault) (old now : Host B) (total : ℕ) : Type 0 where
    pub done : List Window
    pub came : Came start left done total
    pub marked : MarksAll marks done old now

  pub marked_first : (start : Reach AccessFault) (host : Host B) → Marked start start host host 0
  marked_first start host = record { done = []; came = came_first start; marked = refl }

  pub marked_more : {start left next : Reach AccessFault} {w : Window} {old mid : Host B} {total : ℕ}
      → Marked start left old mid total → Gave left next w → (new : Host B) (len : ℕ) → len ≡ w.size
      → MarksWindow marks w mid new → Marked start next old new (total + len)
  marked_more {start} {left} {next} {w} {old} {mid} {total} so_far gives new len is here = record {
    done = so_far.done ++ w ∷ [];
    came = came_more so_far.came gives len is;
    marked = MarksAll-append marks so_far.done (w ∷ []) old mid new so_far.marked (new, here, refl);
  }

  -- the window that comes next is held
  pub marked-held : {start left : Reach AccessFault} {w : Window} {item : Result Window GuestMemoryError}
      {items : List (Result Window GuestMemoryError)} {old now : Host B} {total : ℕ}
      → Marked start left old now total → items_of left ≡ item ∷ items → item ≡ Ok w
      → AllByRecursion (λ v. Holds (shape_of old) (window_names v)) start.windows
      → Holds (shape_of now) (window_names w)
  marked-held {start} {left} {w} {item} {items} {old} {now} so_far gives is held =
      subst (λ (shape : Shape). Holds shape (window_names w))
      (sym (shape_of-MarksAll marks so_far.done old now so_far.marked))
      (next_all so_far.came gives is (λ v. Holds (shape_of old) (window_names v)) held)

  -- at the end all windows are marked
  module _ {start left : Reach AccessFault} {old now : Host B} {total : ℕ} {error : Option GuestMemoryError}
      (so_far : Marked start left old now total) (ends : Ends left error) where
    all_done : start.windows ≡ so_far.done
    all_done = so_far.came.windows ∙ ap (λ (ws : List Window). so_far.done ++ ws) ends.windows ∙ append-nil so_far.done

    pub marked-count : total ≡ span start.windows
    marked-count = so_far.came.count ∙ sym (ap span all_done)

    pub marked-fault : error ≡ option_map error_of start.fault
    marked-fault = sym (so_far.came.fault ∙ ends.fault)

    pub marked-all : MarksAll marks start.windows old now
    marked-all = subst (λ (ws : List Window). MarksAll marks ws old now) (sym all_done) so_far.marked

    pub marked-shape : shape_of now ≡ shape_of old
    marked-shape = shape_of-MarksAll marks so_far.done old now so_far.marked

-- ---- walks over pieces, one after the other

-- what one walk and another after it have: the first's windows, and then the other's unless the first stops
pub record Split (left : Reach AccessFault) (ws : List Window) (next : Reach AccessFault) : Type 0 where
  pub windows : left.windows ≡ ws ++ next.windows
  pub fault : left.fault ≡ next.fault

split_at : (ws : List Window) (o : Option AccessFault) (rest : Reach AccessFault)
    → (next : Reach AccessFault) × Split (unless_stopped ws o rest) ws next
split_at ws None rest = (rest, record { windows = refl; fault = refl })
split_at ws (Some f) rest =
    (record { windows = []; fault = Some f }, record { windows = sym (append-nil ws); fault = refl })

split_on : (ws : List Window) (o : Option AccessFault) (rest : Reach AccessFault) → option_map error_of o ≡ None
    → Split (unless_stopped ws o rest) ws rest
split_on ws None rest none = record { windows = refl; fault = refl }
split_on ws (Some f) rest none = absurd (cc)

split_end : (ws : List Window) (o : Option AccessFault) (rest : Reach AccessFault) (e : GuestMemoryError)
    → option_map error_of o ≡ Some e → Split (unless_stopped ws o rest) ws (record { windows = []; fault = o })
split_end ws None rest e some = absurd (cc)
split_end ws (Some f) rest e some = record { windows = sym (append-nil ws); fault = refl }

-- the next of pieces, and the others after it
pub pieces_next : (regions : List Region) (ps : List MappedRange) (i : ℕ) (d : MappedRange) → i < length ps
    → walk_of_pieces regions (drop i ps)
    ≡ followed_by (walk_of regions (get_or ps i d).base.0 (get_or ps i d).length)
    (walk_of_pieces regions (drop (i + 1) ps))
pieces_next regions ps i d below =
    let cons : drop i ps ≡ get_or ps i d ∷ drop (i + 1) ps = rw add-one (drop-cons ps i d below) in
    ap (walk_of_pieces regions) cons

-- the windows of a walk without translation are held
pub walk-held : (shape : Shape) (regions : List Region) (a n : ℕ) → All IsRegion regions
    → Holds shape (flat_map region_names regions)
    → AllByRecursion (λ w. Holds shape (window_names w)) (walk_of regions a n).windows
walk-held shape regions a n each held = windows-held shape regions Direct a n each held tt

-- pieces came so far: the windows of those that are done have their dirt
pub record Went (all left : Reach AccessFault) (old now : Host PageSet) (total : ℕ) : Type 0 where
  pub done : List Window
  pub came : Came all left done total
  pub dirt : now ≡ dirtied_cells (cells done) old

pub went_first : (all : Reach AccessFault) (host : Host PageSet) → Went all all host host 0
went_first all host = record { done = []; came = came_first all; dirt = refl }

module _ {all left : Reach AccessFault} {old mid : Host PageSet} {total : ℕ}
    (so_far : Went all left old mid total) where
  went_past : (ws : List Window) (next : Reach AccessFault) → Split left ws next → (count : ℕ) → count ≡ span ws
      → (new : Host PageSet) → new ≡ dirtied_cells (cells ws) mid → Went all next old new (total + count)
  went_past ws next split count is new dirt =
      let done = so_far.done in record {
        done = done ++ ws;
        came = record {
          windows = so_far.came.windows ∙ ap (λ (vs : List Window). done ++ vs) split.windows
              ∙ sym (append_assoc done ws next.windows);
          fault = so_far.came.fault ∙ ap (option_map error_of) split.fault;
          count = let a = span-append done ws in let b = so_far.came.count in omega arith;
        };
        dirt = dirt ∙ ap (dirtied_cells (cells ws)) so_far.dirt ∙ sym (dirtied_cells-append (cells done) (cells ws) old)
            ∙ ap (λ (cs : List Cell). dirtied_cells cs old) (sym (cells-append done ws));
      }

  went-fits_past : (ws : List Window) (next : Reach AccessFault) → Split left ws next
      → total + span ws ≤ span all.windows
  went-fits_past ws next split =
      let done = so_far.done in
      let whole : span all.windows ≡ span (done ++ (ws ++ next.windows)) =
      ap span (so_far.came.windows ∙ ap (λ (vs : List Window). done ++ vs) split.windows) in
      let a = span-append done (ws ++ next.windows) in
      let b = span-append ws next.windows in
      let c = so_far.came.count in
      omega arith

  -- the next piece, of which this is the walk, and the others after it
  module _ (w rest : Reach AccessFault) (is : left ≡ followed_by w rest) where
    pub went-fits : total + span w.windows ≤ span all.windows
    went-fits =
        let parts = split_at w.windows w.fault rest in
        went-fits_past w.windows parts.0 (subst (λ (x : Reach AccessFault). Split x w.windows parts.0) (sym is) parts.1)

    module _ (count : ℕ) (counts : count ≡ span w.windows) (new : Host PageSet)
        (dirt : new ≡ dirtied_cells (cells w.windows) mid) where
      pub went_on : option_map error_of w.fault ≡ None → Went all rest old new (total + count)
      went_on none = went_past w.windows rest
          (subst (λ (x : Reach AccessFault). Split x w.windows rest) (sym is) (split_on w.windows w.fault rest none))
          count counts new dirt

      pub went_stops : (e : GuestMemoryError) → option_map error_of w.fault ≡ Some e
          → Went all (record { windows = []; fault = w.fault }) old new (total + count)
      went_stops e some =
          let end : Reach AccessFault = record { windows = []; fault = w.fault } in
          went_past w.windows end
          (subst (λ (x : Reach AccessFault). Split x w.windows end) (sym is)
          (split_end w.windows w.fault rest e some)) count counts new dirt

-- at the end: how many bytes there were, or why there are none, and the dirt of all of them
module _ {all left : Reach AccessFault} {old now : Host PageSet} {total : ℕ} (so_far : Went all left old now total)
    (none : left.windows ≡ []) where
  all_went : all.windows ≡ so_far.done
  all_went = so_far.came.windows ∙ ap (λ (ws : List Window). so_far.done ++ ws) none ∙ append-nil so_far.done

  pub went-dirt : now ≡ dirtied_cells (cells all.windows) old
  went-dirt = so_far.dirt ∙ ap (λ (ws : List Window). dirtied_cells (cells ws) old) (sym all_went)

  went-ends : (error : Option GuestMemoryError) → option_map error_of left.fault ≡ error → Ends left error
  went-ends error is = record { windows = none; fault = is }

  pub went-whole : option_map error_of left.fault ≡ None
      → Ok total ≡ refused_as (ended (span all.windows) (option_map error_of all.fault))
  went-whole is = ap refused_as (answer-whole so_far.came (went-ends None is))

  pub went-stopped : (e : GuestMemoryError) → option_map error_of left.fault ≡ Some e
      → refused_as (ended total (Some e)) ≡ refused_as (ended (span all.windows) (option_map error_of all.fault))
  went-stopped e is = ap refused_as (answer-ends so_far.came (went-ends (Some e) is))

-- ---- what an access reaches

-- windows that mark a space have the cells that they had
cells-marking : (space : ℕ) (ws : List Window) (x : ℕ) → cells (marking_from space x ws) ≡ cells ws
cells-marking space [] x = refl
cells-marking space (w ∷ ws) x = ap (λ (cs : List Cell). cells_of w ++ cs) (cells-marking space ws (step x w.size))

told_as : (r : Result ℕ GuestMemoryError) → replied Count (refused_as r) ≡ reply_of Count r
told_as (Ok count) = refl
told_as (Err e) = refl

-- marks of a walk that has the cells that an access reaches, and is stopped by what stops it
module _ (m : Memory) (host new : Host PageSet) (a n : ℕ) (walk : Reach AccessFault) (each : All IsRegion m.regions)
    (same : cells walk.windows ≡ cells (reached m host.tables a n permissions.Write).windows)
    (stops : walk.fault ≡ (reached m host.tables a n permissions.Write).fault) where
  abbrev access : Access
  access = reached_by m host.tables a n permissions.Write

  path_is : cells walk.windows ≡ path_cells access.path
  path_is = same ∙ cells-access m.regions each a n (route m host.tables) permissions.Write

  pub count_is : span walk.windows ≡ length access.path
  count_is = sym (length-cells walk.windows) ∙ ap (λ (cs : List Cell). length cs) path_is
      ∙ length-map access.path (λ (x : Reached). x.cell)

  pub marks_are : (r : Result ℕ Refusal)
      → r ≡ refused_as (ended (span walk.windows) (option_map error_of walk.fault))
      → new ≡ dirtied_cells (cells walk.windows) host
      → (replied Count r, new) ≡ marks_reached m host a n
  marks_are r answer dirt =
      let told : r ≡ refused_as (access_result access) =
      answer ∙ ap₂ (λ (k : ℕ) (o : Option AccessFault). refused_as (ended k (option_map error_of o))) count_is stops in
      ap₂ (λ (x : Reply) (h : Host PageSet). (x, h))
      (ap (λ (x : Result ℕ Refusal). replied Count x) told ∙ told_as (access_result access))
      (dirt ∙ ap (λ (cs : List Cell). dirtied_cells cs host) path_is)

  pub fits : n < 2 ^ 64 → span walk.windows < 2 ^ 64
  fits below =
      let count = count_is in
      let most = length-access m.regions (route m host.tables) a n permissions.Write in
      omega arith

-- one piece is the walk over it
walk-one : (regions : List Region) (p : MappedRange)
    → walk_of_pieces regions (p ∷ []) ≡ walk_of regions p.base.0 p.length
walk-one regions p =
    let w = walk_of regions p.base.0 p.length in go w.windows w.fault
  where
    go : (ws : List Window) (o : Option AccessFault)
        → unless_stopped ws o (record { windows = []; fault = None }) ≡ record { windows = ws; fault = o }
    go ws None = ap (λ (vs : List Window). record { windows = vs; fault = None }) (append-nil ws)
    go ws (Some f) = refl

-- marks of the one piece that an access without translation is
module _ (regions : List Region) (each : All IsRegion regions) (host : Host PageSet) (p : MappedRange) where
  abbrev one : Reach AccessFault
  one = walk_of_pieces regions (p ∷ [])

  pub layout-fits : p.length < 2 ^ 64 → span one.windows < 2 ^ 64
  layout-fits = fits (plain regions) host host p.base.0 p.length one each
      (ap (λ (w : Reach AccessFault). cells w.windows) (walk-one regions p))
      (ap (λ (w : Reach AccessFault). w.fault) (walk-one regions p))

  pub layout_marks : (new : Host PageSet) (r : Result ℕ Refusal)
      → r ≡ refused_as (ended (span one.windows) (option_map error_of one.fault))
      → new ≡ dirtied_cells (cells one.windows) host
      → (replied Count r, new) ≡ marks_reached (plain regions) host p.base.0 p.length
  layout_marks new = marks_are (plain regions) host new p.base.0 p.length one each
      (ap (λ (w : Reach AccessFault). cells w.windows) (walk-one regions p))
      (ap (λ (w : Reach AccessFault). w.fault) (walk-one regions p))

-- marks of an access that is not allowed
marks-refused : (m : Memory) (host : Host PageSet) (a n : ℕ)
    → allowed (route m host.tables) a n permissions.Write ≡ false → (d : GuestMemoryError)
    → d ≡ error_of (refusal (route m host.tables) a n)
    → (replied Count (Err (refusal_of d)), host) ≡ marks_reached m host a n
marks-refused m host a n refused d is =
    let way = route m host.tables in
    ap (λ (e : GuestMemoryError). (reply_of {T = ℕ} Count (Err e), host)) is
    ∙ sym (ap (λ (x : Access). (reply_of Count (access_result x), dirtied_cells (path_cells x.path) host))
    (cond-false (allowed way a n permissions.Write)
    (record { path = path (meets m.regions way a) 0 n; fault = first_fault (meets m.regions way a) 0 n })
    (record { path = []; fault = Some (refusal way a n) }) refused))

module _ {R : Type 0} (region : R → Region) (rs : List R) (table space : ℕ) (on : Bool)
    (each : All IsRegion (map region rs)) (host : Host PageSet) (a n : ℕ) where
  abbrev m : Memory
  m = behind (map region rs) table space on

  -- marks behind an IOMMU that is off
  pub off_marks : on ≡ false → (marked : Reply × Host PageSet) → marked ≡ marks_reached (plain (map region rs)) host a n
      → marked ≡ marks_reached m host a n
  off_marks off marked is =
      is ∙ ap (λ (b : Bool). marks_reached (behind (map region rs) table space b) host a n) (sym off)

  -- marks of the pieces of a translation
  module _ (is_on : on ≡ true) (t : Table) (there : slice_get host.tables table ≡ Some t) where
    module _ (found : List MappedRange) (gives : Translates (says t) a n permissions.Write found) where
      abbrev walk : Reach AccessFault
      walk = walk_of_pieces (map region rs) found

      reaches : marking space a walk ≡ reached m host.tables a n permissions.Write
      reaches = (gives-on region rs table space on is_on host.tables t there a n permissions.Write found gives
          (marking space a walk) refl).1

      same_cells : cells walk.windows ≡ cells (reached m host.tables a n permissions.Write).windows
      same_cells = sym (cells-marking space walk.windows a) ∙ ap (λ (w : Reach AccessFault). cells w.windows) reaches

      pub on-fits : n < 2 ^ 64 → span walk.windows < 2 ^ 64
      on-fits = fits m host host a n walk each same_cells (ap (λ (w : Reach AccessFault). w.fault) reaches)

      pub on_marks : (new : Host PageSet) (r : Result ℕ Refusal)
          → r ≡ refused_as (ended (span walk.windows) (option_map error_of walk.fault))
          → new ≡ dirtied_cells (cells walk.windows) host → (replied Count r, new) ≡ marks_reached m host a n
      on_marks new = marks_are m host new a n walk each same_cells (ap (λ (w : Reach AccessFault). w.fault) reaches)

    -- a translation that is refused
    pub on_fails : (e : IommuError) → RefusesTranslation (says t) a n permissions.Write e
        → let r : Result ℕ Refusal = Err (refusal_of (of_translation e)) in
        ((replied Count r, host) ≡ marks_reached m host a n)
        ⊎ ((r ≡ Err refusals.Memory) × NeedsPieces m host.tables a n permissions.Write × (host ≡ host))
    on_fails e refuses =
        elim (fails-on region rs table space on is_on host.tables t there a n permissions.Write e refuses
        (of_translation e) refl) [
          | inl wants ↦ inr (ap (λ (d : GuestMemoryError). Err (refusal_of d)) wants.0, wants.1, refl)
          | inr refused ↦ inl (marks-refused m host a n refused.0 (of_translation e) refused.1)
        ]
