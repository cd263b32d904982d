-- A write marks what it changes, and the windows of an access of physical memory mark their own block.
use Rattle.std.proofs.Common.{◌≡◌, ◌≢◌, ◌⊎◌, inl, inr, ℕ, zero, suc, ◌+◌, ◌%◌, ◌^◌, ◌<◌, ◌≤◌, ◌&&◌, ◌==◌, List, [], ◌∷◌, map, length, Option, Some, None, option_map, IsSome, Result, Ok, All, Contains, refl, sym, ap, ap₂, subst, ◌∙◌, arith, mod-eq_of_lt}
use Rattle.std.specs.List.{AllByRecursion}
use Rattle.std.proofs.lemmas.Bool.{cases_eq, cond_both}
use Rattle.std.proofs.lemmas.List.Elements.{All-from_recursion, All-cons, All-head, All-nil, Contains-append_cases}
use Rattle.vm_memory_base.specs.Pages.{PageSet, in_view, marked}
use Rattle.vm_memory_base.specs.Table.{Table}
use Rattle.vm_memory_base.specs.declared.bitmap.BitmapId.{BitmapId}
use Rattle.vm_memory_base.specs.declared.bitmap.BitmapId.TheVariants.{Block}
use Rattle.vm_memory_base.specs.declared.bitmap.BitmapRef.{BitmapRef}
use Rattle.vm_memory_base.specs.declared.iotlb.Permissions.{Permissions}
use Rattle.vm_memory_guest.specs.Access.{Reached, Stretch, access_of, meets, path, stretches, window_of, windows}
use Rattle.vm_memory_guest.specs.Dirt.{marks_pages, pages_at, with_pages}
use Rattle.vm_memory_guest.specs.Error.{error_of}
use Rattle.vm_memory_guest.specs.Host.{Host, Cell, byte_at, cells_from, with_byte, written}
use Rattle.vm_memory_guest.specs.Lent.{IsDirty, MarksChanges}
use Rattle.vm_memory_guest.specs.Memory.{Direct, IsOn, Memory, Route, Translation, behind_of, route, route_behind}
use Rattle.vm_memory_guest.specs.Region.{IsRegion, Region}
use Rattle.vm_memory_guest.specs.Typed.{first_aligned, given, place_of}
use Rattle.vm_memory_guest.specs.Walk.{reached}
use Rattle.vm_memory_guest.specs.Window.{Window, Writes, cells, cells_of, part}
use Rattle.vm_memory_guest.specs.declared.region.error.GuestMemoryError.{GuestMemoryError}
use Rattle.vm_memory_guest.proofs.DirtLaws.{EmptyMark, windows_dirtied, with_pages-MarksAll}
use Rattle.vm_memory_guest.proofs.EffectLaws.{DirtyPagesStay, ShapeStays, Kept-marks_pages, blocks-marks_pages, is_dirty_at-marks_stays, pages_at-marks, pages_at-with_blocks}
use Rattle.vm_memory_guest.proofs.LentLaws.{Dirtier, MarkedBytesAreDirty, dirty_after, stays_dirty}
use Rattle.vm_memory_guest.proofs.PathLaws.{Follows, meets-arrives, path-all, path-follows, stretches-all, windows-bases_direct}
use Rattle.vm_memory_guest.proofs.WrittenLaws.{byte_at-with_byte_other, lengths-written}
use Rattle.live_migration.specs.Writing.{MarksItsBlock}

-- ---- which bytes a write changes

same_or_not : (c d : Cell) → (c ≡ d) ⊎ (c ≢ d)
same_or_not c d = elim (cases_eq c.block d.block) [
  | inl p ↦ elim (cases_eq c.offset d.offset) [
    | inl q ↦ inl (ap₂ (λ (b o : ℕ). record { block = b; offset = o }) p q)
    | inr q ↦ inr (λ (e : c ≡ d). q (ap (λ (z : Cell). z.offset) e))
  ]
  | inr p ↦ inr (λ (e : c ≡ d). p (ap (λ (z : Cell). z.block) e))
]

-- a byte that changes is one of those that are written
changed_cell : (cs : List Cell) (bytes : List ℕ) (blocks : List (List ℕ)) (cell : Cell)
    → (byte_at (written cs bytes blocks) cell ≡ byte_at blocks cell) ⊎ Contains cs cell
changed_cell [] bytes blocks cell = inl refl
changed_cell (c ∷ cs) [] blocks cell = inl refl
changed_cell (c ∷ cs) (b ∷ bytes) blocks cell =
    elim (changed_cell cs bytes (with_byte blocks c b) cell) [
      | inl e ↦ elim (same_or_not cell c) [
        | inl p ↦ inr (0, omega arith, sym p)
        | inr p ↦ inl (e ∙ byte_at-with_byte_other blocks cell c b p)
      ]
      | inr m ↦ inr (suc m.0, omega (arith, m.1), m.2)
    ]

-- a byte of a run of cells
record InRun (b o n : ℕ) (cell : Cell) : Type 0 where
  at : ℕ
  within : at < n
  is : cell ≡ record { block = b; offset = o + at }

in_run : (b o n : ℕ) (cell : Cell) → Contains (cells_from b o n) cell → InRun b o n cell
in_run b o zero cell (k, l, e) = absurd (omega arith)
in_run b o (suc n) cell (zero, l, e) =
    let here : o ≡ o + 0 = omega arith in
    record {
      at = 0;
      within = omega arith;
      is = sym e ∙ ap (λ (x : ℕ). record { block = b; offset = x }) here;
    }
in_run b o (suc n) cell (suc k, l, e) =
    let f = in_run b (o + 1) n cell (k, omega arith, e) in
    let there : o + 1 + f.at ≡ o + suc f.at = omega arith in
    record {
      at = suc f.at;
      within = omega (arith, f.within);
      is = f.is ∙ ap (λ (x : ℕ). record { block = b; offset = x }) there;
    }

-- a byte of windows
record InWindows (ws : List Window) (cell : Cell) : Type 0 where
  window : Window
  among : Contains ws window
  in_it : InRun window.block.0 window.offset window.size cell

in_windows : (ws : List Window) (cell : Cell) → Contains (cells ws) cell → InWindows ws cell
in_windows [] cell (k, l, e) = absurd (omega arith)
in_windows (w ∷ ws) cell m =
    elim (Contains-append_cases (cells_of w) (cells ws) cell m) [
      | inl own ↦ record {
        window = w;
        among = (0, omega arith, refl);
        in_it = in_run w.block.0 w.offset w.size cell own;
      }
      | inr other ↦
          (let f = in_windows ws cell other in
          let a = f.among in
          record { window = f.window; among = (suc a.0, omega (arith, a.1), a.2); in_it = f.in_it })
    ]

-- ---- which pages it makes dirty

blocks-windows : (ws : List Window) (host : Host PageSet) → (windows_dirtied ws host).blocks ≡ host.blocks
blocks-windows [] host = refl
blocks-windows (w ∷ ws) host = blocks-windows ws (marks_pages w.bitmap.id w.bitmap.base w.size host)
    ∙ blocks-marks_pages w.bitmap.id w.bitmap.base w.size host

module _ (shape_stays : ShapeStays) (stays : DirtyPagesStay) (dirties : MarkedBytesAreDirty) where
  tables-windows : (ws : List Window) (host : Host PageSet) → (windows_dirtied ws host).tables ≡ host.tables
  tables-windows [] host = refl
  tables-windows (w ∷ ws) host =
      tables-windows ws (marks_pages w.bitmap.id w.bitmap.base w.size host)
      ∙ (Kept-marks_pages shape_stays w.bitmap.id w.bitmap.base w.size host).tables

  dirtier_windows : (ws : List Window) (host : Host PageSet) → Dirtier host (windows_dirtied ws host)
  dirtier_windows [] host = record { bitmaps = refl; spaces = refl; dirty = λ id offset h. h }
  dirtier_windows (w ∷ ws) host =
      let id = w.bitmap.id in
      let base = w.bitmap.base in
      let kept = Kept-marks_pages shape_stays id base w.size host in
      let rest = dirtier_windows ws (marks_pages id base w.size host) in
      record {
        bitmaps = rest.bitmaps ∙ kept.bitmaps;
        spaces = rest.spaces ∙ kept.spaces;
        dirty = λ other offset h.
            rest.dirty other offset (is_dirty_at-marks_stays stays id other base w.size offset host h);
      }

  -- each byte of a window is dirty, whatever is marked then
  first_window : (v : Window) (vs : List Window) (host : Host PageSet) (at : ℕ) → at < v.size
      → IsDirty v.bitmap.id (v.bitmap.base + at) (windows_dirtied (v ∷ vs) host)
  first_window v vs host at inside =
      let mid : Host PageSet = marks_pages v.bitmap.id v.bitmap.base v.size host in
      stays_dirty mid (windows_dirtied vs mid) (dirtier_windows vs mid) v.bitmap.id (v.bitmap.base + at)
      (λ p has below fits. dirty_after shape_stays stays dirties (pages_at v.bitmap.id host) v.bitmap.base v.size at
      p (sym (pages_at-marks v.bitmap.id v.bitmap.base v.size host) ∙ has) inside below fits)

  dirty_windows : (ws : List Window) (host : Host PageSet) (w : Window) → Contains ws w → (at : ℕ) → at < w.size
      → IsDirty w.bitmap.id (w.bitmap.base + at) (windows_dirtied ws host)
  dirty_windows [] host w (k, l, e) at within = absurd (omega arith)
  dirty_windows (v ∷ vs) host w (zero, l, e) at within =
      subst (λ (u : Window). at < u.size
      → IsDirty u.bitmap.id (u.bitmap.base + at) (windows_dirtied (v ∷ vs) host)) e
      (first_window v vs host at) within
  dirty_windows (v ∷ vs) host w (suc k, l, e) at within =
      dirty_windows vs (marks_pages v.bitmap.id v.bitmap.base v.size host) w (k, omega arith, e) at within

  windows_mark : (ws : List Window) (bytes : List ℕ) (host : Host PageSet)
      → MarksChanges ws host (windows_dirtied ws (record host { blocks = written (cells ws) bytes host.blocks }))
  windows_mark ws bytes host =
      let blocks = written (cells ws) bytes host.blocks in
      let moved : Host PageSet = record host { blocks = blocks } in
      let d = dirtier_windows ws moved in
      let same = blocks-windows ws moved in
      record {
        lengths = ap (λ (bs : List (List ℕ)). map length bs) same ∙ lengths-written (cells ws) bytes host.blocks;
        bitmaps = d.bitmaps;
        spaces = d.spaces;
        tables = tables-windows ws moved;
        dirty = λ id offset h. d.dirty id offset (rw (pages_at-with_blocks id host blocks) h);
        bytes = λ cell. elim (changed_cell (cells ws) bytes host.blocks cell) [
          | inl e ↦ inl (ap (λ (bs : List (List ℕ)). byte_at bs cell) same ∙ e)
          | inr m ↦
              (let f = in_windows ws cell m in
              let g = f.in_it in
              inr (record {
                window = f.window;
                at = g.at;
                among = f.among;
                within = g.within;
                is = g.is;
                dirty = dirty_windows ws moved f.window f.among g.at g.within;
              }))
        ];
      }

  module _ {B : Type 0} (marks : B → ℕ → ℕ → B → Type 0) (pages : B → PageSet)
      (exact : (old new : B) (offset len : ℕ) → marks old offset len new → pages new ≡ marked offset len (pages old))
      (empty : EmptyMark) where
    -- a write marks what it changes
    pub writes_mark : (ws : List Window) (bytes : List ℕ) (old new : Host B) → Writes marks ws bytes old new
        → MarksChanges ws (with_pages pages old) (with_pages pages new)
    writes_mark ws bytes old new h =
        let moved = record old { blocks = written (cells ws) bytes old.blocks } in
        subst (λ (host : Host PageSet). MarksChanges ws (with_pages pages old) host)
        (sym (with_pages-MarksAll marks pages exact empty ws moved new h))
        (windows_mark ws bytes (with_pages pages old))

-- ---- windows that mark their own block

-- a stretch of bytes marks its block's bitmap, at its own place
abbrev MarksOwn : Reached → Type 0
MarksOwn x = (x.bitmap ≡ Block x.cell.block) × (x.mark ≡ x.cell.offset)

both_own : (ss : List Stretch) → AllByRecursion (λ s. MarksOwn s.first) ss
    → AllByRecursion (λ w. w.bitmap.base + w.size ≤ 2 ^ 64) (map window_of ss)
    → AllByRecursion MarksItsBlock (map window_of ss)
both_own [] own fit = tt
both_own (s ∷ ss) own fit =
    let first = own.0 in
    let below = fit.0 in
    let at = first.1 in (
      record {
        bitmap = ap₂ (λ (id : BitmapId) (base : ℕ). record { id = id; base = base }) first.0 at;
        fits = omega arith;
      },
      both_own ss own.1 fit.1,
    )

own_direct : (regions : List Region) (a n : ℕ) → All IsRegion regions
    → All MarksItsBlock (windows (path (meets regions Direct a) 0 n))
own_direct regions a n each =
    let xs = path (meets regions Direct a) 0 n in
    let bytes : AllByRecursion MarksOwn xs =
    path-all MarksOwn (meets regions Direct a) 0 n
    (λ j low high x e. let h = meets-arrives regions Direct a j x e in (h.bitmap, h.mark)) in
    All-from_recursion MarksItsBlock (windows xs)
    (both_own (stretches xs)
    (stretches-all Follows MarksOwn (λ s. MarksOwn s.first) (λ x h. h) (λ x y len h k q. h) xs bytes
    (path-follows regions Direct a n each))
    (windows-bases_direct regions a n each))

-- addresses are physical where no IOMMU is on
direct_behind : (o : Option Translation) (tables : List Table) → (IsSome o → ⊥) → route_behind o tables ≡ Direct
direct_behind None tables off = refl
direct_behind (Some b) tables off = absurd (off refl)

module _ (memory : Memory) (tables : List Table) (a n : ℕ) (access : Permissions) (each : All IsRegion memory.regions)
    (off : IsOn memory → ⊥) where
  pub own_reached : All MarksItsBlock (reached memory tables a n access).windows
  own_reached =
      subst (λ (r : Route). All MarksItsBlock (windows (access_of memory.regions r a n access).path))
      (sym (direct_behind (behind_of memory.iommu) tables off)) (own_direct memory.regions a n each)

  pub own_place : All MarksItsBlock (given (place_of n (access_of memory.regions (route memory tables) a n access)))
  own_place =
      let x = access_of memory.regions (route memory tables) a n access in
      one n (windows x.path) (option_map error_of x.fault) own_reached
    where
      one : (size : ℕ) (ws : List Window) (fault : Option GuestMemoryError) → All MarksItsBlock ws
          → All MarksItsBlock (given (first_aligned size ws fault))
      one size [] None own = All-nil MarksItsBlock
      one size [] (Some e) own = All-nil MarksItsBlock
      one size (w ∷ ws) fault own =
          cond_both (w.size == size && w.offset % size == 0) (Ok w) _
          (λ (r : Result Window GuestMemoryError). All MarksItsBlock (given r))
          (λ e. All-cons MarksItsBlock w [] (All-head MarksItsBlock w ws own) (All-nil MarksItsBlock))
          (λ e. All-nil MarksItsBlock)

pub own_part : (w : Window) (offset len : ℕ) → MarksItsBlock w → 0 < len → offset + len ≤ w.size
    → MarksItsBlock (part w offset len)
own_part w offset len own some inside =
    let fits = own.fits in
    let base : w.bitmap.base ≡ w.offset = ap (λ (r : BitmapRef). r.base) own.bitmap in
    let there : in_view w.bitmap.base offset ≡ w.offset + offset =
    ap (λ (b : ℕ). in_view b offset) base ∙ mod-eq_of_lt (omega arith) in
    record {
      bitmap = ap₂ (λ (id : BitmapId) (b : ℕ). record { id = id; base = b })
          (ap (λ (r : BitmapRef). r.id) own.bitmap) there;
      fits = omega arith;
    }
