-- What loads that succeed leave: each byte of their segments is dirty.
use Rattle.std.proofs.Common.{◌≡◌, ◌∙◌, inl, inr, ℕ, zero, suc, ◌+◌, ◌-◌, ◌^◌, ◌<◌, ◌≤◌, ◌==◌, nat_lt, Bool, true, false, if◌then◌else◌, MatchBool, MatchResult, List, [], ◌∷◌, Contains, Option, None, Result, Ok, Err, arith, ap, refl, subst, sym}
use Rattle.std.specs.Bool.{⊤}
use Rattle.std.proofs.lemmas.Bool.Decides.{nat_tests}
use Rattle.vm_memory_base.specs.Pages.{PageSet, marked}
use Rattle.vm_memory_base.specs.Table.{Table}
use Rattle.vm_memory_base.specs.Transfer.{Answer, Next}
use Rattle.vm_memory_base.specs.declared.io.VolatileMemoryError.{VolatileMemoryError}
use Rattle.vm_memory_base.specs.declared.iotlb.Permissions.TheVariants as permissions
use Rattle.vm_memory_guest.specs.Access.{access_of}
use Rattle.vm_memory_guest.specs.Dirt.{with_pages}
use Rattle.vm_memory_guest.specs.Error.{of_window}
use Rattle.vm_memory_guest.specs.Host.{Host, Cell, cells_from}
use Rattle.vm_memory_guest.specs.Lent.{AllWhole, AreDirty}
use Rattle.vm_memory_guest.specs.Memory.{Memory, route}
use Rattle.vm_memory_guest.specs.Transfer.{Fills, UntilWhole}
use Rattle.vm_memory_guest.specs.Window.{Window, span}
use Rattle.vm_memory_guest.specs.declared.region.error.GuestMemoryError.{GuestMemoryError}
use Rattle.vm_memory_guest.specs.declared.region.error.GuestMemoryError.TheVariants as access
use Rattle.vm_memory_guest.proofs.DirtLaws.{EmptyMark}
use Rattle.vm_memory_guest.proofs.EffectLaws.{DirtyPagesStay, ShapeStays}
use Rattle.vm_memory_guest.proofs.FilledLaws.{all_leave, fills_within, whole_if_all}
use Rattle.vm_memory_guest.proofs.LentLaws.{Dirtier, MarkedBytesAreDirty, stays_dirty}
use Rattle.vm_memory_guest.proofs.PathLaws.{length-access, span-windows}
use Rattle.vm_memory_guest.proofs.WrittenLaws.{span-cons}
use Rattle.linux_loader.specs.Load.{Clears, ClearsRest, FillsFront, FillsFrom, Lends, LoadsAll, LoadsSegment, Receives, zeros}
use Rattle.linux_loader.specs.Loaded.{IsDirtySegment, Outside, front_windows, rest_windows, windows_at}
use Rattle.linux_loader.specs.declared.error.LoaderError.{LoaderError}
use Rattle.linux_loader.specs.declared.error.LoaderError.TheVariants as errors
use Rattle.linux_loader.specs.declared.segment.Segment.{Segment}
use Rattle.linux_loader.proofs.KeepLemmas.{clears_keeps, front_keeps}

-- ---- a cell that lies in no window of some

below : (b o n : ℕ) (c : Cell) → Contains (cells_from b o n) c → c.offset < o + n
below b o zero c (i, within, is) = absurd (omega arith)
below b o (suc n) c (zero, within, is) = let e = ap (λ (x : Cell). x.offset) is in omega arith
below b o (suc n) c (suc i, within, is) = let l = below b (o + 1) n c (i, omega arith, is) in omega arith

bound : List Window → ℕ
bound [] = 0
bound (w ∷ ws) = w.offset + w.size + bound ws

pub far : List Window → Cell
unfolding bound
far ws = record { block = 0; offset = bound ws }

within_bound : (ws : List Window) (w : Window) → Contains ws w → w.offset + w.size ≤ bound ws
unfolding bound
within_bound [] w (i, within, is) = absurd (omega arith)
within_bound (v ∷ ws) w (zero, within, is) = let e = ap (λ (x : Window). x.offset + x.size) is in omega arith
within_bound (v ∷ ws) w (suc i, within, is) = let l = within_bound ws w (i, omega arith, is) in omega arith

pub far_outside : (ws : List Window) → Outside ws (far ws)
unfolding far
far_outside ws w among h =
    let l = below w.block.0 w.offset w.size (far ws) h in let m = within_bound ws w among in omega arith

-- ---- windows of no bytes

part_of_span : (ws : List Window) (w : Window) → Contains ws w → w.size ≤ span ws
part_of_span [] w (i, within, is) = absurd (omega arith)
part_of_span (v ∷ ws) w (zero, within, is) =
    let e = ap (λ (x : Window). x.size) is in let s = span-cons v ws in omega arith
part_of_span (v ∷ ws) w (suc i, within, is) =
    let l = part_of_span ws w (i, omega arith, is) in let s = span-cons v ws in omega arith

span_at : {B : Type 0} (m : Memory) (host : Host B) (a n : ℕ) → span (windows_at m host a n) ≤ n
span_at m host a n =
    let x = access_of m.regions (route m host.tables) a n permissions.Write in
    let s = span-windows x.path in
    let l = length-access m.regions (route m host.tables) a n permissions.Write in omega arith

none_dirty : {B : Type 0} (m : Memory) (host : Host B) (a n : ℕ) (h : Host PageSet) → n ≡ 0
    → AreDirty (windows_at m host a n) h
none_dirty m host a n h none w among at within =
    let l = part_of_span (windows_at m host a n) w among in let s = span_at m host a n in absurd (omega arith)

-- what was lent whole was lent window by window, and these have all bytes
module _ {B : Type 0} (marks : B → ℕ → ℕ → B → Type 0) (m : Memory) {S : Type 0} (source : S → Option (List Next))
    (reads : S → List ℕ → Answer → List ℕ → S → Type 0) (known : S → Option ℕ) where
  counted : (n k : ℕ) (b : Bool) → (k == n) ≡ b
      → ◌≡◌ {A = Result (Unit {0}) GuestMemoryError} (Ok tt) (if b then Ok tt else Err (access.PartialBuffer n k))
      → k ≡ n
  counted n k true is told = grind (arith, nat_tests)
  counted n k false is told = absurd (cc)

  pub received_whole : (a n : ℕ) (x z : S × Host B) → Receives source reads known marks m a n x (Ok tt) z
      → (span (windows_at m x.1 a n) ≡ n)
      × AllWhole (Fills source reads known marks UntilWhole) (windows_at m x.1 a n) x z
  received_whole a n x z (inl (told, wants, same)) = absurd (cc)
  received_whole a n x z (inr (Err e, told, order)) = absurd (cc)
  received_whole a n x z (inr (Ok k, told, order)) =
      let ws = windows_at m x.1 a n in
      let count : k ≡ n = counted n k (k == n) refl told in
      let short = span_at m x.1 a n in
      let enough : 0 + span ws ≤ k = omega arith in
      let whole = whole_if_all of_window _ (Fills source reads known marks UntilWhole)
      (fills_within source reads marks known) ws 0 k x z order enough in
      (let e = whole.0 in omega arith, whole.1)

module _ {B : Type 0} (marks : B → ℕ → ℕ → B → Type 0) (pages : B → PageSet)
    (exact : (old new : B) (offset len : ℕ) → marks old offset len new → pages new ≡ marked offset len (pages old))
    (empty : EmptyMark) (shape_stays : ShapeStays) (stays : DirtyPagesStay) (dirties : MarkedBytesAreDirty)
    (m : Memory) where
  abbrev seen : Host B → Host PageSet
  seen host = with_pages pages host

  same_pages : (host : Host B) → Dirtier (seen host) (seen host)
  same_pages host = record { bitmaps = refl; spaces = refl; dirty = λ id offset h. h }

  both : (a b c : Host B) → Dirtier (seen a) (seen b) → Dirtier (seen b) (seen c) → Dirtier (seen a) (seen c)
  both a b c k l = record {
    bitmaps = l.bitmaps ∙ k.bitmaps;
    spaces = l.spaces ∙ k.spaces;
    dirty = λ id offset h. l.dirty id offset (k.dirty id offset h);
  }

  still : (ws : List Window) (mid new : Host B) → Dirtier (seen mid) (seen new) → AreDirty ws (seen mid)
      → AreDirty ws (seen new)
  still ws mid new d h w among at within =
      stays_dirty (seen mid) (seen new) d w.bitmap.id (w.bitmap.base + at) (h w among at within)

  -- what is left: no page becomes clean, and these windows are dirty
  abbrev Leaves : List Window → Host B → Host B → Type 0
  Leaves ws old new = Dirtier (seen old) (seen new) × AreDirty ws (seen new)

  module _ {S : Type 0} (source : S → Option (List Next)) (reads : S → List ℕ → Answer → List ℕ → S → Type 0)
      (known : S → Option ℕ) where
    received_leaves : (a n : ℕ) (x z : S × Host B) → Receives source reads known marks m a n x (Ok tt) z
        → Leaves (windows_at m x.1 a n) x.1 z.1
    received_leaves a n x z got =
        all_leave source reads marks pages exact empty shape_stays stays dirties known (windows_at m x.1 a n) x z
        (received_whole marks m source reads known a n x z got).1

    lends_leaves : (a n : ℕ) (x z : S × Host B) → Lends source reads known marks m a n x (Ok tt) z
        → Leaves (windows_at m x.1 a n) x.1 z.1
    lends_leaves a n x z (Ok u, got, told) = received_leaves a n x z got
    lends_leaves a n x z (Err e, got, told) = absurd (cc)

  clears_leaves : (s : Segment) (old new : Host B) → ClearsRest marks m s old (Ok tt) new
      → Leaves (rest_windows m old s) old new
  clears_leaves s old new h = go (s.size - s.file_size == 0) refl h
    where
      inside : (b : Bool) → MatchBool b (Clears marks m (s.addr.0 + s.file_size) (s.size - s.file_size) old (Ok tt) new)
          ((◌≡◌ {A = Result (Unit {0}) LoaderError} (Ok tt) (Err errors.MemoryOverflow)) × (new ≡ old))
          → Leaves (rest_windows m old s) old new
      inside true h = lends_leaves zeros (λ s lent answer after t. ⊤) (λ s. None) (s.addr.0 + s.file_size)
          (s.size - s.file_size) (s.size - s.file_size, old) (h.0, new) h.1
      inside false h = absurd (let no = h.0 in cc)

      go : (b : Bool) → (s.size - s.file_size == 0) ≡ b
          → MatchBool b ((◌≡◌ {A = Result (Unit {0}) LoaderError} (Ok tt) (Ok tt)) × (new ≡ old))
          (MatchBool (nat_lt (s.addr.0 + s.file_size) (2 ^ 64))
          (Clears marks m (s.addr.0 + s.file_size) (s.size - s.file_size) old (Ok tt) new)
          ((◌≡◌ {A = Result (Unit {0}) LoaderError} (Ok tt) (Err errors.MemoryOverflow)) × (new ≡ old)))
          → Leaves (rest_windows m old s) old new
      go true is h =
          let none : s.size - s.file_size ≡ 0 = grind (arith, nat_tests) in (
            subst (λ (x : Host B). Dirtier (seen old) (seen x)) (sym h.1) (same_pages old),
            none_dirty m old (s.addr.0 + s.file_size) (s.size - s.file_size) (seen new) none,
          )
      go false is h = inside (nat_lt (s.addr.0 + s.file_size) (2 ^ 64)) h

  module _ {S : Type 0} (bytes : S → Option (List ℕ)) (source : S → Option (List Next))
      (reads : S → List ℕ → Answer → List ℕ → S → Type 0) (known : S → Option ℕ) where
    front_leaves : (s : Segment) (x z : S × Host B) → FillsFront bytes source reads known marks m s x (Ok tt) z
        → Leaves (front_windows m x.1 s) x.1 z.1
    front_leaves s x z h = go (s.file_size == 0) refl h
      where
        from : (f : FillsFrom bytes source reads known marks m s x (Ok tt) z) → Leaves (front_windows m x.1 s) x.1 z.1
        from f = stood f.0 f.3
          where
            stood : (stands : Result (Unit {0}) VolatileMemoryError) → MatchResult stands
                (λ _. Lends source reads known marks m s.addr.0 s.file_size (f.1, x.1) (Ok tt) z)
                (λ e. (◌≡◌ {A = Result (Unit {0}) LoaderError} (Ok tt) (Err (errors.Image e))) × (z ≡ (f.1, x.1)))
                → Leaves (front_windows m x.1 s) x.1 z.1
            stood (Ok u) l = lends_leaves source reads known s.addr.0 s.file_size (f.1, x.1) z l
            stood (Err e) over = absurd (let no = over.0 in cc)

        go : (b : Bool) → (s.file_size == 0) ≡ b
            → MatchBool b ((◌≡◌ {A = Result (Unit {0}) LoaderError} (Ok tt) (Ok tt)) × (z ≡ x))
            (FillsFrom bytes source reads known marks m s x (Ok tt) z) → Leaves (front_windows m x.1 s) x.1 z.1
        go true is h =
            let none : s.file_size ≡ 0 = grind (arith, nat_tests) in (
              subst (λ (y : S × Host B). Dirtier (seen x.1) (seen y.1)) (sym h.1) (same_pages x.1),
              none_dirty m x.1 s.addr.0 s.file_size (seen z.1) none,
            )
        go false is h = from h

    segment_leaves : (s : Segment) (x z : S × Host B) → LoadsSegment bytes source reads known marks m s x (Ok tt) z
        → Dirtier (seen x.1) (seen z.1) × IsDirtySegment m x.1 s (seen z.1) × (z.1.tables ≡ x.1.tables)
    segment_leaves s x z (Err e, mid, filled, over) = absurd (let no = over.0 in cc)
    segment_leaves s x z (Ok u, mid, filled, (cleared, same)) =
        let front = front_leaves s x mid filled in
        let rest = clears_leaves s mid.1 z.1 cleared in
        let first = front_keeps marks (far (front_windows m x.1 s)) m bytes source reads known s x (Ok u) mid
        (far_outside (front_windows m x.1 s)) filled in
        let second = clears_keeps marks (far (rest_windows m mid.1 s)) m s mid.1 (Ok tt) z.1
        (far_outside (rest_windows m mid.1 s)) cleared in (
          both x.1 mid.1 z.1 front.0 rest.0,
          record {
            front = still (front_windows m x.1 s) mid.1 z.1 rest.0 front.1;
            rest = subst (λ (tables : List Table). AreDirty (rest_windows m (record x.1 {
              tables =
                  tables;
            }) s) (seen z.1))
                first.tables rest.1;
          },
          second.tables ∙ first.tables,
        )

    moved_on : (s : Segment) (old mid new : Host B) → mid.tables ≡ old.tables → IsDirtySegment m mid s (seen new)
        → IsDirtySegment m old s (seen new)
    moved_on s old mid new same h = record {
      front = subst (λ (tables : List Table). AreDirty (front_windows m (record old { tables = tables }) s) (seen new))
          same h.front;
      rest = subst (λ (tables : List Table). AreDirty (rest_windows m (record old { tables = tables }) s) (seen new))
          same h.rest;
    }

    pub all_dirty : (ss : List Segment) (x z : S × Host B) → LoadsAll bytes source reads known marks m ss x (Ok tt) z
        → Dirtier (seen x.1) (seen z.1) × ((s : Segment) → Contains ss s → IsDirtySegment m x.1 s (seen z.1))
    unfolding LoadsAll
    all_dirty [] x z h = (
      subst (λ (y : S × Host B). Dirtier (seen x.1) (seen y.1)) (sym h.1) (same_pages x.1),
      λ s among. absurd (omega (arith, among.1)),
    )
    all_dirty (s ∷ ss) x z (Err e, mid, loads, over) = absurd (let no = over.0 in cc)
    all_dirty (s ∷ ss) x z (Ok u, mid, loads, more) =
        let first = segment_leaves s x mid loads in
        let others = all_dirty ss mid z more in
        (both x.1 mid.1 z.1 first.0 others.0, each first others)
      where
        each : Dirtier (seen x.1) (seen mid.1) × IsDirtySegment m x.1 s (seen mid.1) × (mid.1.tables ≡ x.1.tables)
            → Dirtier (seen mid.1) (seen z.1) × ((t : Segment) → Contains ss t → IsDirtySegment m mid.1 t (seen z.1))
            → (t : Segment) → Contains (s ∷ ss) t → IsDirtySegment m x.1 t (seen z.1)
        each first others t (zero, within, is) = subst (λ (r : Segment). IsDirtySegment m x.1 r (seen z.1)) is
            (record {
              front = still (front_windows m x.1 s) mid.1 z.1 others.0 first.1.front;
              rest = still (rest_windows m x.1 s) mid.1 z.1 others.0 first.1.rest;
            })
        each first others t (suc i, within, is) =
            moved_on t x.1 mid.1 z.1 first.2 (others.1 t (i, omega arith, is))
