-- Numbers that were stored lie where they were stored.
use Rattle.std.proofs.Common.{◌≡◌, ◌≢◌, ◌∙◌, ℕ, zero, suc, ◌+◌, ◌%◌, ◌^◌, ◌<◌, ◌≤◌, nat_lt, ◌&&◌, ◌==◌, Bool, true, false, if◌then◌else◌, MatchBool, List, [], ◌∷◌, map, flat_map, length, get_or, slice_get, Option, Some, None, option_map, Result, Ok, Err, All, Contains, refl, sym, ap, ap₂, subst, arith, append-nil}
use Rattle.std.proofs.lemmas.Bool.{eqb-true}
use Rattle.std.proofs.lemmas.List.Elements.{All-head, All-tail, All-nil, All-cons}
use Rattle.std.proofs.lemmas.List.Kept.{AllPairs-cons}
use Rattle.std.proofs.lemmas.Nat.{from_le_bytes-to_le_bytes_2}
use Rattle.std.specs.List.{AllPairs}
use Rattle.std.specs.Int.{w16, from_le_bytes, to_le_bytes}
use Rattle.vm_memory_base.specs.Table.{Table, Says, is_allowed}
use Rattle.vm_memory_base.specs.declared.iotlb.Permissions.{Permissions}
use Rattle.vm_memory_base.specs.declared.iotlb.Permissions.TheVariants as permissions
use Rattle.vm_memory_base.specs.declared.bitmap.BitmapId.{BitmapId}
use Rattle.vm_memory_base.specs.declared.bitmap.BitmapId.TheVariants.{Block, Space}
use Rattle.vm_memory_guest.specs.Access.{Access, access_of, first_fault, meets, path, refusal, stretches, windows}
use Rattle.vm_memory_guest.specs.Host as host
use Rattle.vm_memory_guest.specs.Error.{error_of}
use Rattle.vm_memory_guest.specs.Host.{Cell, Host, Shape, Holds, block_at, byte_at, bytes_at, cells_from, shape_of, written}
use Rattle.vm_memory_guest.specs.Memory.{Direct, Memory, Switched, Through, Translation, behind_if, behind_of, route, route_behind, says_of, switched_names}
use Rattle.vm_memory_guest.specs.Region.{Region, IsRegion, region_names}
use Rattle.vm_memory_guest.specs.Typed.{first_aligned, place_of}
use Rattle.vm_memory_guest.specs.Window.{Window, Marks, MarksWindow, Writes, cells, cells_of, window_names}
use Rattle.vm_memory_guest.specs.declared.region.error.GuestMemoryError.{GuestMemoryError}
use Rattle.vm_memory_guest.specs.declared.region.error.GuestMemoryError.TheVariants as errors
use Rattle.virtio_queue.specs.Fields.{place, stored_at, told, word_window}
use Rattle.virtio_queue.specs.Rings.{and_then}
use Rattle.virtio_queue.specs.declared.error.QueueError.{QueueError}

-- ---- a host holds the window of a store

-- the window of a typed access is the first one that is reached
first_of : (P : Window → Type 0) (size : ℕ) (ws : List Window) (fault : Option GuestMemoryError) → All P ws
    → (w : Window) → first_aligned size ws fault ≡ Ok w → P w × (w.size ≡ size)
first_of P size [] None all w is = absurd (cc)
first_of P size [] (Some e) all w is = absurd (cc)
first_of P size (v ∷ ws) fault all w is = go (v.size == size) (v.offset % size == 0) refl is
  where
    go : (b c : Bool) → (v.size == size) ≡ b
        → ◌≡◌ {A = Result Window GuestMemoryError} (if b && c then Ok v else Err errors.InvalidBackendAddress) (Ok w)
        → P w × (w.size ≡ size)
    go true true same is = subst (λ (u : Window). P u × (u.size ≡ size)) (let e : v ≡ w = cc in e)
        (All-head P v ws all, eqb-true v.size size same)
    go true false same is = absurd (cc)
    go false c same is = absurd (cc)

-- what the laws of paths say of the windows of one
module _ (shape : Shape) (regions : List Region) (a n : ℕ) (access : Permissions) (each : All IsRegion regions)
    (direct : Holds shape (flat_map region_names regions)
    → All (λ w. Holds shape (window_names w)) (windows (path (meets regions Direct a) 0 n)))
    (through : (says : Says) (space : ℕ) → Holds shape (flat_map region_names regions)
    → Holds shape (host.Space space ∷ [])
    → All (λ w. Holds shape (window_names w)) (windows (path (meets regions (Through says space) a) 0 n)))
  where
    abbrev windows_in : Access → List Window
    windows_in x = windows x.path

    -- the windows of an access that is translated
    through_held : (says : Says) (space : ℕ) → Holds shape (flat_map region_names regions)
        → Holds shape (host.Space space ∷ [])
        → All (λ w. Holds shape (window_names w)) (windows_in (access_of regions (Through says space) a n access))
    unfolding stretches
    through_held says space held known = go (is_allowed says a n access)
      where
        go : (b : Bool) → All (λ w. Holds shape (window_names w)) (windows_in (if b
            then record {
              path = path (meets regions (Through says space) a) 0 n;
              fault = first_fault (meets regions (Through says space) a) 0 n;
            }
            else record { path = []; fault = Some (refusal (Through says space) a n) }))
        go true = through says space held known
        go false = All-nil (λ w. Holds shape (window_names w))

    -- the windows of an access of a memory whose names are held
    pub windows_held : (iommu : Option Switched) (tables : List Table) → Holds shape (flat_map region_names regions)
        → Holds shape (switched_names iommu)
        → All (λ w. Holds shape (window_names w))
        (windows (access_of regions (route (record { regions = regions; iommu = iommu }) tables) a n access).path)
    windows_held iommu tables held known = go iommu known
      where
        switched : (b : Translation) (on : Bool) → Holds shape (host.Space b.space ∷ [])
            → All (λ w. Holds shape (window_names w))
            (windows (access_of regions (route_behind (behind_if on b) tables) a n access).path)
        switched b true known = through_held (says_of (slice_get tables b.table)) b.space held known
        switched b false known = direct held

        go : (iommu : Option Switched) → Holds shape (switched_names iommu)
            → All (λ w. Holds shape (window_names w))
            (windows (access_of regions (route_behind (behind_of iommu) tables) a n access).path)
        go None known = direct held
        go (Some s) known = switched s.behind s.on known.1

    -- the window of such an access
    pub place_held : (w : Window) (iommu : Option Switched) (tables : List Table)
        → Holds shape (flat_map region_names regions) → Holds shape (switched_names iommu)
        → place_of n (access_of regions (route (record { regions = regions; iommu = iommu }) tables) a n access) ≡ Ok w
        → Holds shape (window_names w) × (w.size ≡ n)
    place_held w iommu tables held known is =
        let x = access_of regions (route (record { regions = regions; iommu = iommu }) tables) a n access in
        first_of (λ v. Holds shape (window_names v)) n (windows x.path) (option_map error_of x.fault)
        (windows_held iommu tables held known) w is

-- ---- what was written to it

-- a mark changes no block
marks_blocks : {B : Type 0} (marks : B → ℕ → ℕ → B → Type 0) (w : Window) (old new : Host B)
    → MarksWindow marks w old new → new.blocks ≡ old.blocks
marks_blocks {B} marks w old new h = go (nat_lt 0 w.size) h
  where
    marked : (id : BitmapId) → Marks marks id w.bitmap.base w.size old new → new.blocks ≡ old.blocks
    marked (Block block) (bitmaps, one, is) = ap (λ (x : Host B). x.blocks) is
    marked (Space space) (spaces, one, is) = ap (λ (x : Host B). x.blocks) is

    go : (b : Bool) → MatchBool b (Marks marks w.bitmap.id w.bitmap.base w.size old new) (new ≡ old)
        → new.blocks ≡ old.blocks
    go true h = marked w.bitmap.id h
    go false is = ap (λ (x : Host B). x.blocks) is

-- the length of a block is that of its number among the lengths
length_among : (blocks : List (List ℕ)) (b : ℕ) → get_or (map length blocks) b 0 ≡ length (block_at blocks b)
length_among [] b = refl
length_among (block ∷ blocks) zero = refl
length_among (block ∷ blocks) (suc b) = length_among blocks b

-- the two cells of a window of two bytes
two_cells : (block offset : ℕ) → AllPairs (λ (c d : Cell). c ≢ d) (cells_from block offset 2)
two_cells block offset =
    let c : Cell = record { block = block; offset = offset } in
    let d : Cell = record { block = block; offset = offset + 1 } in
    let differ : c ≢ d = λ (e : c ≡ d). let o = ap (λ (x : Cell). x.offset) e in absurd (omega (arith, o)) in
    let none : AllPairs (λ (c d : Cell). c ≢ d) [] = λ i j x below within. absurd (omega arith) in
    AllPairs-cons (λ (c d : Cell). c ≢ d) c (d ∷ []) (All-cons (λ x. c ≢ x) d [] differ (All-nil (λ x. c ≢ x)))
    (AllPairs-cons (λ (c d : Cell). c ≢ d) d [] (All-nil (λ x. d ≢ x)) none)

two_inside : (blocks : List (List ℕ)) (block offset : ℕ) → offset + 2 ≤ length (block_at blocks block)
    → All (λ (c : Cell). c.offset < length (block_at blocks c.block)) (cells_from block offset 2)
two_inside blocks block offset fits =
    let P = λ (c : Cell). c.offset < length (block_at blocks c.block) in
    All-cons P (record { block = block; offset = offset }) (record { block = block; offset = offset + 1 } ∷ [])
    (omega arith)
    (All-cons P (record { block = block; offset = offset + 1 }) [] (omega arith) (All-nil P))

module _ {B : Type 0} (marks : B → ℕ → ℕ → B → Type 0) (m : Memory) (base offset value : ℕ) (old new : Host B)
    (read_back : (cells : List Cell) (bytes : List ℕ) (blocks : List (List ℕ))
    → AllPairs (λ (c d : Cell). c ≢ d) cells
    → All (λ (c : Cell). c.offset < length (block_at blocks c.block)) cells
    → length bytes ≡ length cells → bytes_at (written cells bytes blocks) cells ≡ bytes) where
  -- two bytes that went to a window are in its cells
  in_cells : (w : Window) → Holds (shape_of old) (window_names w) → w.size ≡ 2
      → Writes marks (w ∷ []) (to_le_bytes w16 value) old new
      → bytes_at new.blocks (cells_of w) ≡ to_le_bytes w16 value
  in_cells w held size (mid, marked, is) =
      let bytes = to_le_bytes w16 value in
      let blocks : new.blocks ≡ written (cells (w ∷ [])) bytes old.blocks =
      ap (λ (x : Host B). x.blocks) is
      ∙ marks_blocks marks w (record old { blocks = written (cells (w ∷ [])) bytes old.blocks }) mid marked in
      let one : cells (w ∷ []) ≡ cells_of w = append-nil (cells_of w) in
      let two : cells_of w ≡ cells_from w.block.0 w.offset 2 = ap (cells_from w.block.0 w.offset) size in
      let fits : w.offset + 2 ≤ length (block_at old.blocks w.block.0) =
      omega (arith, held.0.1, length_among old.blocks w.block.0, size) in
      ap (λ bs. bytes_at bs (cells_of w)) (blocks ∙ ap (λ cs. written cs bytes old.blocks) one)
      ∙ ap (λ cs. bytes_at (written cs bytes old.blocks) cs) two
      ∙ read_back (cells_from w.block.0 w.offset 2) bytes old.blocks (two_cells w.block.0 w.offset)
      (two_inside old.blocks w.block.0 w.offset fits) refl

  -- a number that was stored lies there
  pub stored_lies : value < 2 ^ 16 → (w : Window) → word_window m old base offset ≡ Ok w
      → Holds (shape_of old) (window_names w) → w.size ≡ 2 → new.tables ≡ old.tables
      → Writes marks (w ∷ []) (to_le_bytes w16 value) old new → stored_at m new base offset ≡ Ok value
  stored_lies small w is held size tables writes =
      let window = λ (ts : List Table). and_then (place base offset 2) (λ a.
      told (place_of 2 (access_of m.regions (route m ts) a 2 permissions.Write))) in
      let same : word_window m new base offset ≡ Ok w = ap window tables ∙ is in
      ap (λ (r : Result Window QueueError). and_then r (λ w.
      Ok (from_le_bytes w16 (bytes_at new.blocks (cells_of w))))) same
      ∙ ap (λ bs. Ok (from_le_bytes w16 bs)) (in_cells w held size writes)
      ∙ ap Ok (from_le_bytes-to_le_bytes_2 value small)

-- ---- what stays where something else is written

module _ {B : Type 0} (marks : B → ℕ → ℕ → B → Type 0) (m : Memory) (base offset : ℕ) (old new : Host B)
    (stay : (cells : List Cell) (bytes : List ℕ) (blocks : List (List ℕ)) (cell : Cell)
    → (Contains cells cell → ⊥) → byte_at (written cells bytes blocks) cell ≡ byte_at blocks cell) where
  -- bytes at other cells
  bytes_stay : (written_to : List Cell) (bytes : List ℕ) (cs : List Cell)
      → All (λ (c : Cell). Contains written_to c → ⊥) cs
      → bytes_at (written written_to bytes old.blocks) cs ≡ bytes_at old.blocks cs
  bytes_stay written_to bytes [] apart = refl
  bytes_stay written_to bytes (c ∷ cs) apart =
      ap₂ (λ (x : ℕ) (xs : List ℕ). x ∷ xs)
      (stay written_to bytes old.blocks c (All-head (λ (c : Cell). Contains written_to c → ⊥) c cs apart))
      (bytes_stay written_to bytes cs (All-tail (λ (c : Cell). Contains written_to c → ⊥) c cs apart))

  -- a number stays if another window is written
  pub stored_stays : (w v : Window) (bytes : List ℕ) → word_window m old base offset ≡ Ok w
      → All (λ (c : Cell). Contains (cells_of v) c → ⊥) (cells_of w) → new.tables ≡ old.tables
      → Writes marks (v ∷ []) bytes old new → stored_at m new base offset ≡ stored_at m old base offset
  stored_stays w v bytes is apart tables (mid, marked, same) =
      let window = λ (ts : List Table). and_then (place base offset 2) (λ a.
      told (place_of 2 (access_of m.regions (route m ts) a 2 permissions.Write))) in
      let there : word_window m new base offset ≡ Ok w = ap window tables ∙ is in
      let blocks : new.blocks ≡ written (cells (v ∷ [])) bytes old.blocks =
      ap (λ (x : Host B). x.blocks) same
      ∙ marks_blocks marks v (record old { blocks = written (cells (v ∷ [])) bytes old.blocks }) mid marked in
      let one : cells (v ∷ []) ≡ cells_of v = append-nil (cells_of v) in
      let lies : bytes_at new.blocks (cells_of w) ≡ bytes_at old.blocks (cells_of w) =
      ap (λ bs. bytes_at bs (cells_of w)) (blocks ∙ ap (λ cs. written cs bytes old.blocks) one)
      ∙ bytes_stay (cells_of v) bytes (cells_of w) apart in
      ap (λ (r : Result Window QueueError). and_then r (λ w.
      Ok (from_le_bytes w16 (bytes_at new.blocks (cells_of w))))) there
      ∙ (ap (λ bs. Ok (from_le_bytes w16 bs)) lies
      ∙ ap (λ (r : Result Window QueueError). and_then r (λ w.
      Ok (from_le_bytes w16 (bytes_at old.blocks (cells_of w))))) (sym is))
