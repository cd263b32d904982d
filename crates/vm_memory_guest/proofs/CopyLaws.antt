-- A copy between windows, and the bytes that it copies.
use Rattle.std.proofs.Common.{◌≡◌, ℕ, zero, suc, ◌+◌, ◌^◌, ◌≤◌, min, List, [], ◌∷◌, map, flat_map, refl, sym, ap, ◌∙◌, arith, append-nil}
use Rattle.std.proofs.lemmas.List.Elements.{All-cons, All-nil}
use Rattle.vm_memory_base.specs.Address.{numbers}
use Rattle.vm_memory_base.specs.Pages.{PageSet, marked}
use Rattle.vm_memory_base.specs.declared.bitmap.BitmapId.{BitmapId}
use Rattle.vm_memory_base.specs.declared.bitmap.BitmapId.TheVariants.{Block}
use Rattle.vm_memory_base.specs.declared.bitmap.BitmapRef.{BitmapRef}
use Rattle.vm_memory_guest.specs.Copy.{front, dirtied_cells, after_copy, Copies}
use Rattle.vm_memory_guest.specs.Dirt.{marks_pages, window_marks, with_pages}
use Rattle.vm_memory_guest.specs.Host.{Cell, Host, bytes_at, cells_from, written}
use Rattle.vm_memory_guest.specs.Window.{Window, Writes, cells, cells_of}
use Rattle.vm_memory_guest.proofs.DirtLaws.{EmptyMark, MarkIsByBytes, each_marked, windows_dirtied-each, with_pages-MarksAll}
use Rattle.vm_memory_guest.proofs.WrittenLaws.{cells-one}

-- the dirt of cells is that of their offsets
dirtied-cells : (b o n : ℕ) (host : Host PageSet)
    → dirtied_cells (cells_from b o n) host ≡ each_marked (map (λ (x : ℕ). (Block b, x)) (numbers o n)) host
dirtied-cells b o zero host = refl
dirtied-cells b o (suc n) host = dirtied-cells b (o + 1) n (marks_pages (Block b) o 1 host)

module _ {B : Type 0} (marks : B → ℕ → ℕ → B → Type 0) (pages : B → PageSet)
    (exact : (old new : B) (offset len : ℕ) → marks old offset len new → pages new ≡ marked offset len (pages old))
    (empty : EmptyMark) (by_bytes : MarkIsByBytes) where
  -- a write to a window that marks its own place dirties its cells
  written-cells : (w : Window) (bytes : List ℕ) (old new : Host B)
      → w.bitmap ≡ record { id = Block w.block.0; base = w.offset } → w.offset + w.size ≤ 2 ^ 64
      → Writes marks (w ∷ []) bytes old new
      → with_pages pages new ≡ dirtied_cells (cells_of w)
      (record (with_pages pages old) { blocks = written (cells_of w) bytes old.blocks })
  written-cells w bytes old new own fits writes =
      let host = λ (cs : List Cell). record (with_pages pages old) { blocks = written cs bytes old.blocks } in
      let base : w.bitmap.base + w.size ≤ 2 ^ 64 = let e = ap (λ (r : BitmapRef). r.base) own in omega arith in
      let all = All-cons (λ (v : Window). v.bitmap.base + v.size ≤ 2 ^ 64) w [] base
      (All-nil (λ (v : Window). v.bitmap.base + v.size ≤ 2 ^ 64)) in
      let here : flat_map window_marks (w ∷ []) ≡ map (λ (x : ℕ). (Block w.block.0, x)) (numbers w.offset w.size) =
      append-nil (window_marks w) ∙ ap (λ (r : BitmapRef). map (λ (x : ℕ). (r.id, x)) (numbers r.base w.size)) own in
      with_pages-MarksAll marks pages exact empty (w ∷ [])
      (record old { blocks = written (cells (w ∷ [])) bytes old.blocks }) new writes
      ∙ (windows_dirtied-each by_bytes (w ∷ []) (host (cells (w ∷ []))) all
      ∙ (ap (λ (ms : List (BitmapId × ℕ)). each_marked ms (host (cells (w ∷ [])))) here
      ∙ (ap (λ (cs : List Cell). each_marked (map (λ (x : ℕ). (Block w.block.0, x)) (numbers w.offset w.size))
      (host cs)) (cells-one w)
      ∙ sym (dirtied-cells w.block.0 w.offset w.size (host (cells_of w))))))

  pub copied-cells : (from to : Window) (old new : Host B)
      → to.bitmap ≡ record { id = Block to.block.0; base = to.offset } → to.offset + to.size ≤ 2 ^ 64
      → Copies marks from to old new
      → let n = min from.size to.size in
      with_pages pages new ≡ after_copy (cells_of (front from n)) (cells_of (front to n)) (with_pages pages old)
  copied-cells from to old new own fits copies =
      let n = min from.size to.size in
      written-cells (front to n) (bytes_at old.blocks (cells_of (front from n))) old new own (omega arith) copies
