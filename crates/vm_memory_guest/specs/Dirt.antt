-- What accesses leave: bytes in cells, and the dirt of each byte.
use Rattle.std.specs.Prelude.{ℕ, ◌/◌, Bool, false, ◌==◌, List, [], ◌∷◌, map, slice_get, slice_set, slice_index_or, Option, Some, None}
use Rattle.vm_memory_base.specs.Address.{numbers}
use Rattle.vm_memory_base.specs.Pages.{PageSet, marked}
use Rattle.vm_memory_base.specs.declared.bitmap.BitmapId.{BitmapId}
use Rattle.vm_memory_base.specs.declared.bitmap.BitmapId.TheVariants.{Block, Space}
use Rattle.vm_memory_guest.specs.Access.{Reached}
use Rattle.vm_memory_guest.specs.Host.{Host, Cell, bytes_at, written}
use Rattle.vm_memory_guest.specs.Window.{Window}

-- a list with the element of this number changed, if there is one
abbrev pub change_one : {X : Type 0} → (X → X) → List X → ℕ → Option X → List X
change_one f xs i None = xs
change_one f xs i (Some x) = slice_set xs i (f x)

abbrev pub changed_item : {X : Type 0} → (X → X) → List X → ℕ → List X
changed_item f xs i = change_one f xs i (slice_get xs i)

-- a host whose named bitmap is marked by len bytes from an offset on
abbrev pub marks_pages : BitmapId → ℕ → ℕ → Host PageSet → Host PageSet
marks_pages (Block block) offset len host =
    record host { bitmaps = changed_item (marked offset len) host.bitmaps block }
marks_pages (Space space) offset len host =
    record host { spaces = changed_item (marked offset len) host.spaces space }

-- the dirt of each byte of a path, one after the other
abbrev pub dirtied : List Reached → Host PageSet → Host PageSet
dirtied [] host = host
dirtied (x ∷ xs) host = dirtied xs (marks_pages x.bitmap x.mark 1 host)

-- the bitmap and the offset that each byte of a path marks
abbrev pub path_marks : List Reached → List (BitmapId × ℕ)
path_marks xs = map (λ x. (x.bitmap, x.mark)) xs

-- those that each byte of a window marks
abbrev pub window_marks : Window → List (BitmapId × ℕ)
window_marks w = map (λ offset. (w.bitmap.id, offset)) (numbers w.bitmap.base w.size)

-- the pages of a named bitmap. If there is no such bitmap, there are none
abbrev pub pages_at : BitmapId → Host PageSet → PageSet
pages_at (Block block) host = slice_index_or host.bitmaps block None
pages_at (Space space) host = slice_index_or host.spaces space None

-- whether two offsets lie in one page
abbrev pub same_page : PageSet → ℕ → ℕ → Bool
same_page None x y = false
same_page (Some p) x y = x / p.page_size == y / p.page_size

-- the cells of a path
abbrev pub path_cells : List Reached → List Cell
path_cells xs = map (λ x. x.cell) xs

-- a write: each cell of the path gets its byte, one after the other, and its dirt
abbrev pub after_write : List Reached → List ℕ → Host PageSet → Host PageSet
after_write xs bytes host = dirtied xs (record host { blocks = written (path_cells xs) bytes host.blocks })

-- a read: the bytes in the cells of the path
abbrev pub bytes_read : List Reached → Host PageSet → List ℕ
bytes_read xs host = bytes_at host.blocks (path_cells xs)

-- a host with exact bitmaps, seen with their pages
abbrev pub with_pages : {B : Type 0} → (B → PageSet) → Host B → Host PageSet
with_pages pages host = record {
  blocks = host.blocks;
  bitmaps = map pages host.bitmaps;
  spaces = map pages host.spaces;
  tables = host.tables;
}
