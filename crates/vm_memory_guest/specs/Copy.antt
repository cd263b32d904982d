-- Copies between windows, and cell by cell.
use Rattle.std.specs.Prelude.{ℕ, min, List, [], ◌∷◌}
use Rattle.vm_memory_base.specs.Pages.{PageSet}
use Rattle.vm_memory_base.specs.declared.bitmap.BitmapId.TheVariants.{Block}
use Rattle.vm_memory_guest.specs.Dirt.{marks_pages}
use Rattle.vm_memory_guest.specs.Host.{Cell, Host, bytes_at, written}
use Rattle.vm_memory_guest.specs.Window.{Window, Writes, cells_of}

-- the first bytes of a window
abbrev pub front : Window → ℕ → Window
front w size = record w { size = size }

-- a copy moves the lesser number of bytes, as they were, from the front of a window to the front of another,
-- and marks them there
abbrev pub Copies : {B : Type 0} → (B → ℕ → ℕ → B → Type 0) → Window → Window → Host B → Host B → Type 0
Copies marks from to old new =
    let n = min from.size to.size in
    Writes marks (front to n ∷ []) (bytes_at old.blocks (cells_of (front from n))) old new

-- the dirt of cells in the bitmaps of their own blocks, one after the other
abbrev pub dirtied_cells : List Cell → Host PageSet → Host PageSet
dirtied_cells [] host = host
dirtied_cells (c ∷ cs) host = dirtied_cells cs (marks_pages (Block c.block) c.offset 1 host)

-- a copy from cells to as many others: each of these takes the byte that the other had before, and its dirt
abbrev pub after_copy : List Cell → List Cell → Host PageSet → Host PageSet
after_copy from to host =
    dirtied_cells to (record host { blocks = written to (bytes_at host.blocks from) host.blocks })
