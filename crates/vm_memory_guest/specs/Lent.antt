-- What transfers in leave of a host, and how their sources fail.
use Rattle.std.specs.Prelude.{◌≡◌, ◌⊎◌, ℕ, ◌+◌, ◌*◌, ◌^◌, ◌<◌, Bool, true, List, [], ◌∷◌, length, map, Some, Ok, Contains}
use Rattle.vm_memory_base.specs.Pages.{Pages, PageSet, shape, is_dirty_at}
use Rattle.vm_memory_base.specs.Transfer.{Answer, Next, Gives, Fails}
use Rattle.vm_memory_base.specs.declared.bitmap.BitmapId.{BitmapId}
use Rattle.vm_memory_base.specs.declared.io.VolatileMemoryError.{VolatileMemoryError}
use Rattle.vm_memory_guest.specs.Dirt.{pages_at}
use Rattle.vm_memory_guest.specs.Host.{Host, Cell, byte_at}
use Rattle.vm_memory_guest.specs.Window.{Window}

-- the byte at an offset of a bitmap is dirty, if one of the bitmap's pages has it
abbrev pub IsDirty : BitmapId → ℕ → Host PageSet → Type 0
IsDirty id offset host = (p : Pages) → pages_at id host ≡ Some p → offset < length p.flags * p.page_size
    → offset < 2 ^ 64 → is_dirty_at (Some p) offset ≡ true

-- a cell is a byte of one of these windows, and the byte that it marks is dirty
pub record IsMarked (ws : List Window) (cell : Cell) (host : Host PageSet) : Type 0 where
  pub window : Window
  pub at : ℕ
  pub among : Contains ws window
  pub within : at < window.size
  pub is : cell ≡ record { block = window.block.0; offset = window.offset + at }
  pub dirty : IsDirty window.bitmap.id (window.bitmap.base + at) host

-- each byte that changes is marked, as a byte of one of these windows. No page becomes clean, and blocks, pages
-- and tables are as many and as large as before
pub record MarksChanges (ws : List Window) (old new : Host PageSet) : Type 0 where
  pub lengths : map length new.blocks ≡ map length old.blocks
  pub bitmaps : map shape new.bitmaps ≡ map shape old.bitmaps
  pub spaces : map shape new.spaces ≡ map shape old.spaces
  pub tables : new.tables ≡ old.tables
  pub dirty : (id : BitmapId) (offset : ℕ) → is_dirty_at (pages_at id old) offset ≡ true
      → is_dirty_at (pages_at id new) offset ≡ true
  pub bytes : (cell : Cell) → (byte_at new.blocks cell ≡ byte_at old.blocks cell) ⊎ IsMarked ws cell new

-- whether a step of a source is not a failure, or fails with an error that passes the test
abbrev pub fails_as : (VolatileMemoryError → Bool) → Next → Bool
fails_as test (Gives bytes) = true
fails_as test (Fails scribble e) = test e

-- each of these windows is moved whole, one after the other
unfoldable pub AllWhole : {X : Type 0} → (Window → X → Answer → X → Type 0) → List Window → X → X → Type 0
AllWhole {X = X} Moves [] old new = new ≡ old
AllWhole {X = X} Moves (w ∷ ws) old new = (mid : X) × Moves w old (Ok w.size) mid × AllWhole Moves ws mid new

-- each byte of these windows is dirty
abbrev pub AreDirty : List Window → Host PageSet → Type 0
AreDirty ws host = (w : Window) → Contains ws w → (at : ℕ) → at < w.size
    → IsDirty w.bitmap.id (w.bitmap.base + at) host
