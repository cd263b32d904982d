-- Windows: N bytes of a block from an offset on, and the view of a bitmap that their writes mark.
use Rattle.std.specs.Prelude.{◌≡◌, ℕ, ◌+◌, nat_lt, List, [], ◌∷◌, sum_by, flat_map, slice_get, slice_set, Option, Some, MatchBool, ◌^◌, ◌-◌, if◌then◌else◌, nat_le, Result, Ok, Err}
use Rattle.vm_memory_base.specs.Pages.{in_view}
use Rattle.vm_memory_base.specs.declared.io.VolatileMemoryError.{VolatileMemoryError}
use Rattle.vm_memory_base.specs.declared.io.VolatileMemoryError.TheVariants.{OutOfBounds, Overflow}
use Rattle.vm_memory_base.specs.declared.bitmap.BitmapId.{BitmapId}
use Rattle.vm_memory_base.specs.declared.bitmap.BitmapId.TheVariants.{Block, Space}
use Rattle.vm_memory_guest.specs.Host as host
use Rattle.vm_memory_guest.specs.Host.{Host, Name, Cell, cells_from, written}
use Rattle.vm_memory_base.specs.declared.bitmap.BitmapRef.{BitmapRef}
use Rattle.vm_memory_guest.specs.declared.host.BlockId.{BlockId}

-- N bytes of a block from an offset on, and the view of a bitmap that their writes mark
pub record Window : Type 0 where
  pub block : BlockId
  pub offset : ℕ
  pub size : ℕ
  pub bitmap : BitmapRef

-- what names a bitmap
abbrev pub bitmap_name : BitmapId → Name
bitmap_name (Block block) = host.Block block
bitmap_name (Space space) = host.Space space

-- the bitmap of this name, if a host has it
abbrev pub bitmap_of : {B : Type 0} → Host B → BitmapId → Option B
bitmap_of host (Block block) = slice_get host.bitmaps block
bitmap_of host (Space space) = slice_get host.spaces space

-- the host with another bitmap of this name
abbrev pub with_bitmap : {B : Type 0} → Host B → BitmapId → B → Host B
with_bitmap host (Block block) bitmap = record host { bitmaps = slice_set host.bitmaps block bitmap }
with_bitmap host (Space space) bitmap = record host { spaces = slice_set host.spaces space bitmap }

-- what a window names: its bytes and its bitmap
abbrev pub window_names : Window → List Name
window_names w = host.Place w.block.0 w.offset w.size ∷ bitmap_name w.bitmap.id ∷ []

-- the bytes of a block from an offset on, whose writes mark the block's bitmap at their own offsets
abbrev pub block_window : ℕ → ℕ → ℕ → Window
block_window block offset size = record {
  block = record { 0 = block };
  offset = offset;
  size = size;
  bitmap = record { id = Block block; base = offset };
}

-- the len bytes of a window from an offset on
abbrev pub part : Window → ℕ → ℕ → Window
part w offset len = record {
  block = w.block;
  offset = w.offset + offset;
  size = len;
  bitmap = record { id = w.bitmap.id; base = in_view w.bitmap.base offset };
}

-- `count` bytes of a window from an offset on: refused if their sum is not a number of 64 bits, or passes the
-- window's length
abbrev pub subslice_of : Window → ℕ → ℕ → Result Window VolatileMemoryError
subslice_of w offset count = if nat_lt (offset + count) (2 ^ 64)
    then (if nat_le (offset + count) w.size then Ok (part w offset count) else Err (OutOfBounds (offset + count)))
    else Err (Overflow offset count)

-- the bytes of a window from count on: refused if their place in the block is not a number of 64 bits, or
-- passes the window's end
abbrev pub window_from : Window → ℕ → Result Window VolatileMemoryError
window_from w count = if nat_lt (w.offset + count) (2 ^ 64)
    then (if nat_le count w.size then Ok (part w count (w.size - count)) else Err (OutOfBounds (w.offset + count)))
    else Err (Overflow w.offset count)

-- how many bytes windows have
abbrev pub span : List Window → ℕ
span windows = sum_by (λ w. w.size) windows

-- the bytes of windows, in order
abbrev pub cells_of : Window → List Cell
cells_of w = cells_from w.block.0 w.offset w.size

abbrev pub cells : List Window → List Cell
cells windows = flat_map cells_of windows

module _ {B : Type 0} (marks : B → ℕ → ℕ → B → Type 0) where
  -- the bitmap of this number is marked, by the relation of its type, and no other
  pub record MarksOne (number offset len : ℕ) (old new : List B) : Type 0 where
    pub before : B
    pub after : B
    pub was : slice_get old number ≡ Some before
    pub marked : marks before offset len after
    pub is : new ≡ slice_set old number after

  -- the named bitmap of a host is marked, and nothing else changes
  abbrev pub Marks : BitmapId → ℕ → ℕ → Host B → Host B → Type 0
  Marks (Block block) offset len old new =
      (bitmaps : List B) × MarksOne block offset len old.bitmaps bitmaps × (new ≡ record old { bitmaps = bitmaps })
  Marks (Space space) offset len old new =
      (spaces : List B) × MarksOne space offset len old.spaces spaces × (new ≡ record old { spaces = spaces })

  -- a window's bytes are marked, at once, unless it has none
  abbrev pub MarksWindow : Window → Host B → Host B → Type 0
  MarksWindow w old new =
      MatchBool (nat_lt 0 w.size) (Marks w.bitmap.id w.bitmap.base w.size old new) (new ≡ old)

  -- windows are marked one after the other
  abbrev pub MarksAll : List Window → Host B → Host B → Type 0
  MarksAll [] old new = new ≡ old
  MarksAll (w ∷ ws) old new = (mid : Host B) × MarksWindow w old mid × MarksAll ws mid new

  -- the first bytes go into the windows, one after the other, and the windows are marked in order
  abbrev pub Writes : List Window → List ℕ → Host B → Host B → Type 0
  Writes windows bytes old new =
      MarksAll windows (record old { blocks = written (cells windows) bytes old.blocks }) new
