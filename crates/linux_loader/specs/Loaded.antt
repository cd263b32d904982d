-- What loads leave of a host: bytes that stay, and pages that are dirty.
use Rattle.std.specs.Prelude.{◌≡◌, ℕ, ◌+◌, ◌-◌, List, [], ◌∷◌, Contains, drop, replicate, take}
use Rattle.vm_memory_base.specs.Pages.{PageSet}
use Rattle.vm_memory_base.specs.declared.iotlb.Permissions.TheVariants as permissions
use Rattle.vm_memory_guest.specs.Host.{Host, Cell, byte_at, written}
use Rattle.vm_memory_guest.specs.Lent.{AreDirty}
use Rattle.vm_memory_guest.specs.Memory.{Memory}
use Rattle.vm_memory_guest.specs.Walk.{reached}
use Rattle.vm_memory_guest.specs.Window.{Window, cells, cells_of}
use Rattle.linux_loader.specs.declared.segment.Segment.{Segment}

-- the windows of n bytes at an address, as a write reaches them
abbrev pub windows_at : {B : Type 0} → Memory → Host B → ℕ → ℕ → List Window
windows_at m host a n = (reached m host.tables a n permissions.Write).windows

-- the windows of a segment's bytes from the image, and those of its rest
abbrev pub front_windows : {B : Type 0} → Memory → Host B → Segment → List Window
front_windows m host s = windows_at m host s.addr.0 s.file_size

abbrev pub rest_windows : {B : Type 0} → Memory → Host B → Segment → List Window
rest_windows m host s = windows_at m host (s.addr.0 + s.file_size) (s.size - s.file_size)

-- a byte lies in none of these windows
abbrev pub Outside : List Window → Cell → Type 0
Outside ws c = (w : Window) → Contains ws w → ¬ Contains (cells_of w) c

-- a byte that a segment does not name
pub record IsUnnamed {B : Type 0} (m : Memory) (host : Host B) (c : Cell) (s : Segment) : Type 0 where
  pub front : Outside (front_windows m host s) c
  pub rest : Outside (rest_windows m host s) c

-- a byte of a host is as it was, and so are the tables
pub record Keeps {B : Type 0} (c : Cell) (old new : Host B) : Type 0 where
  pub byte : byte_at new.blocks c ≡ byte_at old.blocks c
  pub tables : new.tables ≡ old.tables

-- each byte of a segment that was loaded is dirty
pub record IsDirtySegment {B : Type 0} (m : Memory) (host : Host B) (s : Segment) (pages : Host PageSet) : Type 0 where
  pub front : AreDirty (front_windows m host s) pages
  pub rest : AreDirty (rest_windows m host s) pages

-- the bytes of blocks after a segment of an image of these bytes was loaded: those of the image, and zeros after them
abbrev pub with_segment : {B : Type 0} → Memory → Host B → List ℕ → Segment → List (List ℕ) → List (List ℕ)
with_segment m host all s blocks =
    written (cells (rest_windows m host s)) (replicate (s.size - s.file_size) 0)
    (written (cells (front_windows m host s)) (take s.file_size (drop s.file_offset all)) blocks)

-- and after segments, one after the other
abbrev pub blocks_after : {B : Type 0} → Memory → Host B → List ℕ → List Segment → List (List ℕ) → List (List ℕ)
blocks_after m host all [] blocks = blocks
blocks_after m host all (s ∷ ss) blocks = blocks_after m host all ss (with_segment m host all s blocks)
