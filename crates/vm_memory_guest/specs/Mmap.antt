-- Whole blocks of a host, and such a block at a guest address, as a region.
use Rattle.std.specs.Prelude.{ℕ, ◌+◌, ◌^◌, ◌<◌, Some}
use Rattle.std.proofs.Common.{arith}
use Rattle.vm_memory_guest.specs.Region.{Region, IsRegion}
use Rattle.vm_memory_guest.specs.Window.{Window, block_window}

-- the number of a block, and how many bytes it has: 1 to 2 ^ 63 - 1
pub record WholeBlock : Type 0 where
  pub block : ℕ
  pub size : ℕ
  pub some : 0 < size
  pub bound : size < 2 ^ 63

-- the window of its bytes
abbrev pub whole_window : WholeBlock → Window
whole_window b = block_window b.block 0 b.size

-- a block at a guest address, which ends at the greatest address but one, or below
pub record PlacedBlock : Type 0 where
  pub start : ℕ
  pub mapping : WholeBlock
  pub fits : start + mapping.size < 2 ^ 64

-- its region: the addresses from there on, and the block from its first byte on
abbrev pub mmap_region : PlacedBlock → Region
mmap_region r = record {
  start = r.start;
  len = r.mapping.size;
  place = Some (record { block = r.mapping.block; offset = 0 });
}

pub mmap_fits : (r : PlacedBlock) → IsRegion (mmap_region r)
mmap_fits r =
    let some = r.mapping.some in
    let bound = r.mapping.bound in
    let fits = r.fits in
    record { some = some; short = omega arith; fits = omega arith; offsets = omega arith }
