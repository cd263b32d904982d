-- Ranges of addresses, for each of which a new block is made.
use Rattle.std.specs.Prelude.{◌≡◌, ℕ, ◌+◌, ◌<◌, ◌^◌, nat_le, ◌==◌, ◌||◌, if◌then◌else◌, List, [], ◌∷◌}
use Rattle.std.specs.Prelude.{Option, Some, None, option_map, unwrap_or}
use Rattle.vm_memory_base.specs.declared.address.GuestAddress.{GuestAddress}
use Rattle.vm_memory_guest.specs.Host.{Host, with_block}
use Rattle.vm_memory_guest.specs.Region.{Region, layout_error}
use Rattle.vm_memory_guest.specs.declared.mmap.FromRangesError.{FromRangesError}
use Rattle.vm_memory_guest.specs.declared.mmap.FromRangesError.TheVariants.{Collection, MmapRegion, InvalidGuestRegion}
use Rattle.vm_memory_guest.specs.declared.region.error.GuestRegionCollectionError.TheVariants as layout
use Rattle.vm_memory_guest.specs.declared.host.MmapRegionError.TheVariants as block

-- why a range makes no region, memory aside: the size of its block is tested before its end
abbrev pub range_error : GuestAddress → ℕ → Option FromRangesError
range_error addr size =
    if size == 0 || nat_le (2 ^ 63) size then Some (MmapRegion block.InvalidSize)
    else if nat_le (2 ^ 64) (addr.0 + size) then Some InvalidGuestRegion else None

-- the error of a range that was refused: why it does not make a region, or else that the allocation of its block
-- failed
abbrev pub range_refusal : GuestAddress → ℕ → FromRangesError
range_refusal addr size = unwrap_or (range_error addr size) (MmapRegion block.Memory)

-- the region of a range, over the block of this number
abbrev pub range_region : ℕ → GuestAddress → ℕ → Region
range_region block addr size = record {
  start = addr.0;
  len = size;
  place = Some (record { block = block; offset = 0 });
}

-- the first address and the size of each
abbrev pub RangeList : Type 0
RangeList = List (GuestAddress × ℕ)

-- the regions of ranges, over blocks from this number on
abbrev pub range_regions : ℕ → RangeList → List Region
range_regions block [] = []
range_regions block (r ∷ rs) = range_region block r.0 r.1 ∷ range_regions (block + 1) rs

-- each range makes a region
abbrev pub AllFit : RangeList → Type 0
AllFit [] = Unit {0}
AllFit (r ∷ rs) = (range_error r.0 r.1 ≡ None) × AllFit rs

-- a host with a block more for each range, in order, with a bitmap that is made for it
abbrev pub HasBlocks : {B : Type 0} → (ℕ → B → Type 0) → RangeList → Host B → Host B → Type 0
HasBlocks made [] old new = new ≡ old
HasBlocks {B} made (r ∷ rs) old new =
    (bitmap : B) × made r.1 bitmap × HasBlocks made rs (with_block old r.1 bitmap) new

-- what is reported if a range is refused, or after the last that the regions make no layout
abbrev pub refused_at : Option (GuestAddress × ℕ) → List Region → Option FromRangesError
refused_at (Some r) rs = Some (range_refusal r.0 r.1)
refused_at None rs = option_map Collection (layout_error rs)

-- after the blocks of a number of ranges were made, the allocation of a region, or of the collection, failed
abbrev pub FoundNoMemory : ℕ → FromRangesError → Type 0
FoundNoMemory blocks e = (0 < blocks) × (e ≡ Collection layout.Memory)
