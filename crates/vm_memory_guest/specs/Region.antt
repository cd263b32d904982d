-- Regions of guest physical memory, and what lies at an address.
use Rattle.std.specs.Prelude.{ℕ, ◌+◌, ◌-◌, ◌^◌, ◌<◌, ◌≤◌, nat_lt, nat_le, Bool, ◌&&◌, ◌==◌, if◌then◌else◌}
use Rattle.std.specs.Prelude.{List, [], ◌∷◌, find, Option, Some, None, Result, Ok, Err}
use Rattle.vm_memory_base.specs.Address.{is_within}
use Rattle.vm_memory_guest.specs.Host as host
use Rattle.vm_memory_guest.specs.Window.{Window, block_window}
use Rattle.vm_memory_guest.specs.declared.region.error.GuestMemoryError.{GuestMemoryError}
use Rattle.vm_memory_guest.specs.declared.region.error.GuestMemoryError.TheVariants as access
use Rattle.vm_memory_guest.specs.declared.region.error.GuestRegionCollectionError.{GuestRegionCollectionError}
use Rattle.vm_memory_guest.specs.declared.region.error.GuestRegionCollectionError.TheVariants as layout
use Rattle.vm_memory_guest.specs.Host.{Name, Cell}

-- len addresses from start on, and the cell of the first if the region has host bytes: the others follow
pub record Region : Type 0 where
  pub start : ℕ
  pub len : ℕ
  pub place : Option Cell

-- the end of the region's bytes in their block
abbrev pub place_end : Option Cell → ℕ → ℕ
place_end None len = 0
place_end (Some first) len = first.offset + len

-- a region has an address, its last is an address, and the offsets of its bytes are those of a block
pub record IsRegion (r : Region) : Type 0 where
  pub some : 0 < r.len
  pub short : r.len < 2 ^ 64
  pub fits : r.start + r.len ≤ 2 ^ 64
  pub offsets : place_end r.place r.len < 2 ^ 64

-- the last address of a region
abbrev pub last : Region → ℕ
last r = r.start + r.len - 1

-- whether an address lies in a region
abbrev pub has_address : Region → ℕ → Bool
has_address r a = is_within r.start r.len a

-- the region that holds an address, among values that mean regions
abbrev pub containing_in : {R : Type 0} → (R → Region) → List R → ℕ → Option R
containing_in region rs a = find (λ r. has_address (region r) a) rs

-- the region that holds an address
abbrev pub containing_region : List Region → ℕ → Option Region
containing_region regions a = containing_in (λ r. r) regions a

-- what lies at an address: a byte of a host, in its region; no byte, in a region without any; or no region
pub data Lies : Type 0 where
  Backed : (region : Region) (cell : Cell) → Lies
  Unbacked : Lies
  Unmapped : Lies

-- at an offset of a region, whose first byte lies there
abbrev pub lies_from : Region → Option Cell → ℕ → Lies
lies_from r None offset = Unbacked
lies_from r (Some first) offset = Backed r (record { block = first.block; offset = first.offset + offset })

-- at an address that this region contains, if one does
abbrev pub lies_in : Option Region → ℕ → Lies
lies_in None a = Unmapped
lies_in (Some r) a = lies_from r r.place (a - r.start)

-- what lies at an address, among regions
abbrev pub cell : List Region → ℕ → Lies
cell regions a = lies_in (containing_region regions a) a

-- regions of the same addresses
abbrev pub same_region : Region → Region → Bool
same_region q r = q.start == r.start && q.len == r.len

-- what a region names: the place of its bytes, if it has any
abbrev pub place_names : Option Cell → ℕ → List Name
place_names None len = []
place_names (Some first) len = host.Place first.block first.offset len ∷ []

abbrev pub region_names : Region → List Name
region_names r = place_names r.place r.len

-- the window of count bytes of a region from an offset on
abbrev pub window_at : Cell → ℕ → ℕ → Window
window_at first offset count = block_window first.block (first.offset + offset) count

-- what a region gives of count bytes from an offset on
abbrev pub slice_from : Option Cell → ℕ → ℕ → ℕ → Result Window GuestMemoryError
slice_from None len offset count = Err access.HostAddressNotAvailable
slice_from (Some first) len offset count =
    if nat_le (offset + count) len then Ok (window_at first offset count) else Err access.InvalidBackendAddress

abbrev pub slice_of : Region → ℕ → ℕ → Result Window GuestMemoryError
slice_of r offset count = slice_from r.place r.len offset count

-- whether a region may follow another in a layout: it starts no lower, and above the last address
abbrev pub neighbours_of : Region → Region → Result (Unit {0}) GuestRegionCollectionError
neighbours_of q r =
    if nat_lt r.start q.start then Err layout.UnsortedMemoryRegions
    else if nat_le r.start (last q) then Err layout.MemoryRegionOverlap else Ok tt

-- the error of a test, or of the later ones
abbrev pub first_error : Result (Unit {0}) GuestRegionCollectionError
    → Option GuestRegionCollectionError → Option GuestRegionCollectionError
first_error (Ok done) rest = rest
first_error (Err e) rest = Some e

-- the first fault of neighbours
abbrev pub neighbours_error : List Region → Option GuestRegionCollectionError
neighbours_error [] = None
neighbours_error (r ∷ []) = None
neighbours_error (q ∷ r ∷ rs) = first_error (neighbours_of q r) (neighbours_error (r ∷ rs))

-- why regions make no layout, if they make none
abbrev pub layout_error : List Region → Option GuestRegionCollectionError
layout_error [] = Some layout.NoMemoryRegion
layout_error (r ∷ rs) = neighbours_error (r ∷ rs)

-- the fault of regions that an error reports: a failed allocation is not one
abbrev pub fault_of : GuestRegionCollectionError → Option GuestRegionCollectionError
fault_of layout.Memory = None
fault_of e = Some e

-- regions in ascending order, none of which reaches the next
abbrev pub IsLayout : List Region → Type 0
IsLayout [] = Unit {0}
IsLayout (r ∷ []) = Unit {0}
IsLayout (q ∷ r ∷ rs) = (last q < r.start) × IsLayout (r ∷ rs)
