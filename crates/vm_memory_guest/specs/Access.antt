-- What an access reaches, byte by byte, and where it is cut into windows.
use Rattle.std.specs.Prelude.{ℕ, zero, suc, ◌+◌, Bool, true, false, not, ◌&&◌, if◌then◌else◌, List, [], ◌∷◌, map, Option, Some, None}
use Rattle.vm_memory_base.specs.Table.{Mapping, same_mapping, is_allowed, reason}
use Rattle.vm_memory_base.specs.declared.bitmap.BitmapId.{BitmapId}
use Rattle.vm_memory_base.specs.declared.bitmap.BitmapId.TheVariants.{Block, Space}
use Rattle.vm_memory_base.specs.declared.iotlb.Permissions.{Permissions}
use Rattle.vm_memory_base.specs.declared.iotlb.Reason.{Reason}
use Rattle.vm_memory_guest.specs.Host.{Cell}
use Rattle.vm_memory_guest.specs.Region.{Region, Lies, cell, same_region}
use Rattle.vm_memory_guest.specs.Region.{Backed, Unbacked, Unmapped}
use Rattle.vm_memory_guest.specs.Memory.{Route, Direct, Through, said_on, mapping_of, physical}
use Rattle.vm_memory_guest.specs.Window.{Window}

-- why an access goes no further: no region holds the address, its region has no host bytes, or the
-- translation of a range was refused
pub data AccessFault : Type 0 where
  NoRegion : (address : ℕ) → AccessFault
  NoHostBytes : AccessFault
  Refused : (iova len : ℕ) (reason : Reason) → AccessFault

-- a byte that an access reaches: its cell, the region that contains it, the mapping that led there, and the
-- offset of a bitmap that a write marks
pub record Reached : Type 0 where
  pub cell : Cell
  pub region : Region
  pub mapping : Option Mapping
  pub bitmap : BitmapId
  pub mark : ℕ

-- what byte i of an access meets
pub data Meets : Type 0 where
  Reaches : (reached : Reached) → Meets
  Stops : (fault : AccessFault) → Meets

-- with translation a write marks a space at the address that was asked for, without it the block at the
-- byte's offset
abbrev pub marked_bitmap : Route → Cell → BitmapId
marked_bitmap Direct c = Block c.block
marked_bitmap (Through f space) c = Space space

abbrev pub mark_of : Route → ℕ → Cell → ℕ
mark_of Direct x c = c.offset
mark_of (Through f space) x c = x

abbrev pub meets_at : Route → ℕ → Option Mapping → ℕ → Lies → Meets
meets_at route x mapping p (Backed r c) = Reaches (record {
  cell = c;
  region = r;
  mapping = mapping;
  bitmap = marked_bitmap route c;
  mark = mark_of route x c;
})
meets_at route x mapping p Unbacked = Stops NoHostBytes
meets_at route x mapping p Unmapped = Stops (NoRegion p)

abbrev pub meets : List Region → Route → ℕ → ℕ → Meets
meets regions route a i =
    let p = physical route a i in meets_at route (a + i) (mapping_of route a i) p (cell regions p)

abbrev pub onto : Meets → List Reached → List Reached
onto (Reaches r) rest = r ∷ rest
onto (Stops fault) rest = []

abbrev pub or_fault : Meets → Option AccessFault → Option AccessFault
or_fault (Reaches r) rest = rest
or_fault (Stops fault) rest = Some fault

-- the bytes i, i + 1, .. of n more that are reached, up to the first that is not
unfoldable pub path : (ℕ → Meets) → ℕ → ℕ → List Reached
path m i zero = []
path m i (suc n) = onto (m i) (path m (i + 1) n)

-- what stops it before n bytes, if something does
unfoldable pub first_fault : (ℕ → Meets) → ℕ → ℕ → Option AccessFault
first_fault m i zero = None
first_fault m i (suc n) = or_fault (m i) (first_fault m (i + 1) n)

-- there is a cut between two neighbouring bytes if their regions or their mappings differ
abbrev pub same_mappings : Option Mapping → Option Mapping → Bool
same_mappings None None = true
same_mappings (Some m) (Some n) = same_mapping m n
same_mappings m n = false

abbrev pub is_cut : Reached → Reached → Bool
is_cut x y = not (same_region x.region y.region && same_mappings x.mapping y.mapping)

-- neighbouring bytes with no cut between them
pub record Stretch : Type 0 where
  pub first : Reached
  pub len : ℕ

abbrev pub lengthened : Reached → List Stretch → List Stretch
lengthened x [] = record { first = x; len = 1 } ∷ []
lengthened x (s ∷ ss) =
    if is_cut x s.first then record { first = x; len = 1 } ∷ s ∷ ss else record { first = x; len = s.len + 1 } ∷ ss

-- a path between its cuts
unfoldable pub stretches : List Reached → List Stretch
stretches [] = []
stretches (x ∷ xs) = lengthened x (stretches xs)

abbrev pub window_of : Stretch → Window
window_of s = record {
  block = record { 0 = s.first.cell.block };
  offset = s.first.cell.offset;
  size = s.len;
  bitmap = record { id = s.first.bitmap; base = s.first.mark };
}

-- the windows of a path
abbrev pub windows : List Reached → List Window
windows xs = map window_of (stretches xs)

-- what an access reaches, and what keeps it from reaching all of its bytes
pub record Access : Type 0 where
  pub path : List Reached
  pub fault : Option AccessFault

-- whether the access of n bytes at a is allowed
abbrev pub allowed : Route → ℕ → ℕ → Permissions → Bool
allowed Direct a n access = true
allowed (Through f space) a n access = is_allowed f a n access

abbrev pub refusal : Route → ℕ → ℕ → AccessFault
refusal route a n = Refused a n (reason (said_on route) a n)

-- an access of n bytes at a: one that is not allowed reaches nothing
abbrev pub access_of : List Region → Route → ℕ → ℕ → Permissions → Access
access_of regions route a n access = if allowed route a n access
    then record { path = path (meets regions route a) 0 n; fault = first_fault (meets regions route a) 0 n }
    else record { path = []; fault = Some (refusal route a n) }
