-- Short names for the values that small cases speak of.
use Rattle.std.specs.Prelude.{◌≡◌, ℕ, Bool, true, false, List, [], ◌∷◌, length, replicate, Some, None, option_map, Result, Ok}
use Rattle.vm_memory_base.specs.Pages.{PageSet, marked, pages_with}
use Rattle.vm_memory_base.specs.Runs.{AddressRun}
use Rattle.vm_memory_base.specs.Table.{Table, Mapping}
use Rattle.vm_memory_base.specs.declared.address.GuestAddress.{GuestAddress}
use Rattle.vm_memory_base.specs.declared.bitmap.BitmapId.{BitmapId}
use Rattle.vm_memory_base.specs.declared.iotlb.lookup.MappedRange.{MappedRange}
use Rattle.vm_memory_base.specs.declared.iotlb.IommuError.TheVariants.{CannotResolve}
use Rattle.vm_memory_base.specs.declared.iotlb.Permissions.{Permissions}
use Rattle.vm_memory_base.specs.declared.iotlb.Reason.{Reason}
use Rattle.vm_memory_guest.specs.Access.{Access, AccessFault}
use Rattle.vm_memory_guest.specs.Error.{error_of}
use Rattle.vm_memory_guest.specs.Host.{Host, Shape, Cell}
use Rattle.vm_memory_guest.specs.Memory.{Memory}
use Rattle.vm_memory_guest.specs.Region.{Region}
use Rattle.vm_memory_guest.specs.Transfer.{all_of, ended}
use Rattle.vm_memory_guest.specs.Window.{Window}
use Rattle.vm_memory_guest.specs.declared.region.error.GuestMemoryError.{GuestMemoryError}
use Rattle.vm_memory_guest.specs.declared.region.error.GuestMemoryError.TheVariants.{IommuError, PartialBuffer}

-- a byte of a block
abbrev pub cell_of : ℕ → ℕ → Cell
cell_of block offset = record { block = block; offset = offset }

-- len addresses from start on, whose bytes are those of a block from an offset on
abbrev pub backed_region : ℕ → ℕ → ℕ → ℕ → Region
backed_region start len block offset = record {
  start = start;
  len = len;
  place = Some (cell_of block offset);
}

-- len addresses from start on, without host bytes
abbrev pub unbacked_region : ℕ → ℕ → Region
unbacked_region start len = record { start = start; len = len; place = None }

-- len bytes of block 0 at address 0
abbrev pub one_region : ℕ → List Region
one_region len = backed_region 0 len 0 0 ∷ []

-- four bytes each of the blocks 0 and 1, at these addresses
abbrev pub two_regions : ℕ → ℕ → List Region
two_regions first second = backed_region first 4 0 0 ∷ backed_region second 4 1 0 ∷ []

-- two regions, the second at the address after the first
abbrev pub touching_regions : List Region
touching_regions = two_regions 0 4

-- two regions with a hole of four addresses between them
abbrev pub regions_with_hole : List Region
regions_with_hole = two_regions 0 8

-- a number as a guest address
abbrev pub address_of : ℕ → GuestAddress
address_of a = record { 0 = a }

-- size bytes of a block from an offset on, whose writes mark a bitmap from base on
abbrev pub window_marking : ℕ → ℕ → ℕ → BitmapId → ℕ → Window
window_marking block offset size bitmap base = record {
  block = record { 0 = block };
  offset = offset;
  size = size;
  bitmap = record { id = bitmap; base = base };
}

-- len bytes that are 0
abbrev pub zeros : ℕ → List ℕ
zeros len = replicate len 0

-- N clean pages of one size
abbrev pub clean_pages : ℕ → ℕ → PageSet
clean_pages page_size count = pages_with page_size (replicate count false)

-- what a mark makes of the pages of an exact bitmap
abbrev pub MarksExactly : PageSet → ℕ → ℕ → PageSet → Type 0
MarksExactly old offset len new = new ≡ marked offset len old

-- a host of these blocks, the bitmaps of the blocks, the bitmaps of the spaces, and these tables
abbrev pub host_of : List (List ℕ) → List PageSet → List PageSet → List Table → Host PageSet
host_of blocks bitmaps spaces tables = record {
  blocks = blocks;
  bitmaps = bitmaps;
  spaces = spaces;
  tables = tables;
}

-- two blocks of four bytes that are 0, with clean pages of one byte
abbrev pub two_zero_blocks : Host PageSet
two_zero_blocks = host_of (zeros 4 ∷ zeros 4 ∷ []) (clean_pages 1 4 ∷ clean_pages 1 4 ∷ []) [] []

-- the shape of a host with one block of four bytes and one space
abbrev pub one_block_shape : Shape
one_block_shape = record { blocks = 4 ∷ []; spaces = 1; tables = 0 }

-- len addresses from start on that have one mapping
abbrev pub run_of : ℕ → ℕ → ℕ → Permissions → AddressRun Mapping
run_of start len difference permissions = record {
  start = start;
  len = len;
  value = record { difference = difference; permissions = permissions };
}

-- a table of these runs, with no limit
abbrev pub table_of : List (AddressRun Mapping) → Table
table_of ranges = record { limit = None; ranges = ranges }

-- regions behind an IOMMU with this table and this space, and whether it is on
abbrev pub memory_switched : Bool → List Region → ℕ → ℕ → Memory
memory_switched on regions table space = record {
  regions = regions;
  iommu = Some (record { behind = record { table = table; space = space }; on = on });
}

-- regions behind an IOMMU that is on
abbrev pub memory_with_iommu : List Region → ℕ → ℕ → Memory
memory_with_iommu regions table space = memory_switched true regions table space

-- a piece of a translation: N addresses from one on
abbrev pub piece : ℕ → ℕ → MappedRange
piece base len = record { base = record { 0 = base }; length = len }

-- regions with no IOMMU
abbrev pub memory_without_iommu : List Region → Memory
memory_without_iommu regions = record { regions = regions; iommu = None }

-- the result of an access: how many bytes it reached, or why none
abbrev pub counted_access : Access → Result ℕ AccessFault
counted_access access = ended (length access.path) access.fault

-- the result of an access that wants all n bytes
abbrev pub exact_access : Access → ℕ → Result (Unit {0}) GuestMemoryError
exact_access access n = all_of PartialBuffer n (ended (length access.path) (option_map error_of access.fault))

-- the error that says that the translation of len addresses from base on was refused
abbrev pub cannot_resolve : ℕ → ℕ → Reason → GuestMemoryError
cannot_resolve base len reason = IommuError (CannotResolve (record {
  base = record { 0 = base };
  length = len;
}) reason)

-- regions as they are
abbrev pub itself : Region → Region
itself r = r

-- a callback that handles all that it is given, one that always returns the same number, and one that is called
-- with no byte, at the offset 2, and handles none
abbrev pub AnswersLength : Unit {0} → ℕ → ℕ → ℕ → Region → Result ℕ GuestMemoryError → Unit {0} → Type 0
AnswersLength f total len offset r given g = given ≡ Ok len

abbrev pub AnswersNumber : ℕ → Unit {0} → ℕ → ℕ → ℕ → Region → Result ℕ GuestMemoryError → Unit {0} → Type 0
AnswersNumber n f total len offset r given g = given ≡ Ok n

abbrev pub CalledWithNothing : Unit {0} → ℕ → ℕ → ℕ → Region → Result ℕ GuestMemoryError → Unit {0} → Type 0
CalledWithNothing f total len offset r given g =
    (total ≡ 0) × (len ≡ 0) × (offset ≡ 2) × (given ≡ Ok 0)
