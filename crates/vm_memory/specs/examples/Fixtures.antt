-- A small machine, in the words of the model. Only the examples cite it.
use Rattle.std.specs.Prelude.{ℕ, ◌+◌, ◌-◌, ◌*◌, ◌^◌, List, [], ◌∷◌, Some, None, Bool, true, false}
use Rattle.vm_memory_base.specs.Pages.{PageSet}
use Rattle.vm_memory_base.specs.Runs.{AddressRun}
use Rattle.vm_memory_base.specs.Table.{Table, Mapping, Range}
use Rattle.vm_memory_base.specs.declared.address.GuestAddress.{GuestAddress}
use Rattle.vm_memory_base.specs.declared.iotlb.IommuError.TheVariants.{CannotResolve}
use Rattle.vm_memory_base.specs.declared.iotlb.Permissions.{Permissions}
use Rattle.vm_memory_base.specs.declared.iotlb.Permissions.TheVariants.{Read, ReadWrite}
use Rattle.vm_memory_base.specs.declared.iotlb.Reason.{Reason}
use Rattle.vm_memory_base.specs.declared.iotlb.lookup.IotlbFails.{IotlbFails}
use Rattle.vm_memory_guest.specs.Host.{Host}
use Rattle.vm_memory_guest.specs.Memory.{Memory}
use Rattle.vm_memory_guest.specs.Region.{Region}
use Rattle.vm_memory_device.specs.Iommu.{behind}
use Rattle.vm_memory_device.specs.Memories.{plain}
use Rattle.vm_memory.specs.State.{State}
use Rattle.vm_memory.specs.declared.machine.command.BlockRange.{BlockRange}
use Rattle.vm_memory.specs.declared.machine.command.Fault.{Fault}
use Rattle.vm_memory.specs.declared.machine.command.Fault.TheVariants.{InvalidGuestAddress, IommuError}

abbrev pub at : ℕ → GuestAddress
at a = record { 0 = a }

-- four addresses in block 0, the next four in block 1, and after a hole four without host bytes
abbrev pub low : Region
low = record { start = 0; len = 4; place = Some (record { block = 0; offset = 0 }) }

abbrev pub high : Region
high = record { start = 4; len = 4; place = Some (record { block = 1; offset = 0 }) }

abbrev pub unbacked : Region
unbacked = record { start = 12; len = 4; place = None }

-- pages of two bytes in a block, and of sixteen addresses in a space
abbrev pub block_pages : Bool → Bool → PageSet
block_pages first second = Some (record { page_size = 2; flags = first ∷ second ∷ [] })

abbrev pub space_pages : Bool → Bool → PageSet
space_pages first second = Some (record { page_size = 16; flags = first ∷ second ∷ [] })

-- 16 to 19 lead to 2 to 5, and 20 to 23 to 4 to 7, which may only be read there
abbrev pub mapped : ℕ → ℕ → Permissions → AddressRun Mapping
mapped start difference access = record {
  start = start;
  len = 4;
  value = record { difference = difference; permissions = access };
}

abbrev pub table : Table
table = record { limit = None; ranges = mapped 16 (2 ^ 64 - 14) ReadWrite ∷ mapped 20 (2 ^ 64 - 16) Read ∷ [] }

abbrev pub host : Host PageSet
host = record {
  blocks = (1 ∷ 2 ∷ 3 ∷ 4 ∷ []) ∷ (5 ∷ 6 ∷ 7 ∷ 8 ∷ []) ∷ [];
  bitmaps = block_pages false false ∷ block_pages false false ∷ [];
  spaces = space_pages false false ∷ [];
  tables = table ∷ [];
}

-- the two regions with bytes behind an IOMMU of this table and this space
abbrev pub translated_memory : Bool → Memory
translated_memory on = behind (low ∷ high ∷ []) 0 0 on

-- a machine of these regions: memory 0 is plain, the IOMMU of memory 1 is on, and that of memory 2 is off
abbrev pub machine : State
machine = record {
  regions = low ∷ high ∷ unbacked ∷ [];
  translators = 0 ∷ [];
  layouts = (low ∷ high ∷ []) ∷ [];
  memories = plain (low ∷ high ∷ unbacked ∷ []) ∷ translated_memory true ∷ translated_memory false ∷ [];
  host = host;
}

-- the same host with dirty pages, and its machine
abbrev pub marked_host : Host PageSet
marked_host = record host {
  bitmaps = block_pages false true ∷ block_pages true true ∷ [];
  spaces = space_pages true false ∷ [];
}

abbrev pub marked_machine : State
marked_machine = record machine { host = marked_host }

-- the machine with these bytes in its blocks and these pages of them dirty, and with these bytes and the second
-- page of its space
abbrev pub with_bytes : List ℕ → List ℕ → PageSet → PageSet → State
with_bytes first second first_pages second_pages = record machine {
  host = record host {
    blocks = first ∷ second ∷ [];
    bitmaps = first_pages ∷ second_pages ∷ [];
  };
}

abbrev pub with_translated_bytes : List ℕ → List ℕ → State
with_translated_bytes first second = record machine {
  host = record host {
    blocks = first ∷ second ∷ [];
    spaces = space_pages false true ∷ [];
  };
}

-- the faults of an address in no region, and of a range whose translation is refused
abbrev pub no_region_at : ℕ → Fault
no_region_at a = InvalidGuestAddress (at a)

abbrev pub not_translated : ℕ → ℕ → Reason → Fault
not_translated a n reason = IommuError (CannotResolve (record { base = at a; length = n }) reason)

-- a range of a block
abbrev pub in_block : ℕ → ℕ → ℕ → BlockRange
in_block block offset len = record { block = block; offset = offset; len = len }

-- the values of two and of four bytes, the lowest first
abbrev pub two_bytes : ℕ → ℕ → ℕ
two_bytes a b = a + 256 * b

abbrev pub four_bytes : ℕ → ℕ → ℕ → ℕ → ℕ
four_bytes a b c d = two_bytes a b + 256 * 256 * two_bytes c d

-- a range of addresses, and what a look-up replies that misses some and may not access others
abbrev pub range : ℕ → ℕ → Range
range base len = record { base = base; len = len }

abbrev pub failed : List Range → List Range → IotlbFails
failed misses access_fails = record { misses = misses; access_fails = access_fails }
