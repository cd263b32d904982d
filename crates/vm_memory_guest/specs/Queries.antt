-- What regions and layouts are asked of one address: whether they hold it, and what lies there.
use Rattle.std.specs.Prelude.{ℕ, ◌+◌, ◌-◌, ◌^◌, nat_lt, max, Bool, ◌==◌, if◌then◌else◌, List, [], ◌∷◌, length, Option, Some, None, option_map, Result, Ok, Err}
use Rattle.vm_memory_base.specs.declared.address.GuestAddress.{GuestAddress}
use Rattle.vm_memory_base.specs.declared.address.MemoryRegionAddress.{MemoryRegionAddress}
use Rattle.vm_memory_base.specs.declared.bitmap.BitmapId.TheVariants.{Block}
use Rattle.vm_memory_base.specs.declared.bitmap.BitmapRef.{BitmapRef}
use Rattle.vm_memory_guest.specs.Access.{Reached}
use Rattle.vm_memory_guest.specs.Host.{Cell}
use Rattle.vm_memory_guest.specs.Region.{Region, last, has_address, containing_in, slice_of}
use Rattle.vm_memory_guest.specs.declared.region.error.GuestMemoryError.{GuestMemoryError}
use Rattle.vm_memory_guest.specs.declared.region.error.GuestMemoryError.TheVariants.{InvalidGuestAddress, InvalidBackendAddress, HostAddressNotAvailable}
use Rattle.vm_memory_guest.specs.Window.{Window}
use Rattle.vm_memory_guest.specs.declared.host.address.HostAddress.{HostAddress}

-- the view of the bitmap of a block, from a cell on
abbrev pub bitmap_from : Cell → BitmapRef
bitmap_from first = record { id = Block first.block; base = first.offset }

-- an offset of a region, if there is an address at it
abbrev pub offset_in : Region → ℕ → Option MemoryRegionAddress
offset_in r offset = if nat_lt offset r.len then Some (record { 0 = offset }) else None

-- the offset of an address, if the region holds it
abbrev pub offset_of : Region → ℕ → Option MemoryRegionAddress
offset_of r a = if has_address r a then Some (record { 0 = a - r.start }) else None

-- where the byte at an offset of a region is, given the place of its first byte
abbrev pub host_address_from : Option Cell → ℕ → ℕ → Result HostAddress GuestMemoryError
host_address_from None len offset = Err HostAddressNotAvailable
host_address_from (Some first) len offset = if nat_lt offset len
    then Ok (record { block = record { 0 = first.block }; offset = first.offset + offset })
    else Err InvalidBackendAddress

abbrev pub host_address_of : Region → ℕ → Result HostAddress GuestMemoryError
host_address_of r offset = host_address_from r.place r.len offset

-- whether a path has all of n bytes
abbrev pub is_whole : List Reached → ℕ → Bool
is_whole path n = length path == n

-- the greatest of the regions' last addresses, and 0 with no region
abbrev pub greatest_last : List Region → ℕ
greatest_last [] = 0
greatest_last (r ∷ rs) = max (last r) (greatest_last rs)

module _ {R : Type 0} (region : R → Region) (rs : List R) where
  -- an address, if a region holds it
  abbrev pub address_in : ℕ → Option GuestAddress
  address_in a = option_map (λ r. record { 0 = a }) (containing_in region rs a)

  -- the address so far above another, if that is an address and a region holds it
  abbrev pub address_above : ℕ → ℕ → Option GuestAddress
  address_above base offset = if nat_lt (base + offset) (2 ^ 64) then address_in (base + offset) else None

  -- what the region that holds an address returns for its offset there
  abbrev pub region_answer : {T : Type 0} → (Region → ℕ → Result T GuestMemoryError) → ℕ → Option R
      → Result T GuestMemoryError
  region_answer ask a None = Err (InvalidGuestAddress (record { 0 = a }))
  region_answer ask a (Some r) = ask (region r) (a - (region r).start)

  abbrev pub host_address_at : ℕ → Result HostAddress GuestMemoryError
  host_address_at a = region_answer host_address_of a (containing_in region rs a)

  abbrev pub slice_at : ℕ → ℕ → Result Window GuestMemoryError
  slice_at a count = region_answer (λ r offset. slice_of r offset count) a (containing_in region rs a)
