-- Where the kernel of a bzImage runs: the memory that it uses before it can read its memory map.
use Rattle.std.specs.Prelude.{◌≡◌, ◌⊎◌, ℕ, ◌+◌, ◌-◌, ◌^◌, nat_lt, Bool, true, not, ◌||◌, ◌==◌, if◌then◌else◌, max, min, List, length, Option, Some, None, Result, Ok, Err}
use Rattle.std.specs.Int.{is_power_of_two, next_multiple_of}
use Rattle.vm_memory_base.specs.Table.{Table}
use Rattle.vm_memory_base.specs.declared.iotlb.Permissions.TheVariants as permissions
use Rattle.vm_memory_guest.specs.Access.{access_of}
use Rattle.vm_memory_guest.specs.Memory.{Memory, route}
use Rattle.vm_memory_guest.specs.Queries.{is_whole}
use Rattle.vm_memory_guest.specs.Walk.{NeedsPieces}
use Rattle.linux_loader.specs.Error.{and_then}
use Rattle.linux_loader.specs.Numbers.{field}
use Rattle.linux_loader.specs.declared.error.LoaderError.{LoaderError}
use Rattle.linux_loader.specs.declared.error.LoaderError.TheVariants as errors
use Rattle.linux_loader.specs.declared.runtime.RuntimeArea.{RuntimeArea}

-- the number of 32 bits at a place of a setup header, if it is of this version or above, and has it
abbrev pub field_since : List ℕ → ℕ → ℕ → Option ℕ
field_since h version at = if nat_lt (length h) (at + 4) || nat_lt (field 2 0x15 h) version then None
    else Some (field 4 at h)

-- a number that has 64 bits
abbrev pub within_64 : ℕ → Result ℕ LoaderError
within_64 n = if nat_lt n (2 ^ 64) then Ok n else Err errors.RuntimeAreaOverflow

-- where a kernel that is loaded at an address runs: one that is not relocatable moves itself to pref_address, and one
-- that is runs at the next multiple of kernel_alignment, at pref_address or above
abbrev pub runtime_start : List ℕ → ℕ → Result ℕ LoaderError
runtime_start h load = if field 1 0x43 h == 0 then Ok (field 8 0x67 h)
    else if not (is_power_of_two (field 4 0x3f h)) then Err errors.InvalidKernelAlignment
    else within_64 (next_multiple_of (max load (field 8 0x67 h)) (field 4 0x3f h))

-- the area of N bytes from an address on
abbrev pub area_at : ℕ → ℕ → Result (Option RuntimeArea) LoaderError
area_at start size = and_then (within_64 (start + size)) (λ end.
    Ok (Some (record { start = record { 0 = start }; end = end })))

abbrev pub area_of_size : List ℕ → ℕ → Option ℕ → Result (Option RuntimeArea) LoaderError
area_of_size h load None = Ok None
area_of_size h load (Some size) = and_then (runtime_start h load) (λ start. area_at start size)

-- the run time area of a kernel that is loaded at an address: a header of version 2.10 says at 0x260 how many bytes
-- the kernel needs from where it runs
abbrev pub runtime_area : List ℕ → ℕ → Result (Option RuntimeArea) LoaderError
runtime_area h load = area_of_size h load (field_since h 0x20a 0x6f)

-- n bytes at an address share none with an area
abbrev pub lies_outside : ℕ → ℕ → Option RuntimeArea → Bool
lies_outside a n None = true
lies_outside a n (Some area) = not (nat_lt (max a area.start.0) (min (a + n) area.end))

abbrev pub check_outside : ℕ → ℕ → Option RuntimeArea → Result (Unit {0}) LoaderError
check_outside a n area = if lies_outside a n area then Ok tt else Err errors.RuntimeAreaOverlap

-- the first address that is above all that a kernel uses, of one whose highest segment ends here
abbrev pub first_free : ℕ → Option RuntimeArea → ℕ
first_free end None = end
first_free end (Some area) = max end area.end

module _ (m : Memory) (tables : List Table) where
  -- each address of an area has a byte that may be read and written
  abbrev pub is_in_memory : ℕ → ℕ → Bool
  is_in_memory a n = is_whole (access_of m.regions (route m tables) a n permissions.ReadWrite).path n

  -- n bytes at an address lie in memory, or are refused, or an allocation failed
  abbrev pub FindsBytes : ℕ → ℕ → Result (Unit {0}) LoaderError → Type 0
  FindsBytes a n answer = (answer ≡ (if is_in_memory a n then Ok tt else Err errors.RuntimeAreaNotInMemory))
      ⊎ ((answer ≡ Err errors.Memory) × NeedsPieces m tables a n permissions.ReadWrite)

  -- the same of an area. If there is none, nothing is refused
  abbrev pub FindsArea : Option RuntimeArea → Result (Unit {0}) LoaderError → Type 0
  FindsArea None answer = answer ≡ Ok tt
  FindsArea (Some area) answer = FindsBytes area.start.0 (area.end - area.start.0) answer
