-- bzImages, as a loader reads them. The setup header begins at 0x1f1, and its fields are named by their offsets in it.
use Rattle.std.specs.Prelude.{ℕ, ◌+◌, ◌-◌, ◌*◌, ◌^◌, nat_lt, nat_le, Bool, not, ◌&&◌, ◌==◌, if◌then◌else◌, bit_and, List, [], ◌∷◌, ◌++◌, take, drop, slice_range, length, Option, Some, Result, Ok, Err, IsOk}
use Rattle.std.specs.Int.{w32, to_le_bytes}
use Rattle.vm_memory_base.specs.declared.address.GuestAddress.{GuestAddress}
use Rattle.linux_loader.specs.Error.{and_then}
use Rattle.linux_loader.specs.Numbers.{field}
use Rattle.linux_loader.specs.Plan.{Planned, address_or, end_of}
use Rattle.linux_loader.specs.Runtime.{runtime_area}
use Rattle.linux_loader.specs.declared.error.LoaderError.{LoaderError}
use Rattle.linux_loader.specs.declared.error.LoaderError.TheVariants as errors
use Rattle.linux_loader.specs.declared.plan.PvhBootCapability.TheVariants.{PvhEntryNotPresent}
use Rattle.linux_loader.specs.declared.segment.Segment.{Segment}
use Rattle.linux_loader.specs.declared.runtime.RuntimeArea.{RuntimeArea}

-- what is read of a header, which has 272 bytes at most: some more than it has, and those up to the end of
-- code32_start at least
abbrev pub header_in : List ℕ → Result (List ℕ) LoaderError
header_in all = if nat_lt (length all) 0x218 then Err errors.ReadBzImageHeader else Ok (take 272 (drop 0x1f1 all))

-- memory is asked for: for the header of an image that is long enough
abbrev pub BzAllocates : List ℕ → Type 0
BzAllocates all = IsOk (header_in all)

-- how many bytes a header has: those up to 0x202, and as many more as the byte at 0x201 says
abbrev pub header_size : List ℕ → ℕ
header_size h = 0x11 + field 1 0x10 h

-- the magic number "HdrS", the version of the protocol, and whether the kernel is loaded high
abbrev pub is_header : List ℕ → Bool
is_header h = field 4 0x11 h == 0x53726448 && nat_le 0x200 (field 2 0x15 h) && not (bit_and (field 1 0x20 h) 1 == 0)

abbrev pub check_header : List ℕ → Result (Unit {0}) LoaderError
check_header h = if not (is_header h) then Err errors.InvalidBzImage
    else if nat_lt (header_size h) 0x27 then Err errors.InvalidSetupHeaderSize
    else if nat_lt (length h) (header_size h) then Err errors.ReadBzImageHeader
    else Ok tt

-- the kernel begins after the boot sector and N sectors of setup code, and N = 0 stands for 4
abbrev pub sectors : ℕ → ℕ
sectors n = if n == 0 then 4 else n

abbrev pub kernel_start : List ℕ → ℕ
kernel_start h = (sectors (field 1 0 h) + 1) * 512

-- where the kernel is loaded: where the caller says, or at code32_start, which no address below `lowest` may be
abbrev pub load_address : List ℕ → Option GuestAddress → ℕ → Result ℕ LoaderError
load_address h offset lowest = if nat_lt (field 4 0x23 h) lowest then Err errors.InvalidKernelStartAddress
    else if nat_lt (address_or (field 4 0x23 h) offset) (2 ^ 32) then Ok (address_or (field 4 0x23 h) offset)
    else Err errors.InvalidKernelStartAddress

-- the kernel of an image of n bytes: all that follows the setup code
abbrev pub kernel_of : List ℕ → ℕ → ℕ → Result Segment LoaderError
kernel_of h size addr = if nat_le size (kernel_start h) then Err errors.ReadBzImageCompressedKernel
    else if nat_le (2 ^ 64) (addr + (size - kernel_start h)) then Err errors.MemoryOverflow
    else Ok (record {
      file_offset = kernel_start h;
      addr = record { 0 = addr };
      file_size = size - kernel_start h;
      size = size - kernel_start h;
    })

-- the header with code32_start as loaded
abbrev pub header_as_loaded : List ℕ → ℕ → List ℕ
header_as_loaded h addr = take 0x23 h ++ to_le_bytes w32 addr ++ slice_range h 0x27 (header_size h)

-- what is planned of segments, of which the kernel is one, a header, and where the kernel runs
abbrev pub planned_with : List Segment → Segment → List ℕ → Option RuntimeArea → Planned
planned_with segments kernel header area = record {
  segments = segments;
  result = record {
    kernel_load = kernel.addr;
    kernel_end = end_of kernel;
    runtime_area = area;
    setup_header = Some header;
    pvh_boot_cap = PvhEntryNotPresent;
  };
}

abbrev pub bz_planned : List ℕ → Segment → Result Planned LoaderError
bz_planned h kernel = let header = header_as_loaded h kernel.addr.0 in
    and_then (runtime_area header kernel.addr.0) (λ area. Ok (planned_with (kernel ∷ []) kernel header area))

-- the kernel of an image with this header, of N bytes
abbrev pub bz_kernel : List ℕ → ℕ → Option GuestAddress → ℕ → Result Segment LoaderError
bz_kernel h size offset lowest = and_then (check_header h) (λ _.
    and_then (load_address h offset lowest) (λ addr. kernel_of h size addr))

-- what is to be loaded of such an image
unfoldable pub bz_named : List ℕ → ℕ → Option GuestAddress → ℕ → Result Planned LoaderError
bz_named h size offset lowest = and_then (bz_kernel h size offset lowest) (λ kernel. bz_planned h kernel)

-- what is to be loaded of an image
unfoldable pub bz_plan : List ℕ → Option GuestAddress → ℕ → Result Planned LoaderError
bz_plan all offset lowest = and_then (header_in all) (λ h. bz_named h (length all) offset lowest)
