-- ELF files of 64 bits for x86-64, as a loader reads them.
use Rattle.std.specs.Prelude.{ℕ, zero, suc, ◌+◌, ◌*◌, ◌^◌, ◌<◌, nat_lt, nat_le, Bool, not, ◌||◌, ◌==◌, if◌then◌else◌, List, [], ◌∷◌, ◌++◌, take, drop, length, Option, Some, None, Result, Ok, Err, IsOkAnd}
use Rattle.vm_memory_base.specs.declared.address.GuestAddress.{GuestAddress}
use Rattle.linux_loader.specs.Error.{and_then}
use Rattle.linux_loader.specs.Notes.{entry_in, note_align, or_else}
use Rattle.linux_loader.specs.Numbers.{field}
use Rattle.linux_loader.specs.Plan.{Planned, highest_end}
use Rattle.linux_loader.specs.declared.elf.header.ElfHeader.{ElfHeader}
use Rattle.linux_loader.specs.declared.elf.header.ProgramHeader.{ProgramHeader}
use Rattle.linux_loader.specs.declared.error.LoaderError.{LoaderError}
use Rattle.linux_loader.specs.declared.error.LoaderError.TheVariants as errors
use Rattle.linux_loader.specs.declared.plan.PvhBootCapability.{PvhBootCapability}
use Rattle.linux_loader.specs.declared.plan.PvhBootCapability.TheVariants.{PvhEntryPresent, PvhEntryNotPresent}
use Rattle.linux_loader.specs.declared.segment.Segment.{Segment}

-- ---- the header

-- whether a header of 64 bytes is that of a file which may be loaded: the bytes 7f 45 4c 46, the class of 64 bits, the
-- lowest byte first, an executable or a shared object, and for x86-64
abbrev pub kind_of : List ℕ → Result (Unit {0}) LoaderError
kind_of h = if not (field 4 0 h == 0x464c457f) then Err errors.InvalidElfMagicNumber
    else if not (field 1 4 h == 2) then Err errors.InvalidElfClass
    else if not (field 1 5 h == 1) then Err errors.BigEndianElfOnLittle
    else if not (field 2 16 h == 2 || field 2 16 h == 3) then Err errors.InvalidElfType
    else if not (field 2 18 h == 62) then Err errors.InvalidElfMachine
    else Ok tt

-- where the program headers of a header are, how many, and the entry, which no address below `lowest` may be
abbrev pub places_of : ℕ → ℕ → List ℕ → Result ElfHeader LoaderError
places_of size lowest h = if not (field 2 54 h == 56) then Err errors.InvalidProgramHeaderSize
    else if field 2 56 h == 65535 then Err errors.TooManyProgramHeaders
    else if nat_lt (field 8 32 h) 64 then Err errors.InvalidProgramHeaderOffset
    else if nat_lt (field 8 24 h) lowest then Err errors.InvalidEntryAddress
    else if nat_lt size (field 8 32 h + 56 * field 2 56 h) then Err errors.ReadProgramHeader
    else Ok (record { entry = field 8 24 h; table = field 8 32 h; count = field 2 56 h })

-- what a header says of a file of N bytes
abbrev pub header_of : ℕ → ℕ → List ℕ → Result ElfHeader LoaderError
header_of size lowest h = and_then (kind_of h) (λ _. places_of size lowest h)

-- the header of a file
abbrev pub elf_header : List ℕ → ℕ → Result ElfHeader LoaderError
elf_header all lowest = if nat_lt (length all) 64 then Err errors.ReadElfHeader
    else header_of (length all) lowest (take 64 all)

-- memory is asked for: for the program headers of a header that may be loaded, if it has some
abbrev pub ElfAllocates : List ℕ → ℕ → Type 0
ElfAllocates all lowest = IsOkAnd (elf_header all lowest) (λ h. 0 < h.count)

-- ---- program headers

-- a program header of 56 bytes
abbrev pub program_header : List ℕ → ProgramHeader
program_header p = record {
  kind = field 4 0 p;
  file_offset = field 8 8 p;
  address = field 8 24 p;
  file_size = field 8 32 p;
  memory_size = field 8 40 p;
  align = field 8 48 p;
}

-- n of them, one after the other
unfoldable pub program_headers : ℕ → List ℕ → List ProgramHeader
program_headers zero table = []
program_headers (suc n) table = program_headers n table ++ program_header (drop (56 * n) table) ∷ []

-- those of a file
abbrev pub headers_in : List ℕ → ElfHeader → List ProgramHeader
headers_in all h = program_headers h.count (take (56 * h.count) (drop h.table all))

-- whether what a program header names lies in a file of N bytes. An empty one lies in none
abbrev pub lies_in : ℕ → ProgramHeader → Bool
lies_in size p = p.file_size == 0 || nat_le (p.file_offset + p.file_size) size

-- the segment that a program header names, if it is one to load (kind 1) that has a byte in memory
abbrev pub segment_of : ℕ → ℕ → ProgramHeader → Result (Option Segment) LoaderError
segment_of size offset p = if not (p.kind == 1) then Ok None
    else if nat_lt p.memory_size p.file_size then Err errors.InvalidSegmentSize
    else if not (lies_in size p) then Err errors.ReadKernelImage
    else if nat_le (2 ^ 64) (p.address + offset) then Err errors.InvalidProgramHeaderAddress
    else if nat_le (2 ^ 64) (p.address + offset + p.memory_size) then Err errors.MemoryOverflow
    else if p.memory_size == 0 then Ok None
    else Ok (Some (record {
      file_offset = p.file_offset;
      addr = record { 0 = p.address + offset };
      file_size = p.file_size;
      size = p.memory_size;
    }))

-- one more in front, if there is one
abbrev pub onto : Option Segment → List Segment → List Segment
onto None rest = rest
onto (Some s) rest = s ∷ rest

-- the segments of program headers, or what is wrong with the first that is wrong
unfoldable pub segments_of : ℕ → ℕ → List ProgramHeader → Result (List Segment) LoaderError
segments_of size offset [] = Ok []
segments_of size offset (p ∷ ps) = and_then (segment_of size offset p) (λ s.
    and_then (segments_of size offset ps) (λ rest. Ok (onto s rest)))

-- there is a segment
abbrev pub some_segment : List Segment → Result (List Segment) LoaderError
some_segment [] = Err errors.NoLoadSegment
some_segment (s ∷ ss) = Ok (s ∷ ss)

-- ---- the PVH entry

-- the entry that a program header leads to, if it is one of notes (kind 4), of at most 65536 bytes
abbrev pub entry_of : List ℕ → ProgramHeader → Result (Option ℕ) LoaderError
entry_of all p = if not (p.kind == 4) || p.file_size == 0 then Ok None
    else and_then (note_align p.align) (λ align.
    if nat_lt 65536 p.file_size then Err errors.NotesTooLong
    else if not (lies_in (length all) p) then Err errors.ReadNoteHeader
    else entry_in p.file_size align (take p.file_size (drop p.file_offset all)))

-- that of the first program header which leads to one
unfoldable pub pvh_entry : List ℕ → List ProgramHeader → Result (Option ℕ) LoaderError
pvh_entry all [] = Ok None
pvh_entry all (p ∷ ps) = and_then (entry_of all p) (λ found. or_else found (pvh_entry all ps))

abbrev pub capability : Option ℕ → PvhBootCapability
capability None = PvhEntryNotPresent
capability (Some e) = PvhEntryPresent (record { 0 = e })

-- ---- what is loaded

abbrev pub entry_at : ℕ → ℕ → Result GuestAddress LoaderError
entry_at entry offset = if nat_lt (entry + offset) (2 ^ 64) then Ok (record { 0 = entry + offset })
    else Err errors.EntryOverflow

-- what is planned of segments and an entry
abbrev pub elf_planned : List Segment → GuestAddress → Option ℕ → Planned
elf_planned segments entry pvh = record {
  segments = segments;
  result = record {
    kernel_load = entry;
    kernel_end = highest_end segments;
    runtime_area = None;
    setup_header = None;
    pvh_boot_cap = capability pvh;
  };
}

-- the segments that program headers name, of which there has to be one
abbrev pub some_segments : ℕ → ℕ → List ProgramHeader → Result (List Segment) LoaderError
some_segments size offset headers = and_then (segments_of size offset headers) some_segment

-- what is to be loaded of a file with this header, at N addresses above where it says
unfoldable pub elf_named : List ℕ → ℕ → ElfHeader → Result Planned LoaderError
elf_named all offset h = let headers = headers_in all h in
    and_then (some_segments (length all) offset headers) (λ segments.
    and_then (entry_at h.entry offset) (λ entry.
    and_then (pvh_entry all headers) (λ pvh. Ok (elf_planned segments entry pvh))))

-- what is to be loaded of a file
unfoldable pub elf_plan : List ℕ → ℕ → ℕ → Result Planned LoaderError
elf_plan all offset lowest = and_then (elf_header all lowest) (λ h. elf_named all offset h)
