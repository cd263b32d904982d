-- The notes of an ELF file, and Xen's among them, which gives the PVH entry.
use Rattle.std.specs.Prelude.{ℕ, zero, suc, ◌+◌, ◌-◌, ◌*◌, ◌/◌, nat_lt, Bool, not, ◌&&◌, ◌||◌, ◌==◌, if◌then◌else◌, List, drop, length, Option, Some, None, Result, Ok, Err}
use Rattle.linux_loader.specs.Error.{and_then}
use Rattle.linux_loader.specs.Numbers.{field}
use Rattle.linux_loader.specs.declared.elf.notes.Note.{Note}
use Rattle.linux_loader.specs.declared.error.LoaderError.{LoaderError}
use Rattle.linux_loader.specs.declared.error.LoaderError.TheVariants as errors

-- a number padded to a multiple of another
abbrev pub padded : ℕ → ℕ → ℕ
padded n align = (n + (align - 1)) / align * align

-- a note has the sizes of its name and its descriptor and its kind, 4 bytes each, and then both, each padded
abbrev pub descriptor_place : ℕ → List ℕ → ℕ
descriptor_place align note = padded (12 + field 4 0 note) align

abbrev pub note_size : ℕ → List ℕ → ℕ
note_size align note = padded (descriptor_place align note + field 4 4 note) align

-- whether a note is of the PVH entry: of kind 18, and with the name "Xen" and its terminating zero
abbrev pub is_pvh : List ℕ → Bool
is_pvh note = field 4 8 note == 18 && field 4 0 note == 4 && field 4 12 note == 0x006e6558

-- the number in a descriptor of N bytes at a place
abbrev pub number_in : ℕ → ℕ → List ℕ → Result ℕ LoaderError
number_in size at note = if size == 4 then Ok (field 4 at note)
    else if size == 8 then Ok (field 8 at note)
    else Err errors.InvalidPvhNote

abbrev pub note_of : ℕ → List ℕ → Result Note LoaderError
note_of align notes =
    if nat_lt (length notes) (descriptor_place align notes + field 4 4 notes) then Err errors.InvalidNote
    else if not (is_pvh notes) then Ok (record { entry = None; size = note_size align notes })
    else and_then (number_in (field 4 4 notes) (descriptor_place align notes) notes) (λ e. Ok (record {
      entry =
          Some e;
      size = note_size align notes;
    }))

-- what is found, or else sought on
abbrev pub or_else : Option ℕ → Result (Option ℕ) LoaderError → Result (Option ℕ) LoaderError
or_else None more = more
or_else (Some e) more = Ok (Some e)

-- the entry among at most N notes. They end when fewer than 12 bytes are left
unfoldable pub entry_in : ℕ → ℕ → List ℕ → Result (Option ℕ) LoaderError
entry_in zero align notes = Ok None
entry_in (suc most) align notes = if nat_lt (length notes) 12 then Ok None
    else and_then (note_of align notes) (λ note.
    or_else note.entry (entry_in most align (drop note.size notes)))

-- the alignment that a program header gives: 0 and 1 are 4
abbrev pub note_align : ℕ → Result ℕ LoaderError
note_align align = if align == 0 || align == 1 || align == 4 then Ok 4
    else if align == 8 then Ok 8 else Err errors.InvalidNoteAlign
