-- The texts of replies, as bytes.
use Rattle.std.specs.Prelude.{ℕ, ◌<◌, ◌^◌, ◌/◌, ◌%◌, ◌++◌, Bool, true, false, List, [], ◌∷◌, map, flat_map, codes}
use Rattle.std.specs.List.{AllByRecursion}
use Rattle.std.specs.Fmt.{decimal, digits, digit_glyph}
use Rattle.std.specs.declared.io.ErrorKind.{ErrorKind}
use Rattle.std.specs.declared.io.ErrorKind.TheVariants.{Interrupted, WriteZero, UnexpectedEof, Other}
use Rattle.vm_memory_base.specs.Table.{Range}
use Rattle.vm_memory_base.specs.declared.iotlb.lookup.MappedRange.{MappedRange}
use Rattle.vm_memory_base.specs.declared.iotlb.Reason.{Reason}
use Rattle.vm_memory_base.specs.declared.iotlb.Reason.TheVariants.{MissingMapping, AccessNotAllowed, NotConfigured}
use Rattle.vm_memory_base.specs.declared.iotlb.IommuError as errors
use Rattle.vm_memory_base.specs.declared.iotlb.IommuError.TheVariants as error
use Rattle.vm_memory.specs.declared.machine.command.Fault as faults
use Rattle.vm_memory.specs.declared.machine.command.Fault.TheVariants as fault
use Rattle.vm_memory.specs.declared.machine.command.Ending as endings
use Rattle.vm_memory.specs.declared.machine.command.Ending.TheVariants as ending
use Rattle.vm_memory.specs.declared.machine.command.Reply as replies
use Rattle.vm_memory.specs.declared.machine.command.Reply.TheVariants as reply
use Rattle.vm_memory.specs.declared.machine.setup.SetupReply as setups
use Rattle.vm_memory.specs.declared.machine.setup.SetupReply.TheVariants as setup

-- a number in hexadecimal: lower case, without leading zeros
abbrev pub hexadecimal : ℕ → List ℕ
hexadecimal n = codes "0x" ++ digits 16 false n

-- a byte as two hexadecimal digits
abbrev pub two_digits : ℕ → List ℕ
two_digits b = digit_glyph false (b / 16) ∷ digit_glyph false (b % 16) ∷ []

-- bytes, or a dash for none
abbrev pub text_of_bytes : List ℕ → List ℕ
text_of_bytes [] = codes "-"
text_of_bytes (b ∷ bytes) = flat_map two_digits (b ∷ bytes)

abbrev pub after_space : List ℕ → List ℕ
after_space text = codes " " ++ text

-- texts with one space between any two, or a dash for none
abbrev pub spaced : List (List ℕ) → List ℕ
spaced [] = codes "-"
spaced (text ∷ texts) = text ++ flat_map after_space texts

-- a range of addresses
abbrev pub text_of_range : ℕ → ℕ → List ℕ
text_of_range base length = hexadecimal base ++ codes "+" ++ hexadecimal length

abbrev pub text_of_piece : MappedRange → List ℕ
text_of_piece piece = text_of_range piece.base.0 piece.length

abbrev pub text_of_ranges : List Range → List ℕ
text_of_ranges ranges = spaced (map (λ (r : Range). text_of_range r.base r.len) ranges)

abbrev pub text_of_truth : Bool → List ℕ
text_of_truth true = codes "true"
text_of_truth false = codes "false"

-- the kinds of I/O errors that a script can meet; every other is Other
abbrev pub text_of_kind : ErrorKind → List ℕ
text_of_kind Interrupted = codes "Interrupted"
text_of_kind WriteZero = codes "WriteZero"
text_of_kind UnexpectedEof = codes "UnexpectedEof"
text_of_kind kind = codes "Other"

abbrev pub text_of_reason : Reason → List ℕ
text_of_reason MissingMapping = codes "missing"
text_of_reason AccessNotAllowed = codes "access"
text_of_reason NotConfigured = codes "configuration"

-- why a translation was refused
abbrev pub text_of_refusal : errors.IommuError → List ℕ
text_of_refusal (error.CannotResolve range reason) =
    codes "I1 " ++ text_of_range range.base.0 range.length ++ codes " " ++ text_of_reason reason
text_of_refusal (error.Fragmented range length) =
    codes "I2 " ++ text_of_range range.base.0 range.length ++ codes " " ++ decimal length
text_of_refusal (error.IommuMisconfigured reason) = codes "I3 " ++ text_of_reason reason
text_of_refusal error.Memory = codes "I4"

-- why a call was refused
abbrev pub text_of_fault : faults.Fault → List ℕ
text_of_fault (fault.InvalidGuestAddress addr) = codes "G1 " ++ hexadecimal addr.0
text_of_fault (fault.IOError kind) = codes "G2 " ++ text_of_kind kind
text_of_fault (fault.PartialBuffer expected completed) =
    codes "G3 " ++ decimal expected ++ codes " " ++ decimal completed
text_of_fault fault.InvalidBackendAddress = codes "G4"
text_of_fault fault.HostAddressNotAvailable = codes "G5"
text_of_fault fault.CallbackOutOfRange = codes "G6"
text_of_fault fault.GuestAddressOverflow = codes "G7"
text_of_fault (fault.IommuError e) = codes "G8 " ++ text_of_refusal e
text_of_fault fault.NoMemoryRegion = codes "C1"
text_of_fault fault.MemoryRegionOverlap = codes "C2"
text_of_fault fault.UnsortedMemoryRegions = codes "C3"

-- how a transfer to a sink ended
abbrev pub text_of_ending : endings.Ending → List ℕ
text_of_ending (ending.Count count) = codes "count " ++ decimal count
text_of_ending ending.Done = codes "ok"
text_of_ending (ending.Fault f) = codes "error " ++ text_of_fault f

-- the reply to a command
abbrev pub text_of : replies.Reply → List ℕ
text_of (reply.Layout number) = codes "layout " ++ decimal number
text_of (reply.MemoryMade number) = codes "memory " ++ decimal number
text_of reply.Done = codes "ok"
text_of (reply.Count count) = codes "count " ++ decimal count
text_of (reply.Value value) = codes "value " ++ decimal value
text_of (reply.Truth truth) = text_of_truth truth
text_of (reply.Bytes bytes) = codes "bytes " ++ text_of_bytes bytes
text_of (reply.Sent end taken) = codes "sent " ++ text_of_ending end ++ codes " taken " ++ text_of_bytes taken
text_of (reply.Pages pages) = codes "pages " ++ spaced (map decimal pages)
text_of (reply.Pieces pieces) = codes "pieces " ++ spaced (map text_of_piece pieces)
text_of (reply.Fails fails) = codes "fails misses " ++ text_of_ranges fails.misses
    ++ codes " access " ++ text_of_ranges fails.access_fails
text_of (reply.Fault f) = codes "error " ++ text_of_fault f
text_of reply.NoSuch = codes "error NoSuch"
text_of reply.BadRange = codes "error BadRange"
text_of reply.Memory = codes "error Memory"

-- the reply to a setup line
abbrev pub text_of_setup : setups.SetupReply → List ℕ
text_of_setup (setup.BlockMade number) = codes "block " ++ decimal number
text_of_setup (setup.SpaceMade number) = codes "space " ++ decimal number
text_of_setup (setup.TableMade number) = codes "table " ++ decimal number
text_of_setup (setup.RegionMade number) = codes "region " ++ decimal number
text_of_setup (setup.TranslatorMade number) = codes "translator " ++ decimal number
text_of_setup setup.InvalidSize = codes "error M1"
text_of_setup setup.InvalidRegion = codes "error F3"
text_of_setup setup.NoSuch = codes "error NoSuch"
text_of_setup setup.Memory = codes "error Memory"

-- what a script can print: numbers of 64 bits, bytes, and the kinds of I/O errors that it can meet
abbrev pub IsMet : ErrorKind → Type 0
IsMet Interrupted = Unit {0}
IsMet WriteZero = Unit {0}
IsMet UnexpectedEof = Unit {0}
IsMet Other = Unit {0}
IsMet kind = ⊥

abbrev pub CanRefuse : errors.IommuError → Type 0
CanRefuse (error.CannotResolve range reason) = (range.base.0 < 2 ^ 64) × (range.length < 2 ^ 64)
CanRefuse (error.Fragmented range length) =
    (range.base.0 < 2 ^ 64) × (range.length < 2 ^ 64) × (length < 2 ^ 64)
CanRefuse e = Unit {0}

abbrev pub CanFault : faults.Fault → Type 0
CanFault (fault.InvalidGuestAddress addr) = addr.0 < 2 ^ 64
CanFault (fault.IOError kind) = IsMet kind
CanFault (fault.PartialBuffer expected completed) = (expected < 2 ^ 64) × (completed < 2 ^ 64)
CanFault (fault.IommuError e) = CanRefuse e
CanFault f = Unit {0}

abbrev pub CanEnd : endings.Ending → Type 0
CanEnd (ending.Count count) = count < 2 ^ 64
CanEnd ending.Done = Unit {0}
CanEnd (ending.Fault f) = CanFault f

abbrev pub CanTell : replies.Reply → Type 0
CanTell (reply.Layout number) = number < 2 ^ 64
CanTell (reply.MemoryMade number) = number < 2 ^ 64
CanTell (reply.Count count) = count < 2 ^ 64
CanTell (reply.Value value) = value < 2 ^ 64
CanTell (reply.Bytes bytes) = AllByRecursion (λ b. b < 256) bytes
CanTell (reply.Sent end taken) = CanEnd end × AllByRecursion (λ b. b < 256) taken
CanTell (reply.Pages pages) = AllByRecursion (λ page. page < 2 ^ 64) pages
CanTell (reply.Pieces pieces) =
    AllByRecursion (λ (p : MappedRange). (p.base.0 < 2 ^ 64) × (p.length < 2 ^ 64)) pieces
CanTell (reply.Fails fails) = AllByRecursion (λ (r : Range). (r.base < 2 ^ 64) × (r.len < 2 ^ 64)) fails.misses
    × AllByRecursion (λ (r : Range). (r.base < 2 ^ 64) × (r.len < 2 ^ 64)) fails.access_fails
CanTell (reply.Fault f) = CanFault f
CanTell reply = Unit {0}

abbrev pub CanTellSetup : setups.SetupReply → Type 0
CanTellSetup (setup.BlockMade number) = number < 2 ^ 64
CanTellSetup (setup.SpaceMade number) = number < 2 ^ 64
CanTellSetup (setup.TableMade number) = number < 2 ^ 64
CanTellSetup (setup.RegionMade number) = number < 2 ^ 64
CanTellSetup (setup.TranslatorMade number) = number < 2 ^ 64
CanTellSetup reply = Unit {0}
