-- The answers that stand for the replies of a script.
use Rattle.std.specs.Prelude.{ℕ, Bool, true, false, List, [], ◌++◌, length, flat_map, Result, Ok, Err}
use Rattle.std.specs.Int.{w64, to_le_bytes}
use Rattle.std.specs.declared.io.ErrorKind.{ErrorKind}
use Rattle.std.specs.declared.io.ErrorKind.TheVariants.{Interrupted, WriteZero, UnexpectedEof}
use Rattle.vm_memory_base.specs.Table.{Range}
use Rattle.vm_memory_base.specs.declared.iotlb.lookup.MappedRange.{MappedRange}
use Rattle.vm_memory_base.specs.declared.iotlb.Reason.{Reason}
use Rattle.vm_memory_base.specs.declared.iotlb.Reason.TheVariants.{MissingMapping, AccessNotAllowed, NotConfigured}
use Rattle.vm_memory_base.specs.declared.iotlb.IommuError as errors
use Rattle.vm_memory_base.specs.declared.iotlb.IommuError.TheVariants as error
use Rattle.vm_memory.specs.declared.machine.command.Ending as endings
use Rattle.vm_memory.specs.declared.machine.command.Ending.TheVariants as ending
use Rattle.vm_memory.specs.declared.machine.command.Fault as faults
use Rattle.vm_memory.specs.declared.machine.command.Fault.TheVariants as fault
use Rattle.vm_memory.specs.declared.machine.command.Reply as replies
use Rattle.vm_memory.specs.declared.machine.command.Reply.TheVariants as reply
use Rattle.vm_memory.specs.declared.machine.setup.GiveBackError.{GiveBackError}
use Rattle.vm_memory.specs.declared.machine.setup.GiveBackError.TheVariants as give
use Rattle.vm_memory.specs.declared.machine.setup.SetupReply as setups
use Rattle.vm_memory.specs.declared.machine.setup.SetupReply.TheVariants as setup
use Rattle.vm_session.specs.Codes.{coded, no_memory}
use Rattle.vm_session.specs.Words.{row_bytes}
use Rattle.vm_session.specs.declared.call.Answer.{Answer}

-- how many bytes moved, or how many items are listed
abbrev pub counted : ℕ → Answer
counted n = record { code = 0; count = n; value = 0; address = 0 }

-- the number of what was made, or a value that was loaded
abbrev pub valued : ℕ → Answer
valued n = record { code = 0; count = 0; value = n; address = 0 }

abbrev pub code_of_kind : ErrorKind → ℕ
code_of_kind Interrupted = 33
code_of_kind WriteZero = 34
code_of_kind UnexpectedEof = 35
code_of_kind kind = 36

-- if a translation is refused, and if an IOMMU is misconfigured
abbrev pub code_of_reason : Reason → ℕ
code_of_reason MissingMapping = 42
code_of_reason AccessNotAllowed = 43
code_of_reason NotConfigured = 44

abbrev pub code_of_fault : Reason → ℕ
code_of_fault MissingMapping = 46
code_of_fault AccessNotAllowed = 47
code_of_fault NotConfigured = 48

-- why a translation was refused
abbrev pub answer_of_error : errors.IommuError → Answer
answer_of_error (error.CannotResolve range reason) =
    record { code = code_of_reason reason; count = 0; value = range.length; address = range.base.0 }
answer_of_error (error.Fragmented range continuous) =
    record { code = 45; count = continuous; value = range.length; address = range.base.0 }
answer_of_error (error.IommuMisconfigured reason) = coded (code_of_fault reason)
answer_of_error error.Memory = coded 49

-- why a call was refused
abbrev pub answer_of_fault : faults.Fault → Answer
answer_of_fault (fault.InvalidGuestAddress addr) = record { code = 32; count = 0; value = 0; address = addr.0 }
answer_of_fault (fault.IOError kind) = coded (code_of_kind kind)
answer_of_fault (fault.PartialBuffer expected completed) =
    record { code = 37; count = completed; value = expected; address = 0 }
answer_of_fault fault.InvalidBackendAddress = coded 38
answer_of_fault fault.HostAddressNotAvailable = coded 39
answer_of_fault fault.CallbackOutOfRange = coded 40
answer_of_fault fault.GuestAddressOverflow = coded 41
answer_of_fault (fault.IommuError e) = answer_of_error e
answer_of_fault fault.NoMemoryRegion = coded 50
answer_of_fault fault.MemoryRegionOverlap = coded 51
answer_of_fault fault.UnsortedMemoryRegions = coded 52

-- how a transfer to a sink ended
abbrev pub answer_of_ending : endings.Ending → Answer
answer_of_ending (ending.Count n) = counted n
answer_of_ending ending.Done = coded 0
answer_of_ending (ending.Fault f) = answer_of_fault f

abbrev pub number_of_truth : Bool → ℕ
number_of_truth true = 1
number_of_truth false = 0

-- what is answered if a command replies so. Of a transfer to a sink `count` is how many bytes it took
abbrev pub answer_of : replies.Reply → Answer
answer_of (reply.Layout number) = valued number
answer_of (reply.MemoryMade number) = valued number
answer_of reply.Done = coded 0
answer_of (reply.Count n) = counted n
answer_of (reply.Value value) = valued value
answer_of (reply.Truth truth) = valued (number_of_truth truth)
answer_of (reply.Bytes bytes) = counted (length bytes)
answer_of (reply.Sent end taken) = record (answer_of_ending end) { count = length taken }
answer_of (reply.Pages pages) = counted (length pages)
answer_of (reply.Pieces pieces) = counted (length pieces)
answer_of (reply.Fails fails) =
    record { code = 4; count = length fails.misses; value = length fails.access_fails; address = 0 }
answer_of (reply.Fault f) = answer_of_fault f
answer_of reply.NoSuch = coded 1
answer_of reply.BadRange = coded 2
answer_of reply.Memory = no_memory

-- the bytes that go to the output with it
abbrev pub bytes_of_ranges : List Range → List ℕ
bytes_of_ranges ranges = flat_map (λ r. row_bytes r.base r.len) ranges

abbrev pub bytes_of_pieces : List MappedRange → List ℕ
bytes_of_pieces pieces = flat_map (λ p. row_bytes p.base.0 p.length) pieces

abbrev pub bytes_of : replies.Reply → List ℕ
bytes_of (reply.Bytes bytes) = bytes
bytes_of (reply.Sent end taken) = taken
bytes_of (reply.Pages pages) = flat_map (to_le_bytes w64) pages
bytes_of (reply.Pieces pieces) = bytes_of_pieces pieces
bytes_of (reply.Fails fails) = bytes_of_ranges fails.misses ++ bytes_of_ranges fails.access_fails
bytes_of r = []

-- what is answered if a setup line replies so
abbrev pub answer_of_setup : setups.SetupReply → Answer
answer_of_setup (setup.BlockMade number) = valued number
answer_of_setup (setup.SpaceMade number) = valued number
answer_of_setup (setup.TableMade number) = valued number
answer_of_setup (setup.RegionMade number) = valued number
answer_of_setup (setup.TranslatorMade number) = valued number
answer_of_setup setup.InvalidSize = coded 5
answer_of_setup setup.InvalidRegion = coded 6
answer_of_setup setup.NoSuch = coded 1
answer_of_setup setup.Memory = no_memory

-- the answer to a call that gives a block back
abbrev pub answer_of_given_back : Result (Unit {0}) GiveBackError → Answer
answer_of_given_back (Ok done) = coded 0
answer_of_given_back (Err give.NoSuch) = coded 1
answer_of_given_back (Err give.InUse) = coded 7
answer_of_given_back (Err give.Memory) = no_memory
