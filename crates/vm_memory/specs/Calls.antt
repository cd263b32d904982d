-- What the calls of a machine return and leave, beyond what their commands say.
use Rattle.std.specs.Prelude.{◌≡◌, ◌⊎◌, ℕ, ◌++◌, List, [], map, drop, length, slice_get, true, Option, Some, None, option_map, Result, Err}
use Rattle.std.specs.Int.{byte_len, to_le_bytes, from_le_bytes}
use Rattle.vm_memory_base.specs.Pages.{PageSet}
use Rattle.vm_memory_base.specs.Script.{taking_of}
use Rattle.vm_memory_base.specs.Transfer.{Answer, Sink}
use Rattle.vm_memory_base.specs.declared.io.scripted.SinkStep.{SinkStep}
use Rattle.vm_memory_base.specs.declared.iotlb.Permissions.{Permissions}
use Rattle.vm_memory_base.specs.declared.iotlb.Permissions.TheVariants as permissions
use Rattle.vm_memory_guest.specs.Access.{windows}
use Rattle.vm_memory_guest.specs.Answer.{Reach}
use Rattle.vm_memory_guest.specs.Dirt.{bytes_read}
use Rattle.vm_memory_guest.specs.Error.{error_of, of_window}
use Rattle.vm_memory_guest.specs.Host.{Host}
use Rattle.vm_memory_guest.specs.Memory.{Memory}
use Rattle.vm_memory_guest.specs.Transfer.{Transfers}
use Rattle.vm_memory_guest.specs.Typed.{answered}
use Rattle.vm_memory_guest.specs.Walk.{NeedsPieces}
use Rattle.vm_memory_guest.specs.Window.{Window}
use Rattle.vm_memory_guest.specs.declared.region.error.GuestMemoryError.{GuestMemoryError}
use Rattle.vm_memory_guest.specs.declared.region.error.GuestMemoryError.TheVariants as errors
use Rattle.vm_memory.specs.Commands.{MayTranslate}
use Rattle.vm_memory.specs.Effect.{apply, changes_by}
use Rattle.vm_memory.specs.Machine.{Step, outcome}
use Rattle.vm_memory_device.specs.Reach.{reached_by}
use Rattle.vm_memory.specs.Reply.{refused_as, replied}
use Rattle.vm_memory.specs.State.{State}
use Rattle.vm_memory.specs.Transfers.{beside_taken}
use Rattle.vm_memory.specs.Typed.{fits_width, integer_of, taken_by}
use Rattle.vm_memory.specs.declared.machine.command.Command.{Command}
use Rattle.vm_memory.specs.declared.machine.command.Reply.{Reply}
use Rattle.vm_memory.specs.declared.machine.command.Reply.TheVariants as reply
use Rattle.vm_memory.specs.declared.machine.command.Width.{Width}
use Rattle.vm_memory.specs.declared.machine.refusal.Refusal.{Refusal}
use Rattle.vm_memory.specs.declared.machine.refusal.Refusal.TheVariants as refusal

-- a call that writes n bytes at an address of a memory replies and leaves what is said of the memory of this number and
-- of the host. Or the allocation of the pieces of a translation fails, and nothing changes
abbrev pub WritesOf : State → ℕ → ℕ → ℕ → (Memory → Host PageSet → Reply × Host PageSet) → Reply → State
    → Type 0
WritesOf old memory a n does r new = ((r, new) ≡ apply old (changes_by old memory does))
    ⊎ ((r ≡ reply.Memory) × MayTranslate old memory a n permissions.Write × (new ≡ old))

-- a buffer after the bytes that a read of it reaches came to its front
abbrev pub filled_from : Option Memory → Host PageSet → ℕ → List ℕ → List ℕ
filled_from None host a buffer = buffer
filled_from (Some m) host a buffer =
    let xs = (reached_by m host.tables a (length buffer) permissions.Read).path in
    bytes_read xs host ++ drop (length xs) buffer

abbrev pub buffer_after : State → ℕ → ℕ → List ℕ → List ℕ
buffer_after old memory a buffer = filled_from (slice_get old.memories memory) old.host a buffer

-- a read into a buffer returns what its command replies, and the bytes that it reaches are in the buffer then. Or it
-- wants memory for the pieces of a translation, and the buffer stays
abbrev pub ReadsInto : {T : Type 0} → State → ℕ → ℕ → Command → (T → Reply) → List ℕ → Result T Refusal → List ℕ
    → Type 0
ReadsInto now memory a c told buffer result new =
    (((replied told result, now) ≡ outcome now c) × (new ≡ buffer_after now memory a buffer))
    ⊎ ((result ≡ Err refusal.Memory) × MayTranslate now memory a (length buffer) permissions.Read
    × (new ≡ buffer))

-- what a load of n bytes at a returns: the value of the bytes that it takes, or why there is none
abbrev pub loaded : {T : Type 0} → (List ℕ → T) → Option Memory → Host PageSet → ℕ → ℕ → Result T Refusal
loaded value None host a n = Err refusal.NoSuch
loaded value (Some m) host a n =
    refused_as (answered (λ xs. value (bytes_read xs host)) (taken_by m host.tables a n permissions.Read))

-- a value of these bytes is this number, as an unsigned integer of a width
abbrev pub IsInteger : List ℕ → Width → ℕ → Type 0
IsInteger bytes width value =
    (fits_width (integer_of width) value ≡ true) × (bytes ≡ to_le_bytes (integer_of width) value)

-- values of n bytes are these numbers, as unsigned integers of a width
abbrev pub AreIntegers : {T : Type 0} → ℕ → (List ℕ → T) → Width → (T → ℕ) → Type 0
AreIntegers n value width number = (n ≡ byte_len (integer_of width))
    × ((bytes : List ℕ) → number (value bytes) ≡ from_le_bytes (integer_of width) bytes)

-- what a transfer of n bytes of a memory at a reaches
abbrev pub transfer_reach : Memory → Host PageSet → ℕ → ℕ → Permissions → Reach GuestMemoryError
transfer_reach m host a n access =
    let reached = reached_by m host.tables a n access in
    record { windows = windows reached.path; fault = option_map error_of reached.fault }

-- a transfer of n bytes of a memory of this number moves windows as guest memory does. One of no memory moves nothing
abbrev pub TransfersOf : {T X : Type 0} → Option Memory → Host PageSet → ℕ → ℕ → Permissions
    → (Window → X → Answer → X → Type 0) → (Result ℕ GuestMemoryError → Result T GuestMemoryError) → X
    → Result T Refusal → X → Type 0
TransfersOf None host a n access Moves told old result new = (result ≡ Err refusal.NoSuch) × (new ≡ old)
TransfersOf {T} (Some m) host a n access Moves told old result new =
    (answer : Result T GuestMemoryError) × (result ≡ refused_as answer)
    × Transfers errors.Memory (NeedsPieces m host.tables a n access) of_window (transfer_reach m host a n access)
    Moves told old answer new

-- a sink that keeps what it takes has nothing yet, and does what these steps say, with room for n bytes and without
-- memory
pub record IsEmptySink {S : Type 0} (sink : S → Option Sink) (taken : S → Option (List ℕ)) (wants : S → Type 0)
    (steps : List SinkStep) (n : ℕ) (s : S) : Type 0 where
  pub does : sink s ≡ Some (record { next = map taking_of steps; room = Some n })
  pub empty : taken s ≡ Some []
  pub needs_none : wants s → ⊥

-- a transfer out to a sink that keeps what it takes replies so of what it took. Or it wants memory for the pieces of a
-- translation
abbrev pub SentBy : Reply → Type 0 → Option (List ℕ) → Reply → Type 0
SentBy expected may_want taken r = (bytes : List ℕ) × (taken ≡ Some bytes)
    × ((beside_taken bytes r ≡ expected) ⊎ ((r ≡ reply.Memory) × may_want))

-- as the step of its command
abbrev pub SendsAs : State → Command → Option (List ℕ) → Reply → Type 0
SendsAs now c taken r = (bytes : List ℕ) × (taken ≡ Some bytes) × Step now c (beside_taken bytes r) now
