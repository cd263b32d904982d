-- What a machine replies to calls, and what accesses reply and leave.
use Rattle.std.specs.Prelude.{ℕ, Bool, true, false, List, length, Result, Ok, Err, option_map}
use Rattle.vm_memory_base.specs.Pages.{PageSet}
use Rattle.vm_memory_base.specs.declared.iotlb.Permissions.{Permissions}
use Rattle.vm_memory_base.specs.declared.iotlb.Permissions.TheVariants as permissions
use Rattle.vm_memory_guest.specs.Host.{Host}
use Rattle.vm_memory_guest.specs.Memory.{Memory}
use Rattle.vm_memory_guest.specs.Access.{Access}
use Rattle.vm_memory_guest.specs.Dirt.{after_write, bytes_read}
use Rattle.vm_memory_guest.specs.Error.{error_of}
use Rattle.vm_memory_guest.specs.Queries.{is_whole}
use Rattle.vm_memory_guest.specs.Transfer.{all_of, ended}
use Rattle.vm_memory_guest.specs.declared.region.error.GuestMemoryError.{GuestMemoryError}
use Rattle.vm_memory_guest.specs.declared.region.error.GuestMemoryError.TheVariants as errors
use Rattle.vm_memory_guest.specs.declared.region.error.GuestRegionCollectionError.{GuestRegionCollectionError}
use Rattle.vm_memory_guest.specs.declared.region.error.GuestRegionCollectionError.TheVariants as layouts
use Rattle.vm_memory_device.specs.Reach.{reached_by}
use Rattle.vm_memory.specs.declared.machine.command.Reply.{Reply}
use Rattle.vm_memory.specs.declared.machine.command.Reply.TheVariants as reply
use Rattle.vm_memory.specs.declared.machine.command.Fault as faults
use Rattle.vm_memory.specs.declared.machine.command.Reply.TheVariants.{Count, Bytes, Truth, Done, Fault}
use Rattle.vm_memory.specs.declared.machine.command.Fault.TheVariants as fault
use Rattle.vm_memory.specs.declared.machine.refusal.Refusal.{Refusal}
use Rattle.vm_memory.specs.declared.machine.refusal.Refusal.TheVariants as refusal

-- an error of an access: a failed allocation stays one, and every other error is the fault of its name
abbrev pub refusal_of : GuestMemoryError → Refusal
refusal_of (errors.InvalidGuestAddress addr) = refusal.Fault (fault.InvalidGuestAddress addr)
refusal_of (errors.IOError kind) = refusal.Fault (fault.IOError kind)
refusal_of (errors.PartialBuffer expected completed) = refusal.Fault (fault.PartialBuffer expected completed)
refusal_of errors.InvalidBackendAddress = refusal.Fault fault.InvalidBackendAddress
refusal_of errors.HostAddressNotAvailable = refusal.Fault fault.HostAddressNotAvailable
refusal_of errors.CallbackOutOfRange = refusal.Fault fault.CallbackOutOfRange
refusal_of errors.GuestAddressOverflow = refusal.Fault fault.GuestAddressOverflow
refusal_of (errors.IommuError e) = refusal.Fault (fault.IommuError e)
refusal_of errors.Memory = refusal.Memory

-- the reply to a command whose call was refused
abbrev pub reply_of_refusal : Refusal → Reply
reply_of_refusal refusal.NoSuch = reply.NoSuch
reply_of_refusal refusal.BadRange = reply.BadRange
reply_of_refusal refusal.Memory = reply.Memory
reply_of_refusal (refusal.Fault f) = Fault f

abbrev pub reply_of_error : GuestMemoryError → Reply
reply_of_error e = reply_of_refusal (refusal_of e)

-- the reply to a command whose call returns so: what stands for its result, or its refusal
abbrev pub replied : {T : Type 0} → (T → Reply) → Result T Refusal → Reply
replied told (Ok given) = told given
replied told (Err r) = reply_of_refusal r

-- the reply to a call that gives nothing
abbrev pub as_done : Unit {0} → Reply
as_done u = Done

-- the result of an access, with its error as a refusal
abbrev pub refused_as : {T : Type 0} → Result T GuestMemoryError → Result T Refusal
refused_as (Ok given) = Ok given
refused_as (Err e) = Err (refusal_of e)

-- whether a fault is one of an access that may have moved bytes: fewer than it was to move, or those up to where
-- a source failed
abbrev pub is_partial : faults.Fault → Bool
is_partial (fault.PartialBuffer expected completed) = true
is_partial (fault.IOError kind) = true
is_partial f = false

-- an error of regions that make no layout, likewise
abbrev pub refusal_of_layout : GuestRegionCollectionError → Refusal
refusal_of_layout layouts.NoMemoryRegion = refusal.Fault fault.NoMemoryRegion
refusal_of_layout layouts.MemoryRegionOverlap = refusal.Fault fault.MemoryRegionOverlap
refusal_of_layout layouts.UnsortedMemoryRegions = refusal.Fault fault.UnsortedMemoryRegions
refusal_of_layout layouts.Memory = refusal.Memory

abbrev pub reply_of_layout_error : GuestRegionCollectionError → Reply
reply_of_layout_error e = reply_of_refusal (refusal_of_layout e)

-- the reply to an access: what stands for its result, or its error
abbrev pub reply_of : {T : Type 0} → (T → Reply) → Result T GuestMemoryError → Reply
reply_of told (Ok given) = told given
reply_of told (Err e) = reply_of_error e

-- how many bytes an access reached, or the error if it reached none
abbrev pub access_result : Access → Result ℕ GuestMemoryError
access_result reached = ended (length reached.path) (option_map error_of reached.fault)

-- if all of n bytes are wanted, fewer are an error
abbrev pub all_moved : ℕ → Result ℕ GuestMemoryError → Result (Unit {0}) GuestMemoryError
all_moved n answer = all_of (λ expected completed. errors.PartialBuffer expected completed) n answer

-- a call that moves n bytes replies how many were moved, or that all were
abbrev pub moved_as : Bool → ℕ → Result ℕ GuestMemoryError → Reply
moved_as false n answer = reply_of Count answer
moved_as true n answer = reply_of (λ done. Done) (all_moved n answer)

-- a read replies the bytes of its path
abbrev pub reads : Memory → Host PageSet → ℕ → ℕ → Reply
reads m host a n =
    let reached = reached_by m host.tables a n permissions.Read in
    reply_of (λ count. Bytes (bytes_read reached.path host)) (access_result reached)

-- a read of all bytes replies those of its path, if it reached all
abbrev pub reads_whole : Memory → Host PageSet → ℕ → ℕ → Reply
reads_whole m host a n =
    let reached = reached_by m host.tables a n permissions.Read in
    reply_of (λ done. Bytes (bytes_read reached.path host)) (all_moved n (access_result reached))

-- a check replies whether an access would reach all of its n bytes
abbrev pub checks : Memory → Host PageSet → ℕ → ℕ → Permissions → Reply
checks m host a n access = Truth (is_whole (reached_by m host.tables a n access).path n)

-- a write, of all bytes or of those that it reaches, leaves the bytes and their dirt in its path: it is empty if
-- the write was refused
abbrev pub writes : Bool → Memory → Host PageSet → ℕ → List ℕ → Reply × Host PageSet
writes whole m host a bytes =
    let n = length bytes in
    let reached = reached_by m host.tables a n permissions.Write in
    (moved_as whole n (access_result reached), after_write reached.path bytes host)
