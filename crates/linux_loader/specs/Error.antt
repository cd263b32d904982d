-- The errors of accesses, as those of a loader.
use Rattle.std.specs.Prelude.{Result, Ok, Err}
use Rattle.vm_memory_guest.specs.declared.region.error.GuestMemoryError.{GuestMemoryError}
use Rattle.vm_memory_guest.specs.declared.region.error.GuestMemoryError.TheVariants as errors
use Rattle.linux_loader.specs.declared.error.LoaderError.{LoaderError}
use Rattle.linux_loader.specs.declared.error.LoaderError.TheVariants.{GuestMemory, Memory}

-- a failed allocation stays one, and every other error is one of the access
abbrev pub of_access : GuestMemoryError → LoaderError
of_access errors.Memory = Memory
of_access (errors.InvalidGuestAddress addr) = GuestMemory (errors.InvalidGuestAddress addr)
of_access (errors.IOError kind) = GuestMemory (errors.IOError kind)
of_access (errors.PartialBuffer expected completed) = GuestMemory (errors.PartialBuffer expected completed)
of_access errors.InvalidBackendAddress = GuestMemory errors.InvalidBackendAddress
of_access errors.HostAddressNotAvailable = GuestMemory errors.HostAddressNotAvailable
of_access errors.CallbackOutOfRange = GuestMemory errors.CallbackOutOfRange
of_access errors.GuestAddressOverflow = GuestMemory errors.GuestAddressOverflow
of_access (errors.IommuError e) = GuestMemory (errors.IommuError e)

-- the result of an access, with its error as one of a loader
abbrev pub told : {T : Type 0} → Result T GuestMemoryError → Result T LoaderError
told (Ok x) = Ok x
told (Err e) = Err (of_access e)

-- what comes of a result: of a value what is made of it, and an error stays
abbrev pub and_then : {S T E : Type 0} → Result S E → (S → Result T E) → Result T E
and_then (Ok x) f = f x
and_then (Err e) f = Err e
