-- The errors of guest memory that name faults, and those of windows.
use Rattle.vm_memory_base.specs.declared.io.VolatileMemoryError.{VolatileMemoryError}
use Rattle.vm_memory_base.specs.declared.io.VolatileMemoryError.TheVariants.{OutOfBounds, Overflow, TooBig, Misaligned}
use Rattle.vm_memory_base.specs.declared.io.VolatileMemoryError.TheVariants as window
use Rattle.vm_memory_base.specs.declared.iotlb.IommuError.TheVariants.{CannotResolve}
use Rattle.vm_memory_guest.specs.Access.{AccessFault, NoRegion, NoHostBytes, Refused}
use Rattle.vm_memory_guest.specs.declared.region.error.GuestMemoryError.{GuestMemoryError}
use Rattle.vm_memory_guest.specs.declared.region.error.GuestMemoryError.TheVariants.{IOError, InvalidBackendAddress, InvalidGuestAddress, HostAddressNotAvailable, IommuError, PartialBuffer, Memory}

-- the error that stands for a fault
abbrev pub error_of : AccessFault → GuestMemoryError
error_of (NoRegion a) = InvalidGuestAddress (record { 0 = a })
error_of NoHostBytes = HostAddressNotAvailable
error_of (Refused iova len reason) =
    IommuError (CannotResolve (record { base = record { 0 = iova }; length = len }) reason)

-- an access that does not fit its window does not fit the region
abbrev pub of_window : VolatileMemoryError → GuestMemoryError
of_window (OutOfBounds addr) = InvalidBackendAddress
of_window (Overflow base offset) = InvalidBackendAddress
of_window (TooBig nelements size) = InvalidBackendAddress
of_window (Misaligned addr alignment) = InvalidBackendAddress
of_window (window.IOError kind) = IOError kind
of_window (window.PartialBuffer expected completed) = PartialBuffer expected completed
of_window window.Memory = Memory
