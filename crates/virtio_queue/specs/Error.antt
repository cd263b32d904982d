-- The errors of accesses, as those of a queue.
use Rattle.vm_memory_guest.specs.declared.region.error.GuestMemoryError.{GuestMemoryError}
use Rattle.vm_memory_guest.specs.declared.region.error.GuestMemoryError.TheVariants as errors
use Rattle.virtio_queue.specs.declared.error.QueueError.{QueueError}
use Rattle.virtio_queue.specs.declared.error.QueueError.TheVariants.{GuestMemory, Memory}

-- a failed allocation stays one, and every other error is one of the access
abbrev pub of_access : GuestMemoryError → QueueError
of_access errors.Memory = Memory
of_access (errors.InvalidGuestAddress addr) = GuestMemory (errors.InvalidGuestAddress addr)
of_access (errors.IOError kind) = GuestMemory (errors.IOError kind)
of_access (errors.PartialBuffer expected completed) = GuestMemory (errors.PartialBuffer expected completed)
of_access errors.InvalidBackendAddress = GuestMemory errors.InvalidBackendAddress
of_access errors.HostAddressNotAvailable = GuestMemory errors.HostAddressNotAvailable
of_access errors.CallbackOutOfRange = GuestMemory errors.CallbackOutOfRange
of_access errors.GuestAddressOverflow = GuestMemory errors.GuestAddressOverflow
of_access (errors.IommuError e) = GuestMemory (errors.IommuError e)
