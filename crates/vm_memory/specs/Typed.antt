-- What a machine replies to stores and loads of values, and what these leave.
use Rattle.std.specs.Prelude.{ℕ, ◌^◌, Bool, nat_lt, if◌then◌else◌, List, length, Result}
use Rattle.std.specs.Int as int
use Rattle.std.specs.Int.{w8, w16, w32, w64, byte_len, to_le_bytes, from_le_bytes}
use Rattle.vm_memory_base.specs.Pages.{PageSet}
use Rattle.vm_memory_base.specs.Table.{Table}
use Rattle.vm_memory_base.specs.declared.iotlb.Permissions.{Permissions}
use Rattle.vm_memory_base.specs.declared.iotlb.Permissions.TheVariants as permissions
use Rattle.vm_memory_guest.specs.Access.{Reached}
use Rattle.vm_memory_guest.specs.Dirt.{after_write, bytes_read}
use Rattle.vm_memory_guest.specs.Host.{Host}
use Rattle.vm_memory_guest.specs.Memory.{Memory}
use Rattle.vm_memory_guest.specs.Typed.{path_given, typed_path}
use Rattle.vm_memory_guest.specs.declared.region.error.GuestMemoryError.{GuestMemoryError}
use Rattle.vm_memory_device.specs.Reach.{reached_by}
use Rattle.vm_memory.specs.Reply.{reply_of}
use Rattle.vm_memory.specs.declared.machine.command.Reply.{Reply}
use Rattle.vm_memory.specs.declared.machine.command.Reply.TheVariants.{Done, Value, BadRange}
use Rattle.vm_memory.specs.declared.machine.command.Width.{Width}
use Rattle.vm_memory.specs.declared.machine.command.Width.TheVariants.{One, Two, Four, Eight}

-- the unsigned integers of a width
abbrev pub integer_of : Width → int.Width
integer_of One = w8
integer_of Two = w16
integer_of Four = w32
integer_of Eight = w64

-- whether a value is one of these integers
abbrev pub fits_width : int.Width → ℕ → Bool
fits_width w value = nat_lt value (256 ^ byte_len w)

-- the bytes of a memory that a load or a store of n bytes at a takes, or why there are none
abbrev pub taken_by : Memory → List Table → ℕ → ℕ → Permissions → Result (List Reached) GuestMemoryError
taken_by m tables a n access = typed_path n (reached_by m tables a n access)

-- a load replies the value of the bytes that it takes, the lowest first
abbrev pub loads : Memory → Host PageSet → ℕ → int.Width → Reply
loads m host a w =
    reply_of (λ xs. Value (from_le_bytes w (bytes_read xs host)))
    (taken_by m host.tables a (byte_len w) permissions.Read)

-- a store of bytes leaves them, and their dirt, if it takes as many
abbrev pub stores_bytes : Memory → Host PageSet → ℕ → List ℕ → Reply × Host PageSet
stores_bytes m host a bytes =
    let taken = taken_by m host.tables a (length bytes) permissions.Write in
    (reply_of (λ xs. Done) taken, after_write (path_given taken) bytes host)

-- a store of a value is that of its bytes, the lowest first, if it fits the width
abbrev pub stores : Memory → Host PageSet → ℕ → int.Width → ℕ → Reply × Host PageSet
stores m host a w value =
    if fits_width w value then stores_bytes m host a (to_le_bytes w value) else (BadRange, host)
