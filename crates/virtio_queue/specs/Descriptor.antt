-- Descriptors: their flags, and the segment of a chain that one describes.
use Rattle.std.specs.Prelude.{ℕ, Bool, not, ◌==◌, bit_and}
use Rattle.vm_memory_device.specs.declared.chain.Segment.{Segment}
use Rattle.virtio_queue.specs.declared.descriptor.Descriptor.{Descriptor}

-- whether a flag, which is a power of two, is set
abbrev pub has_flag : ℕ → ℕ → Bool
has_flag flags flag = not (bit_and flags flag == 0)

-- there is a next descriptor; the device writes the segment; the segment is an indirect table
abbrev pub has_next : Descriptor → Bool
has_next d = has_flag d.flags 1

abbrev pub is_write_only : Descriptor → Bool
is_write_only d = has_flag d.flags 2

abbrev pub is_indirect : Descriptor → Bool
is_indirect d = has_flag d.flags 4

-- the segment of a chain that a descriptor describes
abbrev pub segment_of : Descriptor → Segment
segment_of d = record { addr = record { 0 = d.addr }; len = d.len; writable = is_write_only d }
