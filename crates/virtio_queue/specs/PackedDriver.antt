-- The driver's half of a packed queue: where its areas lie, and what its calls leave.
use Rattle.std.specs.Prelude.{◌≡◌, ℕ, ◌+◌, ◌*◌, ◌%◌, ◌^◌, nat_le, nat_lt, Bool, true, not, ◌&&◌, ◌==◌, if◌then◌else◌, List, Option, Some, None, Result, Ok, Err, MatchResult}
use Rattle.vm_memory_guest.specs.Host.{Host}
use Rattle.vm_memory_guest.specs.Memory.{Memory}
use Rattle.virtio_queue.specs.Driver.{Puts}
use Rattle.virtio_queue.specs.Packed.{PackedVirtqueue, beginning, is_packed_size, moved, new_state}
use Rattle.virtio_queue.specs.PackedRing.{is_used, packed_at}
use Rattle.virtio_queue.specs.Rings.{and_then}
use Rattle.virtio_queue.specs.declared.descriptor.Descriptor.{Descriptor}
use Rattle.virtio_queue.specs.declared.error.QueueError.{QueueError}
use Rattle.virtio_queue.specs.declared.error.QueueError.TheVariants as errors
use Rattle.virtio_queue.specs.declared.packed.descriptor.PackedDescriptor.{PackedDescriptor}
use Rattle.virtio_queue.specs.declared.packed.driver.PackedDriver.{PackedDriver}
use Rattle.virtio_queue.specs.declared.packed.driver.PackedField.{PackedField}
use Rattle.virtio_queue.specs.declared.packed.driver.PackedField.TheVariants.{SlotFlags, DriverOffset, DriverFlags, DeviceOffset, DeviceFlags}
use Rattle.virtio_queue.specs.declared.packed.position.RingPosition.{RingPosition}

-- a queue of N slots whose areas lie one after the other, from an address on
abbrev pub laid_out : ℕ → ℕ → PackedDriver
laid_out base size = record {
  size = size;
  desc_ring = base;
  driver_area = base + 16 * size;
  device_area = base + (16 * size + 4);
  next_avail = beginning;
  next_used = beginning;
}

abbrev pub layout_of : ℕ → ℕ → Result PackedDriver QueueError
layout_of base size = if not (is_packed_size size) then Err errors.InvalidSize
    else if not (base % 16 == 0) then Err errors.InvalidDescTableAlign
    else if nat_le (base + (16 * size + 8)) (2 ^ 64) then Ok (laid_out base size)
    else Err errors.AddressOverflow

-- where a field lies: at an offset from the start of an area
abbrev pub area_of : PackedDriver → PackedField → ℕ
area_of d (SlotFlags i) = d.desc_ring
area_of d DriverOffset = d.driver_area
area_of d DriverFlags = d.driver_area
area_of d DeviceOffset = d.device_area
area_of d DeviceFlags = d.device_area

abbrev pub offset_of : PackedField → ℕ
offset_of (SlotFlags i) = 16 * i + 14
offset_of DriverOffset = 0
offset_of DriverFlags = 2
offset_of DeviceOffset = 0
offset_of DeviceFlags = 2

-- the bytes of a descriptor are those of a split one with the id in place of the flags, and the flags in place of
-- `next`
abbrev pub split_of : PackedDescriptor → Descriptor
split_of d = record { addr = d.addr; len = d.len; flags = d.id; next = d.flags }

-- the flags that make a slot available, beside NEXT, WRITE, INDIRECT and whatever else is not AVAIL or USED
abbrev pub available_flags : ℕ → Bool → ℕ
available_flags flags wrap = flags % 2 ^ 7 + (if wrap then 2 ^ 7 else 2 ^ 15)

abbrev pub made_available : PackedDescriptor → Bool → PackedDescriptor
made_available d wrap = record d { flags = available_flags d.flags wrap }

-- what the device has used: id and length in the slot that is taken next
abbrev pub if_used : RingPosition → PackedDescriptor → Option (ℕ × ℕ)
if_used p d = if is_used d.flags p.wrap then Some (d.id, d.len) else None

abbrev pub next_used : {B : Type 0} → Memory → Host B → PackedDriver → Result (Option (ℕ × ℕ)) QueueError
next_used m host d = and_then (packed_at m host d.desc_ring d.next_used.slot) (λ s. Ok (if_used d.next_used s))

-- a position so many slots on, if the ring has as many and the position is one of its slots
abbrev pub moved_in : ℕ → RingPosition → ℕ → Result RingPosition QueueError
moved_in size p n = if is_packed_size size && (nat_lt p.slot size && nat_le n size) then Ok (moved size p n)
    else Err errors.InvalidSize

-- what moving on returns, and where it leads: nowhere if it is refused
abbrev pub done : Result RingPosition QueueError → Result (Unit {0}) QueueError
done (Ok p) = Ok tt
done (Err e) = Err e

abbrev pub at_or : RingPosition → Result RingPosition QueueError → RingPosition
at_or p (Ok q) = q
at_or p (Err e) = p

-- past so many slots that were used
abbrev pub skipped : PackedDriver → ℕ → Result (Unit {0}) QueueError
skipped d n = done (moved_in d.size d.next_used n)

abbrev pub after_skip : PackedDriver → ℕ → PackedDriver
after_skip d n = record d { next_used = at_or d.next_used (moved_in d.size d.next_used n) }

-- bytes were put into the next slot. Or the ring has no such slot, and nothing changed
abbrev pub Publishes : {B : Type 0} → (B → ℕ → ℕ → B → Type 0) → Memory → PackedDriver → List ℕ → Host B
    → Result (Unit {0}) QueueError → Host B → Type 0
Publishes marks m d bytes old answer new = MatchResult (moved_in d.size d.next_avail 1)
    (λ _. Puts marks m d.desc_ring (16 * d.next_avail.slot) bytes old answer new)
    (λ e. (answer ≡ Err e) × (new ≡ old))

-- the driver moves on to the next slot
abbrev pub after_publish : PackedDriver → Result (Unit {0}) QueueError → PackedDriver
after_publish d (Ok _) = record d { next_avail = at_or d.next_avail (moved_in d.size d.next_avail 1) }
after_publish d (Err e) = d

-- the device's half over the same areas: ready, with nothing popped and nothing returned
abbrev pub ready_over : PackedDriver → PackedVirtqueue
ready_over d = record {
  state = record (new_state d.size) {
    ready = true;
    desc_ring = d.desc_ring;
    driver_area = d.driver_area;
    device_area = d.device_area;
  };
  added = Some 0;
}

abbrev pub device_of : PackedDriver → Result PackedVirtqueue QueueError
device_of d = if not (is_packed_size d.size) then Err errors.InvalidMaxSize
    else if not (d.desc_ring % 16 == 0) then Err errors.InvalidDescTableAlign
    else if not (d.driver_area % 4 == 0) then Err errors.InvalidAvailRingAlign
    else if not (d.device_area % 4 == 0) then Err errors.InvalidUsedRingAlign
    else Ok (ready_over d)
