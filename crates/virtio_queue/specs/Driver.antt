-- The driver's half of a queue: where its areas lie, and what its calls leave.
use Rattle.std.specs.Prelude.{◌≡◌, ◌⊎◌, ℕ, ◌+◌, ◌*◌, ◌/◌, ◌^◌, ◌<◌, nat_le, not, true, ◌==◌, ◌%◌, if◌then◌else◌, List, length, Option, Some, None, option_map, Result, Ok, Err, MatchBool, MatchResult}
use Rattle.vm_memory_base.specs.declared.iotlb.Permissions.TheVariants as permissions
use Rattle.vm_memory_guest.specs.Access.{Access, windows}
use Rattle.vm_memory_guest.specs.Error.{error_of}
use Rattle.vm_memory_guest.specs.Host.{Host}
use Rattle.vm_memory_guest.specs.Memory.{Memory}
use Rattle.vm_memory_guest.specs.Transfer.{all_of, ended}
use Rattle.vm_memory_guest.specs.Walk.{NeedsPieces}
use Rattle.vm_memory_guest.specs.Window.{Writes}
use Rattle.vm_memory_guest.specs.declared.region.error.GuestMemoryError.{GuestMemoryError}
use Rattle.vm_memory_guest.specs.declared.region.error.GuestMemoryError.TheVariants.{PartialBuffer}
use Rattle.virtio_queue.specs.Fields.{pair_at, place, reached_at, told, word_at, MayWant, StoresWord}
use Rattle.virtio_queue.specs.Rings.{WantsThen, and_then, index_after, slot}
use Rattle.virtio_queue.specs.State.{Virtqueue, is_size, new_state}
use Rattle.virtio_queue.specs.declared.driver.DriverQueue.{DriverQueue}
use Rattle.virtio_queue.specs.declared.driver.QueueField.{QueueField}
use Rattle.virtio_queue.specs.declared.driver.QueueField.TheVariants.{AvailFlags, AvailIdx, AvailHead, UsedEvent, UsedFlags, UsedIdx, AvailEvent}
use Rattle.virtio_queue.specs.declared.error.QueueError.{QueueError}
use Rattle.virtio_queue.specs.declared.error.QueueError.TheVariants as errors

-- where the used ring begins after the table and the available ring: at the next multiple of 4
abbrev pub used_offset : ℕ → ℕ
used_offset size = (18 * size + 9) / 4 * 4

-- a queue of N descriptors whose areas lie one after the other, from an address on
abbrev pub laid_out : ℕ → ℕ → DriverQueue
laid_out base size = record {
  size = size;
  desc_table = base;
  avail_ring = base + 16 * size;
  used_ring = base + used_offset size;
  next_avail = 0;
  next_used = 0;
}

abbrev pub layout_of : ℕ → ℕ → Result DriverQueue QueueError
layout_of base size = if not (is_size size) then Err errors.InvalidSize
    else if not (base % 16 == 0) then Err errors.InvalidDescTableAlign
    else if nat_le (base + used_offset size + (6 + 8 * size)) (2 ^ 64) then Ok (laid_out base size)
    else Err errors.AddressOverflow

-- where a field lies: at an offset from the start of a ring
abbrev pub ring_of : DriverQueue → QueueField → ℕ
ring_of d AvailFlags = d.avail_ring
ring_of d AvailIdx = d.avail_ring
ring_of d (AvailHead i) = d.avail_ring
ring_of d UsedEvent = d.avail_ring
ring_of d UsedFlags = d.used_ring
ring_of d UsedIdx = d.used_ring
ring_of d AvailEvent = d.used_ring

abbrev pub offset_of : DriverQueue → QueueField → ℕ
offset_of d AvailFlags = 0
offset_of d AvailIdx = 2
offset_of d (AvailHead i) = 4 + 2 * i
offset_of d UsedEvent = 4 + 2 * d.size
offset_of d UsedFlags = 0
offset_of d UsedIdx = 2
offset_of d AvailEvent = 4 + 8 * d.size

abbrev pub field_at : {B : Type 0} → Memory → Host B → DriverQueue → QueueField → Result ℕ QueueError
field_at m host d field = word_at m host (ring_of d field) (offset_of d field)

-- to read it may fail to allocate
abbrev pub MayWantField : {B : Type 0} → Memory → Host B → DriverQueue → QueueField → Type 0
MayWantField m host d field = MayWant m host (ring_of d field) (offset_of d field) 2 permissions.Read

module _ {B : Type 0} (m : Memory) (host : Host B) where
  -- the entry that is taken next, if the device has published one
  abbrev pub next_entry : DriverQueue → Result (Option (ℕ × ℕ)) QueueError
  next_entry d = if d.size == 0 then Err errors.InvalidSize
      else and_then (field_at m host d UsedIdx) (λ idx.
      if idx == d.next_used then Ok None
      else and_then (pair_at m host d.used_ring (4 + 8 * slot d.size d.next_used)) (λ entry. Ok (Some entry)))

  -- to take it may fail to allocate: for the device's index, or for the entry, if there is one
  abbrev pub MayWantNext : DriverQueue → Type 0
  MayWantNext d = (0 < d.size) × WantsThen (MayWantField m host d UsedIdx) (field_at m host d UsedIdx) (λ idx.
      (idx ≡ d.next_used → ⊥) × MayWant m host d.used_ring (4 + 8 * slot d.size d.next_used) 8 permissions.Read)

abbrev pub after_take : DriverQueue → Result (Option (ℕ × ℕ)) QueueError → DriverQueue
after_take d (Ok (Some entry)) = record d { next_used = index_after d.next_used }
after_take d (Ok None) = d
after_take d (Err e) = d

abbrev pub after_publish : DriverQueue → Result (Unit {0}) QueueError → DriverQueue
after_publish d (Ok _) = record d { next_avail = index_after d.next_avail }
after_publish d (Err e) = d

-- how a write of all of n bytes ends that reached these
abbrev pub written_all : ℕ → Access → Result (Unit {0}) GuestMemoryError
written_all n x = all_of PartialBuffer n (ended (length x.path) (option_map error_of x.fault))

module _ {B : Type 0} (marks : B → ℕ → ℕ → B → Type 0) (m : Memory) where
  -- bytes were written to an address as far as it has bytes, or an allocation failed and nothing changed
  abbrev pub PutsAt : ℕ → List ℕ → Host B → Result (Unit {0}) QueueError → Host B → Type 0
  PutsAt a bytes old answer new = let x = reached_at m old a (length bytes) permissions.Write in
      ((answer ≡ told (written_all (length bytes) x)) × Writes marks (windows x.path) bytes old new)
      ⊎ ((answer ≡ Err errors.Memory) × NeedsPieces m old.tables a (length bytes) permissions.Write × (new ≡ old))

  -- the same at an offset from an address, if there is such a place
  abbrev pub Puts : ℕ → ℕ → List ℕ → Host B → Result (Unit {0}) QueueError → Host B → Type 0
  Puts base offset bytes old answer new = MatchResult (place base offset (length bytes))
      (λ a. PutsAt a bytes old answer new) (λ e. (answer ≡ Err e) × (new ≡ old))

  -- the head was stored in its slot, and after it the index. Or one of them was refused
  abbrev pub PublishesIn : DriverQueue → ℕ → Host B → Result (Unit {0}) QueueError → Host B → Type 0
  PublishesIn d head old answer new = (stored : Result (Unit {0}) QueueError) × (mid : Host B)
      × StoresWord marks m d.avail_ring (4 + 2 * slot d.size d.next_avail) head old stored mid
      × MatchResult stored (λ _. StoresWord marks m d.avail_ring 2 (index_after d.next_avail) mid answer new)
      (λ e. (answer ≡ Err e) × (new ≡ mid))

  -- the same if the ring has slots
  abbrev pub Publishes : DriverQueue → ℕ → Host B → Result (Unit {0}) QueueError → Host B → Type 0
  Publishes d head old answer new = MatchBool (d.size == 0) ((answer ≡ Err errors.InvalidSize) × (new ≡ old))
      (PublishesIn d head old answer new)

-- the device's half over the same areas: ready, with nothing popped and nothing returned
abbrev pub ready_over : DriverQueue → Virtqueue
ready_over d = record {
  state = record (new_state d.size) {
    ready = true;
    desc_table = d.desc_table;
    avail_ring = d.avail_ring;
    used_ring = d.used_ring;
  };
  added = Some 0;
}

abbrev pub device_of : DriverQueue → Result Virtqueue QueueError
device_of d = if not (is_size d.size) then Err errors.InvalidMaxSize
    else if not (d.desc_table % 16 == 0) then Err errors.InvalidDescTableAlign
    else if not (d.avail_ring % 2 == 0) then Err errors.InvalidAvailRingAlign
    else if not (d.used_ring % 4 == 0) then Err errors.InvalidUsedRingAlign
    else Ok (ready_over d)
