-- What the device gives back in a packed ring, and whether a queue's areas lie in memory.
use Rattle.std.specs.Prelude.{◌≡◌, ◌⊎◌, ℕ, ◌+◌, ◌*◌, ◌^◌, nat_le, nat_lt, true, not, ◌&&◌, min, if◌then◌else◌, List, ◌++◌, option_map, Bool, Result, Ok, Err, MatchResult}
use Rattle.std.specs.Int.{w16, w32, to_le_bytes}
use Rattle.vm_memory_base.specs.declared.iotlb.Permissions.TheVariants as permissions
use Rattle.vm_memory_guest.specs.Host.{Host}
use Rattle.vm_memory_guest.specs.Memory.{Memory}
use Rattle.vm_memory_guest.specs.Walk.{NeedsPieces}
use Rattle.vm_memory_guest.specs.Window.{Window}
use Rattle.virtio_queue.specs.Fields.{lies_whole, room_at, word_window, Refuses, StoresWord, WritesBytes}
use Rattle.virtio_queue.specs.Looks.{MayWantAny, Tree, gives, handing, if_ready}
use Rattle.virtio_queue.specs.Packed.{PackedVirtqueue, moved, slots_out}
use Rattle.virtio_queue.specs.Rings.{and_then}
use Rattle.virtio_queue.specs.declared.error.QueueError.{QueueError}
use Rattle.virtio_queue.specs.declared.error.QueueError.TheVariants as errors
use Rattle.virtio_queue.specs.declared.packed.state.PackedBuffer.{PackedBuffer}
use Rattle.virtio_queue.specs.declared.packed.state.PackedState.{PackedState}

-- whether a buffer can be returned: it took a slot, and no more than are out
abbrev pub is_out : PackedState → PackedBuffer → Bool
is_out q buffer = nat_lt 0 buffer.slots && nat_le buffer.slots (slots_out q.size q.next_avail q.next_used)

-- the bytes of length and id, which lie in front of the flags
abbrev pub rest_bytes : PackedBuffer → ℕ → List ℕ
rest_bytes buffer len = to_le_bytes w32 len ++ to_le_bytes w16 buffer.id

-- the flags of a used slot: AVAIL and USED are the wrap counter, and WRITE says that bytes were written
abbrev pub used_flags : Bool → ℕ → ℕ
used_flags wrap len = (if wrap then 2 ^ 15 + 2 ^ 7 else 0) + (if nat_lt 0 len then 2 else 0)

module _ {B : Type 0} (m : Memory) (host : Host B) where
  -- whether the ring and both areas lie whole in memory, and the device may write the first and the last
  abbrev pub areas_lie_whole : PackedState → Bool
  areas_lie_whole q = lies_whole m host q.desc_ring (16 * q.size) permissions.ReadWrite
      && lies_whole m host q.driver_area 4 permissions.Read
      && lies_whole m host q.device_area 4 permissions.Write

  abbrev pub valid : PackedState → Result Bool QueueError
  valid q = if q.ready then Ok (areas_lie_whole q) else Err errors.QueueNotReady

  -- that may fail to allocate: each of the three, where those in front of it lie whole
  abbrev pub MayWantAreas : PackedState → Type 0
  MayWantAreas q = NeedsPieces m host.tables q.desc_ring (16 * q.size) permissions.ReadWrite
      ⊎ ((lies_whole m host q.desc_ring (16 * q.size) permissions.ReadWrite ≡ true)
      × (NeedsPieces m host.tables q.driver_area 4 permissions.Read
      ⊎ ((lies_whole m host q.driver_area 4 permissions.Read ≡ true)
      × NeedsPieces m host.tables q.device_area 4 permissions.Write)))

  abbrev pub MayWantValid : PackedState → Type 0
  MayWantValid q = (q.ready ≡ true) × MayWantAreas q

  -- the address of length and id in the slot that is used next, if they can be written for a buffer that is out
  abbrev pub rest_place : PackedState → PackedBuffer → Result ℕ QueueError
  rest_place q buffer = if not q.ready then Err errors.QueueNotReady
      else if not (is_out q buffer) then Err errors.InvalidDescriptorIndex
      else room_at m host q.desc_ring (16 * q.next_used.slot + 8) 6

  -- where these and the flags go
  abbrev pub used_places : PackedState → PackedBuffer → Result (ℕ × Window) QueueError
  used_places q buffer = and_then (rest_place q buffer) (λ a.
      and_then (word_window m host q.desc_ring (16 * q.next_used.slot + 14)) (λ w. Ok (a, w)))

-- a chain is returned: length and id, and then the flags of the slot
abbrev pub returning : PackedState → PackedBuffer → ℕ → Tree (Unit {0})
returning q buffer len = if_ready q.ready (if not (is_out q buffer) then gives (Err errors.InvalidDescriptorIndex)
    else handing q.desc_ring (16 * q.next_used.slot + 8) (rest_bytes buffer len) (16 * q.next_used.slot + 14)
    (used_flags q.next_used.wrap len))

module _ {B : Type 0} (marks : B → ℕ → ℕ → B → Type 0) (m : Memory) (q : PackedState) (buffer : PackedBuffer)
    (len : ℕ) where
  -- length and id were written, and nothing else changed
  abbrev pub WritesRest : Host B → Host B → Type 0
  WritesRest old new =
      (a : ℕ) × (rest_place m old q buffer ≡ Ok a) × WritesBytes marks m a (rest_bytes buffer len) old new

  -- the flags that give the slot to the driver were stored, and nothing else changed
  abbrev pub StoresFlags : Host B → Host B → Type 0
  StoresFlags old new = StoresWord marks m q.desc_ring (16 * q.next_used.slot + 14)
      (used_flags q.next_used.wrap len) old (Ok tt) new

  -- length and id were written, and then the flags were stored. Or one of the two was refused, and nothing changed
  abbrev pub AddsUsed : Host B → Result (Unit {0}) QueueError → Host B → Type 0
  AddsUsed old answer new = MatchResult answer
      (λ _. (mid : Host B) × WritesRest old mid × StoresFlags mid new)
      (λ e. Refuses (MayWantAny m old (returning q buffer len)) (used_places m old q buffer) e × (new ≡ old))

-- the queue after a buffer was returned, or was not: the place moves on over as many slots as the buffer took
abbrev pub after_used : PackedVirtqueue → PackedBuffer → Result (Unit {0}) QueueError → PackedVirtqueue
after_used q buffer (Ok _) = record {
  state = record q.state { next_used = moved q.state.size q.state.next_used buffer.slots };
  added = option_map (λ n. min (n + buffer.slots) 65536) q.added;
}
after_used q buffer (Err e) = q
