-- What the device gives back: the used ring, and whether a queue's areas lie in memory.
use Rattle.std.specs.Prelude.{◌≡◌, ◌⊎◌, ℕ, ◌+◌, ◌*◌, nat_le, true, not, ◌&&◌, min, if◌then◌else◌, List, ◌++◌, option_map, Bool, Result, Ok, Err, MatchResult}
use Rattle.std.specs.Int.{w32, to_le_bytes}
use Rattle.vm_memory_base.specs.declared.iotlb.Permissions.TheVariants as permissions
use Rattle.vm_memory_guest.specs.Host.{Host}
use Rattle.vm_memory_guest.specs.Memory.{Memory}
use Rattle.vm_memory_guest.specs.Walk.{NeedsPieces}
use Rattle.vm_memory_guest.specs.Window.{Window}
use Rattle.virtio_queue.specs.Fields.{lies_whole, room_at, word_at, word_window, MayWant, Refuses, StoresWord, WritesBytes}
use Rattle.virtio_queue.specs.Looks.{MayWantAny, Tree, gives, handing, if_ready}
use Rattle.virtio_queue.specs.Rings.{and_then, index_after, slot}
use Rattle.virtio_queue.specs.State.{Virtqueue}
use Rattle.virtio_queue.specs.declared.error.QueueError.{QueueError}
use Rattle.virtio_queue.specs.declared.error.QueueError.TheVariants as errors
use Rattle.virtio_queue.specs.declared.state.QueueState.{QueueState}

module _ {B : Type 0} (m : Memory) (host : Host B) where
  -- whether the table and the rings lie whole in memory, and the device may read the first two and write the third
  abbrev pub areas_lie_whole : QueueState → Bool
  areas_lie_whole q = lies_whole m host q.desc_table (16 * q.size) permissions.Read
      && lies_whole m host q.avail_ring (6 + 2 * q.size) permissions.Read
      && lies_whole m host q.used_ring (6 + 8 * q.size) permissions.Write

  abbrev pub valid : QueueState → Result Bool QueueError
  valid q = if q.ready then Ok (areas_lie_whole q) else Err errors.QueueNotReady

  -- that may fail to allocate: each of the three, where those in front of it lie whole
  abbrev pub MayWantAreas : QueueState → Type 0
  MayWantAreas q = NeedsPieces m host.tables q.desc_table (16 * q.size) permissions.Read
      ⊎ ((lies_whole m host q.desc_table (16 * q.size) permissions.Read ≡ true)
      × (NeedsPieces m host.tables q.avail_ring (6 + 2 * q.size) permissions.Read
      ⊎ ((lies_whole m host q.avail_ring (6 + 2 * q.size) permissions.Read ≡ true)
      × NeedsPieces m host.tables q.used_ring (6 + 8 * q.size) permissions.Write)))

  abbrev pub MayWantValid : QueueState → Type 0
  MayWantValid q = (q.ready ≡ true) × MayWantAreas q

  -- the device's index, as it lies in the ring
  abbrev pub used_idx : QueueState → Result ℕ QueueError
  used_idx q = if q.ready then word_at m host q.used_ring 2 else Err errors.QueueNotReady

  abbrev pub MayWantUsedIdx : QueueState → Type 0
  MayWantUsedIdx q = (q.ready ≡ true) × MayWant m host q.used_ring 2 2 permissions.Read

  -- the address of the entry of the next index, if it can be written for a head, which has to be below the size
  abbrev pub entry_place : QueueState → ℕ → Result ℕ QueueError
  entry_place q head = if not q.ready then Err errors.QueueNotReady
      else if nat_le q.size head then Err errors.InvalidDescriptorIndex
      else room_at m host q.used_ring (4 + 8 * slot q.size q.next_used) 8

  -- where the entry and the index go
  abbrev pub used_places : QueueState → ℕ → Result (ℕ × Window) QueueError
  used_places q head =
      and_then (entry_place q head) (λ a. and_then (word_window m host q.used_ring 2) (λ w. Ok (a, w)))

-- the bytes of an entry: a head and how many bytes the device wrote, each with its lowest byte first
abbrev pub entry_bytes : ℕ → ℕ → List ℕ
entry_bytes head len = to_le_bytes w32 head ++ to_le_bytes w32 len

-- a chain is returned: the entry, and then the index that publishes it
abbrev pub returning : QueueState → ℕ → ℕ → Tree (Unit {0})
returning q head len = if_ready q.ready (if nat_le q.size head then gives (Err errors.InvalidDescriptorIndex)
    else handing q.used_ring (4 + 8 * slot q.size q.next_used) (entry_bytes head len) 2 (index_after q.next_used))

module _ {B : Type 0} (marks : B → ℕ → ℕ → B → Type 0) (m : Memory) (q : QueueState) (head len : ℕ) where
  -- the entry was written, and nothing else changed
  abbrev pub WritesEntry : Host B → Host B → Type 0
  WritesEntry old new =
      (a : ℕ) × (entry_place m old q head ≡ Ok a) × WritesBytes marks m a (entry_bytes head len) old new

  -- the index that publishes the entry was stored, and nothing else changed
  abbrev pub StoresIndex : Host B → Host B → Type 0
  StoresIndex old new = StoresWord marks m q.used_ring 2 (index_after q.next_used) old (Ok tt) new

  -- the entry was written, and then the index was stored. Or one of the two was refused, and nothing changed
  abbrev pub AddsUsed : Host B → Result (Unit {0}) QueueError → Host B → Type 0
  AddsUsed old answer new = MatchResult answer
      (λ _. (mid : Host B) × WritesEntry old mid × StoresIndex mid new)
      (λ e. Refuses (MayWantAny m old (returning q head len)) (used_places m old q head) e × (new ≡ old))

-- one entry more is counted, up to 65536
abbrev pub one_more : ℕ → ℕ
one_more n = min (n + 1) 65536

-- the queue after an entry was added, or was not
abbrev pub after_used : Virtqueue → Result (Unit {0}) QueueError → Virtqueue
after_used q (Ok _) = record {
  state = record q.state { next_used = index_after q.state.next_used };
  added = option_map one_more q.added;
}
after_used q (Err e) = q
