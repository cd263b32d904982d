-- The fields of a queue in guest memory, as a device reads and writes them.
use Rattle.std.specs.Prelude.{◌≡◌, ◌⊎◌, ℕ, ◌+◌, ◌*◌, ◌%◌, ◌^◌, nat_le, ◌==◌, Bool, ◌&&◌, if◌then◌else◌, List, [], ◌∷◌, take, drop, length, option_map, Result, Ok, Err, MatchResult}
use Rattle.std.specs.Int.{w16, w32, w64, from_le_bytes, to_le_bytes}
use Rattle.vm_memory_base.specs.declared.iotlb.Permissions.{Permissions}
use Rattle.vm_memory_base.specs.declared.iotlb.Permissions.TheVariants as permissions
use Rattle.vm_memory_guest.specs.Access.{Access, access_of, allowed, refusal, windows}
use Rattle.vm_memory_guest.specs.Dirt.{path_cells}
use Rattle.vm_memory_guest.specs.Error.{error_of}
use Rattle.vm_memory_guest.specs.Host.{Host, bytes_at}
use Rattle.vm_memory_guest.specs.Memory.{Memory, route}
use Rattle.vm_memory_guest.specs.Queries.{is_whole}
use Rattle.vm_memory_guest.specs.Transfer.{all_of, ended}
use Rattle.vm_memory_guest.specs.Typed.{answered, place_of, typed_path}
use Rattle.vm_memory_guest.specs.Walk.{NeedsPieces}
use Rattle.vm_memory_guest.specs.Window.{Window, Writes, cells_of}
use Rattle.vm_memory_guest.specs.declared.region.error.GuestMemoryError.{GuestMemoryError}
use Rattle.vm_memory_guest.specs.declared.region.error.GuestMemoryError.TheVariants.{PartialBuffer}
use Rattle.virtio_queue.specs.Error.{of_access}
use Rattle.virtio_queue.specs.Rings.{and_then}
use Rattle.virtio_queue.specs.declared.descriptor.Descriptor.{Descriptor}
use Rattle.virtio_queue.specs.declared.error.QueueError.{QueueError}
use Rattle.virtio_queue.specs.declared.error.QueueError.TheVariants as errors

-- the result of an access, with its error as one of a queue
abbrev pub told : {T : Type 0} → Result T GuestMemoryError → Result T QueueError
told (Ok x) = Ok x
told (Err e) = Err (of_access e)

-- a call returned what is expected. Or an allocation failed, if it may
abbrev pub Answers : {T : Type 0} → Type 0 → Result T QueueError → Result T QueueError → Type 0
Answers may_want expected answer = (answer ≡ expected) ⊎ ((answer ≡ Err errors.Memory) × may_want)

-- a call was refused as is expected. Or an allocation failed, if it may
abbrev pub Refuses : {T : Type 0} → Type 0 → Result T QueueError → QueueError → Type 0
Refuses may_want expected e = (expected ≡ Err e) ⊎ ((e ≡ errors.Memory) × may_want)

-- the address of a field of n bytes at an offset from an address, if there are that many addresses
abbrev pub place : ℕ → ℕ → ℕ → Result ℕ QueueError
place base offset n = if nat_le (base + offset + n) (2 ^ 64) then Ok (base + offset) else Err errors.AddressOverflow

-- what an access of n bytes at an address reaches
abbrev pub reached_at : {B : Type 0} → Memory → Host B → ℕ → ℕ → Permissions → Access
reached_at m host a n access = access_of m.regions (route m host.tables) a n access

-- an access of a field of n bytes that lies so far after an address may fail to allocate: it is made through an IOMMU
-- that is on and allows it
abbrev pub MayWant : {B : Type 0} → Memory → Host B → ℕ → ℕ → ℕ → Permissions → Type 0
MayWant m host base offset n access =
    (a : ℕ) × (place base offset n ≡ Ok a) × NeedsPieces m host.tables a n access

-- ---- reading

-- the n bytes at an address, if all can be read
abbrev pub bytes_in : {B : Type 0} → Memory → Host B → ℕ → ℕ → Result (List ℕ) GuestMemoryError
bytes_in m host a n = let x = reached_at m host a n permissions.Read in
    answered (λ _. bytes_at host.blocks (path_cells x.path))
    (all_of PartialBuffer n (ended (length x.path) (option_map error_of x.fault)))

-- the n bytes at an address, if one load takes them all
abbrev pub loaded : {B : Type 0} → Memory → Host B → ℕ → ℕ → Result (List ℕ) GuestMemoryError
loaded m host a n =
    answered (λ xs. bytes_at host.blocks (path_cells xs)) (typed_path n (reached_at m host a n permissions.Read))

-- the number of 16 bits at an offset from an address
abbrev pub word_at : {B : Type 0} → Memory → Host B → ℕ → ℕ → Result ℕ QueueError
word_at m host base offset = and_then (place base offset 2) (λ a.
    told (answered (from_le_bytes w16) (loaded m host a 2)))

-- a descriptor is 16 bytes: address, length, flags and next, each with its lowest byte first
abbrev pub descriptor_of : List ℕ → Descriptor
descriptor_of bytes = record {
  addr = from_le_bytes w64 (take 8 bytes);
  len = from_le_bytes w32 (take 4 (drop 8 bytes));
  flags = from_le_bytes w16 (take 2 (drop 4 (drop 8 bytes)));
  next = from_le_bytes w16 (drop 2 (drop 4 (drop 8 bytes)));
}

-- the descriptor of this index in a table
abbrev pub descriptor_at : {B : Type 0} → Memory → Host B → ℕ → ℕ → Result Descriptor QueueError
descriptor_at m host table i = and_then (place table (16 * i) 16) (λ a.
    told (answered descriptor_of (bytes_in m host a 16)))

-- a used entry is 8 bytes: a head and a length, each with its lowest byte first
abbrev pub pair_of : List ℕ → ℕ × ℕ
pair_of bytes = (from_le_bytes w32 (take 4 bytes), from_le_bytes w32 (drop 4 bytes))

-- the two numbers of 32 bits at an offset from an address
abbrev pub pair_at : {B : Type 0} → Memory → Host B → ℕ → ℕ → Result (ℕ × ℕ) QueueError
pair_at m host base offset = and_then (place base offset 8) (λ a. told (answered pair_of (bytes_in m host a 8)))

-- ---- writing

-- whether n bytes at an address lie whole in memory and may be accessed so
abbrev pub lies_whole : {B : Type 0} → Memory → Host B → ℕ → ℕ → Permissions → Bool
lies_whole m host a n access =
    nat_le (a + n) (2 ^ 64) && is_whole (reached_at m host a n access).path n

-- why n bytes cannot be written at an address: its translation is refused, or they do not lie whole in memory
abbrev pub room_fault : {B : Type 0} → Memory → Host B → ℕ → ℕ → QueueError
room_fault m host a n = let way = route m host.tables in
    if allowed way a n permissions.Write then errors.InvalidUsedEntry else of_access (error_of (refusal way a n))

-- the address of n bytes at an offset from an address, if they can be written there
abbrev pub room_at : {B : Type 0} → Memory → Host B → ℕ → ℕ → ℕ → Result ℕ QueueError
room_at m host base offset n = and_then (place base offset n) (λ a.
    if lies_whole m host a n permissions.Write then Ok a else Err (room_fault m host a n))

-- the window that an access of a number of 16 bits takes at an offset from an address
abbrev pub window_at : {B : Type 0} → Memory → Host B → ℕ → ℕ → Permissions → Result Window QueueError
window_at m host base offset access = and_then (place base offset 2) (λ a.
    told (place_of 2 (reached_at m host a 2 access)))

-- whether a window is that of a load or a store of a number of 16 bits: it has two bytes, at an even place
abbrev pub is_word : Window → Bool
is_word w = w.size == 2 && w.offset % 2 == 0

-- the window that a store of a number of 16 bits takes
abbrev pub word_window : {B : Type 0} → Memory → Host B → ℕ → ℕ → Result Window QueueError
word_window m host base offset = window_at m host base offset permissions.Write

-- the number of 16 bits that lies where such a store goes, whether it may be read there or not
abbrev pub stored_at : {B : Type 0} → Memory → Host B → ℕ → ℕ → Result ℕ QueueError
stored_at m host base offset = and_then (word_window m host base offset) (λ w.
    Ok (from_le_bytes w16 (bytes_at host.blocks (cells_of w))))

module _ {B : Type 0} (marks : B → ℕ → ℕ → B → Type 0) (m : Memory) where
  -- bytes went to an address, all of them, and marked their windows. Nothing else changed
  abbrev pub WritesBytes : ℕ → List ℕ → Host B → Host B → Type 0
  WritesBytes a bytes old new =
      Writes marks (windows (reached_at m old a (length bytes) permissions.Write).path) bytes old new

  -- a number of 16 bits was stored at an offset from an address, by one store, and nothing else changed. Or that was
  -- refused, and nothing changed at all
  abbrev pub StoresWord : ℕ → ℕ → ℕ → Host B → Result (Unit {0}) QueueError → Host B → Type 0
  StoresWord base offset value old answer new = MatchResult answer
      (λ _. (w : Window) × (word_window m old base offset ≡ Ok w)
      × Writes marks (w ∷ []) (to_le_bytes w16 value) old new)
      (λ e. Refuses (MayWant m old base offset 2 permissions.Write) (word_window m old base offset) e × (new ≡ old))
