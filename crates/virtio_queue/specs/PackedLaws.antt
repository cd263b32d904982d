-- What theorems on packed queues speak of.
use Rattle.std.specs.Prelude.{◌≡◌, ℕ, ◌-◌, ◌^◌, false, List, [], ◌∷◌, length, Option, Some, None, Result, Ok, slice_get}
use Rattle.vm_memory_device.specs.declared.chain.Segment.{Segment}
use Rattle.virtio_queue.specs.Again.{chain_of_copies}
use Rattle.virtio_queue.specs.Descriptor.{has_flag}
use Rattle.virtio_queue.specs.Looks.{Tree, and_takes, gives, keeps, takes}
use Rattle.virtio_queue.specs.Packed.{slot_after}
use Rattle.virtio_queue.specs.PackedCopies.{copying}
use Rattle.virtio_queue.specs.PackedHistory.{Cell}
use Rattle.virtio_queue.specs.PackedRing.{is_last}
use Rattle.virtio_queue.specs.declared.error.QueueError.{QueueError}
use Rattle.virtio_queue.specs.declared.packed.descriptor.PackedDescriptor.{PackedDescriptor}
use Rattle.virtio_queue.specs.declared.packed.state.PackedBuffer.{PackedBuffer}
use Rattle.virtio_queue.specs.declared.packed.state.PackedState.{PackedState}

-- these descriptors lie in slots that follow one another from one on, across the end of the ring, and each has a next
-- one
unfoldable pub AreInSlots : (ℕ → Result PackedDescriptor QueueError) → ℕ → ℕ → List PackedDescriptor → ℕ → Type 0
AreInSlots descriptor size i [] j = i ≡ j
AreInSlots descriptor size i (d ∷ ds) j = (descriptor i ≡ Ok d) × (is_last d ≡ false)
    × AreInSlots descriptor size (slot_after size i) ds j

-- flags say what a slot of a history says
abbrev pub Marks : ℕ → Cell → Type 0
Marks flags c = (has_flag flags (2 ^ 7) ≡ c.avail) × (has_flag flags (2 ^ 15) ≡ c.used)

-- what a chain that is made of copies is returned by: the id of the last one, and how many they are
abbrev pub id_of : Option PackedDescriptor → ℕ
id_of None = 0
id_of (Some d) = d.id

abbrev pub buffer_of_copies : List PackedDescriptor → PackedBuffer
buffer_of_copies ds = record { id = id_of (slice_get ds (length ds - 1)); slots = length ds }

-- a pop by copies: they are made, if there is a chain, and then the chain is made of them
abbrev pub chain_of_found : PackedState → Option (List PackedDescriptor) → Tree (Option (PackedBuffer × List Segment))
chain_of_found q None = gives (Ok None)
chain_of_found q (Some ds) =
    and_takes (chain_of_copies q ds) (λ ss. gives (Ok (Some (buffer_of_copies ds, ss))))

abbrev pub popping_copies : PackedState → Tree (Option (PackedBuffer × List Segment))
popping_copies q = and_takes (copying q) (chain_of_found q)

-- the same looks, where no allocation may fail
abbrev pub bare_tree : {T : Type 0} → Tree T → Tree T
bare_tree (gives r) = gives r
bare_tree (takes s k) = takes s (λ v. bare_tree (k v))
bare_tree (keeps t) = bare_tree t
