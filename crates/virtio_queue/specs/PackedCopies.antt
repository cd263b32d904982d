-- Copies of the descriptors of the next chain of a packed queue: what is looked at to make them.
use Rattle.std.specs.Prelude.{ℕ, zero, suc, ◌+◌, ◌-◌, ◌*◌, Bool, true, false, if◌then◌else◌, List, [], ◌∷◌, ◌++◌, Option, Some, None, Result, Ok, Err}
use Rattle.virtio_queue.specs.Looks.{Tree, and_takes, gives, if_ready, keeps, takes, row, word}
use Rattle.virtio_queue.specs.Packed.{slot_after, slots_out}
use Rattle.virtio_queue.specs.PackedPopping.{with_known}
use Rattle.virtio_queue.specs.PackedRing.{is_available, is_last, packed_of}
use Rattle.virtio_queue.specs.declared.error.QueueError.{QueueError}
use Rattle.virtio_queue.specs.declared.error.QueueError.TheVariants as errors
use Rattle.virtio_queue.specs.declared.packed.descriptor.PackedDescriptor.{PackedDescriptor}
use Rattle.virtio_queue.specs.declared.packed.state.PackedState.{PackedState}

-- the descriptors of a chain from a slot on, after these: one look at each, which is kept, up to the last one. At most
-- so many, and one more is a loop. The flags of the first one are known, if it was found to be available
unfoldable pub copies_after : ℕ → ℕ → ℕ → List PackedDescriptor → ℕ → Option ℕ → Tree (List PackedDescriptor)
copies_after ring size zero front i known = gives (Err errors.DescriptorLoop)
copies_after ring size (suc most) front i known = takes (row ring i) (λ d.
    let p = with_known known (packed_of d) in
    keeps (if is_last p then gives (Ok (front ++ p ∷ []))
    else copies_after ring size most (front ++ p ∷ []) (slot_after size i) None))

-- those of the next slot, whose flags are known: no more than slots are free
abbrev pub copies_known : PackedState → ℕ → Tree (List PackedDescriptor)
copies_known q flags = copies_after q.desc_ring q.size (q.size - slots_out q.size q.next_avail q.next_used) []
    q.next_avail.slot (Some flags)

-- the descriptors of the next chain, if there is one: a look at the flags of the next slot, and then at each of them,
-- if the flags say that it is available
abbrev pub copies_found : PackedState → ℕ → Tree (Option (List PackedDescriptor))
copies_found q flags = if is_available flags q.next_avail.wrap
    then and_takes (copies_known q flags) (λ ds. gives (Ok (Some ds)))
    else gives (Ok None)

abbrev pub copying : PackedState → Tree (Option (List PackedDescriptor))
copying q = if_ready q.ready (takes (word q.desc_ring (16 * q.next_avail.slot + 14)) (copies_found q))

-- what a call found that puts them in a list: whether there is a chain
abbrev pub copied : Result Bool QueueError → List PackedDescriptor → Result (Option (List PackedDescriptor)) QueueError
copied (Ok true) ds = Ok (Some ds)
copied (Ok false) ds = Ok None
copied (Err e) ds = Err e

-- the flags of a slot
abbrev pub flags_in : PackedState → ℕ → Tree ℕ
flags_in q slot = if_ready q.ready (takes (word q.desc_ring (16 * slot + 14)) (λ flags. gives (Ok flags)))
