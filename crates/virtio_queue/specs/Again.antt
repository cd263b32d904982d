-- Chains that were popped before their device was started again: what is looked at to have them once more.
use Rattle.std.specs.Prelude.{ℕ, ◌-◌, List, length, map, take, Option, Some, None, Err, slice_get}
use Rattle.vm_memory_device.specs.Chain.{chain_fault}
use Rattle.vm_memory_device.specs.declared.chain.Segment.{Segment}
use Rattle.virtio_queue.specs.Available.{if_chain}
use Rattle.virtio_queue.specs.Looks.{Tree, and_takes, gives, if_ready, keeps}
use Rattle.virtio_queue.specs.PackedPopping.{last_after}
use Rattle.virtio_queue.specs.PackedRing.{segment_of}
use Rattle.virtio_queue.specs.Popping.{chain_from}
use Rattle.virtio_queue.specs.declared.any.AnyQueue.{AnyQueue}
use Rattle.virtio_queue.specs.declared.any.AnyQueue.TheVariants.{Split, Packed}
use Rattle.virtio_queue.specs.declared.error.QueueError.TheVariants as errors
use Rattle.virtio_queue.specs.declared.packed.descriptor.PackedDescriptor.{PackedDescriptor}
use Rattle.virtio_queue.specs.declared.packed.state.PackedState.{PackedState}
use Rattle.virtio_queue.specs.declared.state.QueueState.{QueueState}

-- the chain of a head of a split queue
abbrev pub chain_of_head : QueueState → ℕ → Tree (List Segment)
chain_of_head q head = if_ready q.ready (chain_from q head)

-- the segments of these descriptors: those of all but the last one, and then what that leads to
abbrev pub segments_after : List Segment → Option PackedDescriptor → Tree (List Segment)
segments_after front None = gives (Err errors.DescriptorLoop)
segments_after front (Some last) = keeps (last_after front last)

abbrev pub segments_of : List PackedDescriptor → Tree (List Segment)
segments_of ds =
    segments_after (map segment_of (take (length ds - 1) ds)) (slice_get ds (length ds - 1))

-- the chain of descriptors of a packed queue, as they lay in its ring
abbrev pub chain_of_copies : PackedState → List PackedDescriptor → Tree (List Segment)
chain_of_copies q ds =
    if_ready q.ready (and_takes (segments_of ds) (λ ss. gives (if_chain ss (chain_fault ss))))

-- a chain of either kind, by its head or its descriptors
abbrev pub again : AnyQueue → ℕ → List PackedDescriptor → Tree (List Segment)
again (Split q) head ds = chain_of_head q.state head
again (Packed q) head ds = chain_of_copies q.state ds
