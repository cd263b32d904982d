use Rattle.std.proofs.Common.{◌≡◌, ◌++◌, map, take}
use Rattle.virtio_queue.specs.PackedRing.{segment_of}
use Rattle.virtio_queue.proofs.packed.again.add_all.Given as goal

-- those so far were added
abbrev pub invariant-loop-descriptor : goal.invariant-loop-descriptor
invariant-loop-descriptor l =
    l.segments.items ≡ l.fn.segments.items ++ map segment_of (take l.descriptor-index l.descriptors)
