use Rattle.std.proofs.Common.{◌≡◌, ◌+◌, ◌-◌, ◌<◌, List, Result, Some, length}
use Rattle.virtio_queue.specs.Looks.{Follows}
use Rattle.virtio_queue.specs.PackedCopies.{copies_after}
use Rattle.virtio_queue.specs.declared.error.QueueError.{QueueError}
use Rattle.virtio_queue.specs.declared.packed.descriptor.PackedDescriptor.{PackedDescriptor}
use Rattle.virtio_queue.proofs.packed.copies.add_copies.Given as goal

-- what is copied from here is what is copied from the first descriptor
abbrev pub invariant-loop-count : goal.invariant-loop-count
invariant-loop-count g l =
    let look = g.L.Looks.looks in
    let q = l.fn.state in record {
      rest : (result : Result (List PackedDescriptor) QueueError) (end : g.row.L.Denot)
          → Follows look (copies_after q.desc_ring q.size (l.fn.room - l._count) l.list.items l.slot l.known) l.looks result end
          → Follows look (copies_after q.desc_ring q.size l.fn.room l.fn.list.items q.next_avail.slot (Some l.fn.flags)) l.fn.looks result end;
      inside : l.slot < q.size;
      count : length l.list.items ≡ length l.fn.list.items + l._count;
    }
