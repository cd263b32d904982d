use Rattle.std.proofs.Common.{◌-◌, ◌<◌, None, Some, Result}
use Rattle.virtio_queue.specs.Looks.{Follows}
use Rattle.virtio_queue.specs.PackedPopping.{Taken, listing}
use Rattle.virtio_queue.specs.declared.error.QueueError.{QueueError}
use Rattle.virtio_queue.proofs.packed.chain.list.Given as goal

-- what is listed from here is what is listed from the first descriptor
abbrev pub invariant-loop-count : goal.invariant-loop-count
invariant-loop-count g l =
    let look = g.L.Looks.looks in
    let q = l.fn.state in record {
      rest : (result : Result Taken QueueError) (end : g.row.L.Denot)
          → Follows look (listing q.desc_ring q.size (l.fn.room - l.count) l.segments.items l.count l.slot None) l.looks result end
          → Follows look (listing q.desc_ring q.size l.fn.room l.fn.segments.items 0 q.next_avail.slot (Some l.fn.flags)) l.fn.looks result end;
      inside : l.slot < q.size;
    }
