use Rattle.std.proofs.Common.{◌-◌, List, Result}
use Rattle.vm_memory_device.specs.declared.chain.Segment.{Segment}
use Rattle.virtio_queue.specs.Looks.{Follows}
use Rattle.virtio_queue.specs.PackedPopping.{rows_after}
use Rattle.virtio_queue.specs.declared.error.QueueError.{QueueError}
use Rattle.virtio_queue.proofs.packed.chain.add_rows.Given as goal

-- the rows from here on are those from the first one on
abbrev pub invariant-loop-index : goal.invariant-loop-index
invariant-loop-index g l = let look = g.L.Looks.looks in
    (result : Result (List Segment) QueueError) (end : g.row.L.Denot)
    → Follows look (rows_after l.fn.table (l.fn.len - l.index) l.segments.items l.index) l.looks result end
    → Follows look (rows_after l.fn.table l.fn.len l.fn.segments.items 0) l.fn.looks result end
