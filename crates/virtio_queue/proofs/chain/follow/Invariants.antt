use Rattle.std.proofs.Common.{◌-◌, Result}
use Rattle.virtio_queue.specs.Available.{Followed}
use Rattle.virtio_queue.specs.Looks.{Follows}
use Rattle.virtio_queue.specs.Popping.{following}
use Rattle.virtio_queue.specs.declared.error.QueueError.{QueueError}
use Rattle.virtio_queue.proofs.chain.follow.Given as goal

-- what follows from here is what follows from the first descriptor
abbrev pub invariant-loop-step : goal.invariant-loop-step
invariant-loop-step g l = let look = g.L.Looks.looks in
    (result : Result Followed QueueError) (end : g.row.L.Denot)
    → Follows look (following l.fn.table l.fn.len (l.fn.len - l._step) l.segments.items l.index) l.looks result end
    → Follows look (following l.fn.table l.fn.len l.fn.len l.fn.segments.items l.fn.first) l.fn.looks result end
