use Rattle.std.proofs.Common.{◌-◌}
use Rattle.virtio_blk.proofs.ServeFacts.{StoredSoFar}
use Rattle.virtio_blk.proofs.device.pieces.store.Given as goal

abbrev pub invariant-loop-moved : goal.invariant-loop-moved
invariant-loop-moved g l =
    StoredSoFar g.D.Disk.bytes g.D.Disk.sectors g.D.Disk.calls (g.M.GuestMemory.memory l.fn.mem) l.fn.host
    l.fn.reader l.sector l.fn.disk l.moved l.disk l.reader

abbrev pub decreases-loop-moved : goal.decreases-loop-moved
decreases-loop-moved g l = l.len - l.moved
