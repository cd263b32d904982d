use Rattle.std.proofs.Common.{◌-◌}
use Rattle.virtio_blk.proofs.ServeFacts.{LoadedSoFar}
use Rattle.virtio_blk.proofs.device.pieces.load.Given as goal

abbrev pub invariant-loop-moved : goal.invariant-loop-moved
invariant-loop-moved g l =
    LoadedSoFar g.B.Bitmap.marks g.D.Disk.bytes g.D.Disk.sectors g.D.Disk.calls (g.M.GuestMemory.memory l.fn.mem)
    l.fn.host l.fn.writer l.sector l.fn.disk l.moved l.disk l.host l.writer

abbrev pub decreases-loop-moved : goal.decreases-loop-moved
decreases-loop-moved g l = l.len - l.moved
