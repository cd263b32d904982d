use Rattle.std.proofs.Common.{◌-◌}
use Rattle.virtio_blk.proofs.ProcessFacts.{ServedSoFar}
use Rattle.virtio_blk.proofs.device.BlockDevice.serve_all.Given as goal

abbrev pub invariant-loop-count : goal.invariant-loop-count
invariant-loop-count g l =
    ServedSoFar g.B.Bitmap.marks g.D.Disk.bytes g.D.Disk.sectors g.D.Disk.calls (g.M.GuestMemory.memory l.fn.mem)
    l.most l.count (record { device = l.fn.self; queue = l.fn.queue; host = l.fn.host })
    (record { device = l.self; queue = l.queue; host = l.host })

abbrev pub decreases-loop-count : goal.decreases-loop-count
decreases-loop-count g l = l.most - l.count
