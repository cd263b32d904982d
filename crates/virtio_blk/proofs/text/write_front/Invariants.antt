use Rattle.std.proofs.Common.{◌-◌}
use Rattle.virtio_blk.proofs.TextFacts.{WroteSoFar}
use Rattle.virtio_blk.proofs.text.write_front.Given as goal

abbrev pub invariant-loop-done : goal.invariant-loop-done
invariant-loop-done g l =
    WroteSoFar g.B.Bitmap.marks (g.M.GuestMemory.memory l.fn.mem) l.fn.writer l.buf l.fn.host l.done l.host l.writer

abbrev pub decreases-loop-done : goal.decreases-loop-done
decreases-loop-done g l = l.len - l.done
