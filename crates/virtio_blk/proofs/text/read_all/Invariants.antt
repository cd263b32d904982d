use Rattle.std.proofs.Common.{◌-◌, length}
use Rattle.virtio_blk.proofs.TextFacts.{ReadSoFar}
use Rattle.virtio_blk.proofs.text.read_all.Given as goal

abbrev pub invariant-loop-filled : goal.invariant-loop-filled
invariant-loop-filled g l =
    ReadSoFar (g.M.GuestMemory.memory l.fn.mem) l.fn.host l.fn.reader (length l.fn.buf) l.filled l.buf l.reader

abbrev pub decreases-loop-filled : goal.decreases-loop-filled
decreases-loop-filled g l = l.len - l.filled
