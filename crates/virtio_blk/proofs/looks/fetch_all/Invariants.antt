use Rattle.std.proofs.Common.{◌-◌, length}
use Rattle.virtio_blk.proofs.LookFacts.{FetchedSoFar}
use Rattle.virtio_blk.proofs.looks.fetch_all.Given as goal

abbrev pub invariant-loop-filled : goal.invariant-loop-filled
invariant-loop-filled g l =
    FetchedSoFar g.F.Fetches.fetches l.fn.reader (length l.fn.buf) l.fn.guest l.filled l.buf l.reader l.guest

abbrev pub decreases-loop-filled : goal.decreases-loop-filled
decreases-loop-filled g l = l.len - l.filled
