use Rattle.std.proofs.Common.{◌≡◌, arith, false}
use Rattle.virtio_blk.proofs.LentFacts.{data_are, two_segments}
use Rattle.virtio_blk.proofs.lent.data_segment.Goals as goal

pub returns : goal.returns
returns c =
    let header = c.in_ok-header.header.now in
    let body = c.in_ok-body.body.now in
    let one = rw c.segments-segments.ensures at c.in_ok-header.ensures.lookup in
    let other = rw c.segments-segments.ensures at c.in_ok-body.ensures.lookup in
    let two = two_segments c.args.chain.now header body other.3.0 one.1 other.1 in
    let first : header.writable ≡ false = cc (c.if-header.false) in
    let second : body.writable ≡ false = cc (c.if-body.false) in
    rw two.1 (data_are header body two.0 c.args.len first second (omega (arith, c.if-header-ne16.false))
    (omega (arith, c.if-body-len.false)) (rw two.1 at c.requires))
