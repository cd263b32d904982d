use Rattle.std.proofs.Common.{◌≡◌, ◌∙◌, arith}
use Rattle.vhost_inflight.proofs.PackedStartLemmas.{pairs_in_order}
use Rattle.vhost_inflight.proofs.packed_start.in_order.Goals as goal

pub returns : goal.returns
returns c =
    let end : c.args.descriptors ≡ c.loop-head.head = omega arith in
    rw (c.in_ok-heads.ensures, c.deref.ensures.value)
    (pairs_in_order c.args.entries.now c.loop-head.head c.loop-head.pairs.items _ (c.requires ∙ end)
    c.loop-head.invariant.counts c.loop-head.invariant.of c.sort_unstable.ensures.permutation
    c.sort_unstable.ensures.sorted)
