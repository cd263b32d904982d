use Rattle.std.proofs.Common.{◌∙◌, arith}
use Rattle.vhost_inflight.proofs.PackedStartLemmas.{linked-step}
use Rattle.vhost_inflight.proofs.packed_start.link.Goals as goal

pub loop-index-preserved : goal.loop-index-preserved
loop-index-preserved c =
    c.loop-index.invariant
    ∙ linked-step c.loop-index.entries c.args.descriptors c.loop-index.index (omega arith)
