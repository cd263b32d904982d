use Rattle.vhost_backend.proofs.LayoutLemmas.{layout_more}
use Rattle.vhost_backend.proofs.connection_memory.layout_of.Goals as goal

pub loop-number-preserved : goal.loop-number-preserved
loop-number-preserved c = layout_more c.args.host.now c.args.regions.now c.loop-number.number _ c.loop-number.layout
    c.in_ok-layout.layout c.loop-number-test.true c.loop-number.invariant c.in_ok-layout.ensures
