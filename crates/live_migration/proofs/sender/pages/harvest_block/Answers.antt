use Rattle.live_migration.proofs.SenderLemmas.{refused_same}
use Rattle.live_migration.proofs.sender.pages.harvest_block.Goals as goal

pub returns-clause-err : goal.returns-clause-err
returns-clause-err g c =
    refused_same c.harvest.result _ c.args.host.now c.args.block.0 c.bitmap_mut.result.now c.harvest.new.self
    c.bitmap_mut.ensures.value c.harvest.ensures.refused
