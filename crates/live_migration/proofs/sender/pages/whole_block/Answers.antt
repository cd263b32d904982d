use Rattle.live_migration.proofs.SenderLemmas.{whole_bytes}
use Rattle.live_migration.proofs.sender.pages.whole_block.Goals as goal

pub returns : goal.returns
returns g c =
    rw (c.bytes.ensures, c.window-window.ensures.value)
    (whole_bytes c.args.host.now.blocks c.args.block.0 c.block_len.result c.block_len.ensures.value)
