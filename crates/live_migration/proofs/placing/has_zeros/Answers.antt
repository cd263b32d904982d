use Rattle.std.proofs.Common.{ap, ◌∙◌}
use Rattle.vm_memory_guest.specs.Host.{bytes_at}
use Rattle.vm_memory_guest.specs.Window.{Window, cells_of}
use Rattle.live_migration.specs.Image.{are_zero}
use Rattle.live_migration.proofs.PlacingLemmas.{place_bytes}
use Rattle.live_migration.proofs.placing.has_zeros.Goals as goal

pub returns : goal.returns
returns g c =
    c.are_zero.ensures ∙ ap are_zero (c.bytes.ensures
    ∙ ap (λ (w : Window). bytes_at c.args.host.now.blocks (cells_of w)) c.window-window.ensures.value
    ∙ (place_bytes c.args.block.0 c.args.start c.args.len c.args.host.now c.requires.0).1)
