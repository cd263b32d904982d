use Rattle.live_migration.proofs.AgainLemmas.{all_again}
use Rattle.live_migration.proofs.laws.aborted_rounds_lose_no_page.Goals as goal

pub returns : goal.returns
returns g c = λ ts old new are.
    let again = all_again c.mark_keeps_shape.ensures.shape c.marked_bytes_are_dirty.ensures.before
    c.marked_bytes_are_dirty.ensures.marked g.B.ExactBitmap.pages ts old new are in
    (again.blocks, again.dirtier.dirty, again.dirty)
