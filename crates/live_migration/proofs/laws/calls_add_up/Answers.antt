use Rattle.live_migration.proofs.CallsLemmas.{calls-append}
use Rattle.live_migration.proofs.laws.calls_add_up.Goals as goal

pub returns : goal.returns
returns g c = calls-append g.B.ExactBitmap.pages
