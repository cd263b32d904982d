use Rattle.std.proofs.Common.{◌≡◌}
use Rattle.live_migration.specs.Words.{pages_set}
use Rattle.live_migration.proofs.sender.tracked.pages_set.Given as goal

abbrev pub invariant-loop-page : goal.invariant-loop-page
invariant-loop-page l = l.pages.items ≡ pages_set l.page l.words
