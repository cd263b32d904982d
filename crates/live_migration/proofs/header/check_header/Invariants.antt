use Rattle.std.proofs.Common.{drop}
use Rattle.live_migration.proofs.HeaderLemmas.{StillLeft}
use Rattle.live_migration.proofs.header.check_header.Given as goal

abbrev pub invariant-loop-entry : goal.invariant-loop-entry
invariant-loop-entry l = StillLeft l.limit l.entries l.from l.left (drop l.entry-index l.entries)
