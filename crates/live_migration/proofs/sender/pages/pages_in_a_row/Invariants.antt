use Rattle.std.proofs.Common.{◌+◌, take}
use Rattle.live_migration.specs.Sending.{IsRun}
use Rattle.live_migration.proofs.sender.pages.pages_in_a_row.Given as goal

abbrev pub invariant-loop-i : goal.invariant-loop-i
invariant-loop-i l = IsRun l.page_size l.bytes (l.first + 1) (take l.i l.pages)
