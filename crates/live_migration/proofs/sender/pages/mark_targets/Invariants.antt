use Rattle.std.proofs.Common.{take}
use Rattle.live_migration.specs.Sending.{AreMarkedAgain}
use Rattle.live_migration.proofs.sender.pages.mark_targets.Given as goal

abbrev pub invariant-loop-target : goal.invariant-loop-target
invariant-loop-target g l =
    AreMarkedAgain g.B.ExactBitmap.pages (take l.target-index l.targets) l.initial.host l.host
