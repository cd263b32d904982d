use Rattle.std.proofs.Common.{◌≡◌, ◌-◌, take}
use Rattle.live_migration.specs.Receiving.{memory_of}
use Rattle.live_migration.proofs.receiver.begin.left_of.Given as goal

abbrev pub invariant-loop-entry : goal.invariant-loop-entry
invariant-loop-entry l = l.left ≡ l.limit - memory_of (take l.entry-index l.entries)
