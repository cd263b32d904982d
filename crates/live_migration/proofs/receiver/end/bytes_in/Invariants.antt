use Rattle.std.proofs.Common.{◌≡◌, ◌-◌, ◌^◌, min, take}
use Rattle.live_migration.specs.Receiving.{memory_of}
use Rattle.live_migration.proofs.receiver.end.bytes_in.Given as goal

abbrev pub invariant-loop-entry : goal.invariant-loop-entry
invariant-loop-entry l = l.bytes ≡ min (2 ^ 64 - 1) (memory_of (take l.entry-index l.entries))
