use Rattle.std.proofs.Common.{◌≡◌, ◌-◌}
use Rattle.live_migration.specs.Header.{entries_in}
use Rattle.live_migration.proofs.HeaderLoop.{with_front}
use Rattle.live_migration.proofs.header.entries_in.Given as goal

abbrev pub invariant-loop : goal.invariant-loop
invariant-loop l =
    with_front l.entries.items (entries_in (l.count - l.counter) l.from l.left l.rest)
    ≡ entries_in l.count 0 l.limit l.bytes
