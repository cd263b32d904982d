use Rattle.std.proofs.Common.{◌≡◌}
use Rattle.live_migration.specs.Receiving.{ReceivesAll}
use Rattle.tests_migration.proofs.frames.take_all.Given as goal

abbrev pub invariant-loop : goal.invariant-loop
invariant-loop g l = record {
  came : ReceivesAll g.C.Bitmap.marks (g.R.Read.remaining l.initial.reader) (g.R.Read.remaining l.reader)
      l.initial.receiver.seen.base l.initial.receiver.seen.entries.items l.initial.host l.host;
  base : l.receiver.seen.base ≡ l.initial.receiver.seen.base;
  entries : l.receiver.seen.entries.items ≡ l.initial.receiver.seen.entries.items;
}
