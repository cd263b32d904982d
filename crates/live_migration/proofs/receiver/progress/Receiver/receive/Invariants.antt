use Rattle.live_migration.specs.Receiving.{Receives}
use Rattle.live_migration.proofs.receiver.progress.Receiver.receive.Given as goal

abbrev pub invariant-loop : goal.invariant-loop
invariant-loop g l =
    Receives g.B.Bitmap.marks (g.R.Read.remaining l.initial.reader) l.initial.self.seen l.initial.host l.host
    (g.W.Write.contents l.initial.writer) (g.W.Write.contents l.writer) (g.R.Read.remaining l.reader) l.self.seen
