use Rattle.std.proofs.Common.{◌≡◌, [], List, Some}
use Rattle.live_migration.specs.Calls.{Call, DoAll, HasBegun, Moment}
use Rattle.tests_migration.proofs.steps.send_rounds.Given as goal

abbrev pub invariant-loop-round : goal.invariant-loop-round
invariant-loop-round g l = g.W.Write.contents l.fn.writer ≡ Some [] → (first : Moment g.row.B.Denot)
    × HasBegun g.B.ExactBitmap.pages first × (calls : List Call) × DoAll g.B.ExactBitmap.pages calls first
    (record { sender = l.sender; host = l.host; stream = g.W.Write.contents l.writer })
