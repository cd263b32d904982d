use Rattle.std.proofs.Common.{[], ◌∷◌, ◌++◌, List, ℕ, true, Option, refl, subst}
use Rattle.live_migration.specs.Calls as call
use Rattle.live_migration.specs.Calls.{HasBegun, Moment}
use Rattle.live_migration.specs.Leave.{BeginsToSend}
use Rattle.live_migration.specs.Rounds.{story}
use Rattle.tests_migration.proofs.steps.send_rounds.Goals as goal

pub loop-round-init : goal.loop-round-init
loop-round-init g c = λ empty.
    let contents = g.W.Write.contents in
    let began = c.in_ok-sender.ensures in
    let heard = c.in_ok-ready.ensures in
    let header = contents c.begin.new.writer in
    let first : Moment g.row.B.Denot = record {
      sender = c.in_ok-sender.sender;
      host = c.args.host.now;
      stream = header;
    } in
    let ready : Moment g.row.B.Denot = record { sender = c.ready.new.self; host = c.args.host.now; stream = header } in
    let begun : HasBegun g.B.ExactBitmap.pages first = record {
      digests = true;
      begun = subst (λ (x : Option (List ℕ)). BeginsToSend true x header c.in_ok-sender.sender) empty began.begun;
      targets = began.targets;
    } in (
      first,
      begun,
      call.Ready ∷ [],
      (
        ready,
        record { rounds = heard.same.0; hasher = heard.same.1; host = refl; stream = refl },
        refl,
      ),
    )

pub loop-round-preserved : goal.loop-round-preserved
loop-round-preserved g c = λ empty.
    let contents = g.W.Write.contents in
    let was = c.loop-round.invariant empty in
    let more = c.in_ok-send_round.ensures in
    let mid : Moment g.row.B.Denot = record {
      sender = c.loop-round.sender;
      host = c.loop-round.host;
      stream = contents c.loop-round.writer;
    } in
    let last : Moment g.row.B.Denot = record {
      sender = c.send_round.new.sender;
      host = c.send_round.new.host;
      stream = contents c.send_round.new.writer;
    } in
    (was.0, was.1, was.2 ++ more.0, c.calls_add_up.ensures was.2 more.0 was.0 mid last was.3 more.1)

pub returns : goal.returns
returns g c = λ empty.
    let was = c.loop-round.invariant empty in
    let last : Moment g.row.B.Denot = record {
      sender = c.loop-round.sender;
      host = c.loop-round.host;
      stream = g.W.Write.contents c.loop-round.writer;
    } in
    let r = c.receivers_have_what_was_sent.ensures.rounds was.2 was.0 last was.1 was.3 in
    (story r.1 r.0, r.4, c.no_page_is_lost.ensures r.1 r.0 r.2 r.3)
