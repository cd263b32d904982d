use Rattle.std.proofs.Common.{[], ◌∷◌, ◌++◌, refl}
use Rattle.live_migration.specs.Calls as call
use Rattle.live_migration.specs.Calls.{DoAll, Moment}
use Rattle.tests_migration.proofs.steps.send_round.Goals as goal

pub returns : goal.returns
returns g c =
    let contents = g.W.Write.contents in
    let pages = g.B.ExactBitmap.pages in
    let taken = c.in_ok-harvest.ensures in
    let put = c.put_marked.ensures in
    let send = c.in_ok-send_batch.ensures in
    let end = c.in_ok-end_round.ensures in
    let stream = contents c.args.writer.now in
    let copy = c.copies.ensures stream in
    let host = c.put_marked.new.host in
    let first : Moment g.row.B.Denot = record { sender = c.args.sender.now; host = c.args.host.now; stream = stream } in
    let harvested : Moment g.row.B.Denot = record {
      sender = c.harvest.new.self;
      host = c.harvest.new.host;
      stream = stream;
    } in
    let written : Moment g.row.B.Denot = record { sender = c.harvest.new.self; host = host; stream = stream } in
    let copied : Moment g.row.B.Denot = record { sender = c.copies.new.sender; host = host; stream = stream } in
    let sent : Moment g.row.B.Denot = record {
      sender = c.send_batch.new.self;
      host = host;
      stream = contents c.send_batch.new.writer;
    } in
    let last : Moment g.row.B.Denot = record {
      sender = c.end_round.new.self;
      host = host;
      stream = contents c.end_round.new.writer;
    } in
    let before : DoAll pages (call.Harvest ∷ call.WriteGuest ∷ []) first written = (
      harvested,
      record { taken = taken.taken; hasher = taken.same.0; stream = refl },
      (
        written,
        record { windows = put.0; own = put.1; changes = put.2; sender = refl; stream = refl },
        refl,
      ),
    ) in
    let behind : DoAll pages (call.Send ∷ call.EndRound ∷ []) copied last = (
      sent,
      record {
        sent = send.sent;
        none = send.ok;
        kept = record { targets = send.same.0; waiting = send.same.2; next = send.same.3; last = send.same.5 };
        round = send.same.1;
        turn = send.same.4;
        host = refl;
      },
      (
        last,
        record {
          sent = λ digests bytes h. (end.fits digests bytes h, end.sent digests bytes h);
          idle = end.through.0;
          through = end.through.1;
          round = end.next.0;
          turn = end.next.1;
          kept = record { targets = end.same.0; waiting = end.same.1; next = end.same.2; last = end.same.4 };
          batch = end.same.3;
          host = refl;
        },
        refl,
      ),
    ) in
    let add = c.calls_add_up.ensures in (
      (call.Harvest ∷ call.WriteGuest ∷ []) ++ (copy.0 ++ (call.Send ∷ call.EndRound ∷ [])),
      add (call.Harvest ∷ call.WriteGuest ∷ []) (copy.0 ++ (call.Send ∷ call.EndRound ∷ [])) first written last before
          (add copy.0 (call.Send ∷ call.EndRound ∷ []) written copied last copy.1 behind),
    )
