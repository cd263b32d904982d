use Rattle.std.proofs.Common.{◌≡◌, ℕ, true, List, [], ◌∷◌, Option, refl, sym, ap, subst, ◌∙◌, add-zero}
use Rattle.std.specs.Global.{Vec}
use Rattle.std.specs.Prelude.{slice_get}
use Rattle.vm_memory_guest.specs.Host.{block_at}
use Rattle.live_migration.specs.Calls as call
use Rattle.live_migration.specs.Calls.{EndsPaused, HasBegun, Moment}
use Rattle.live_migration.specs.Leave.{BeginsToSend}
use Rattle.live_migration.specs.declared.sender.pages.Target.{Target}
use Rattle.live_migration.specs.declared.sender.rounds.Rounds.{Rounds}
use Rattle.tests_migration.proofs.TargetLemmas.{first_is}
use Rattle.tests_migration.proofs.whole.send_whole.Goals as goal

pub returns : goal.returns
returns g c = λ empty p next read.
    let contents = g.W.Write.contents in
    let pages = g.B.ExactBitmap.pages in
    let began = c.in_ok-sender.ensures in
    let heard = c.in_ok-ready.ensures in
    let taken = c.in_ok-harvest.ensures in
    let copy = c.in_ok-copy_batch.ensures in
    let send = c.in_ok-send_batch.ensures in
    let end = c.in_ok-end_round.ensures in
    let done = c.in_ok-done.ensures in
    let host = c.harvest.new.host in
    let header : Option (List ℕ) = contents c.begin.new.writer in
    let first : Moment g.row.B.Denot = record {
      sender = c.in_ok-sender.sender;
      host = c.args.host.now;
      stream = header;
    } in
    let ready : Moment g.row.B.Denot = record { sender = c.ready.new.self; host = c.args.host.now; stream = header } in
    let harvested : Moment g.row.B.Denot = record { sender = c.harvest.new.self; host = host; stream = header } in
    let copied : Moment g.row.B.Denot = record { sender = c.copy_batch.new.self; host = host; stream = header } in
    let sent : Moment g.row.B.Denot = record {
      sender = c.send_batch.new.self;
      host = host;
      stream = contents c.send_batch.new.writer;
    } in
    let ended : Moment g.row.B.Denot = record {
      sender = c.end_round.new.self;
      host = host;
      stream = contents c.end_round.new.writer;
    } in
    let last : Moment g.row.B.Denot = record {
      sender = c.done.new.self;
      host = host;
      stream = contents c.done.new.writer;
    } in
    let begun : HasBegun pages first = record {
      digests = true;
      begun = subst (λ (x : Option (List ℕ)). BeginsToSend true x header c.in_ok-sender.sender) empty began.begun;
      targets = began.targets;
    } in
    let paused : EndsPaused pages first last = record {
      before = call.Ready ∷ [];
      round = call.Harvest ∷ call.Copy c.in_ok-copy_batch.field-0 ∷ call.Send ∷ [];
      later = call.Done ∷ [];
      paused = ready;
      through = sent;
      runs = (
        ready,
        record { rounds = heard.same.0; hasher = heard.same.1; host = refl; stream = refl },
        refl,
      );
      begins = ap (λ (r : Rounds). r.turn) heard.same.0 ∙ began.begun.first.turn;
      goes = (
        harvested,
        record { taken = taken.taken; hasher = taken.same.0; stream = refl },
        (
          copied,
          record { copied = copy.copied; hasher = copy.same.0; host = refl; stream = refl },
          (
            sent,
            record {
              sent = send.sent;
              none = send.ok;
              kept = record {
                targets = send.same.0;
                waiting = send.same.2;
                next = send.same.3;
                last = send.same.5;
              };
              round = send.same.1;
              turn = send.same.4;
              host = refl;
            },
            refl,
          ),
        ),
      );
      ends = (
        ended,
        record {
          sent = λ digests bytes h. (end.fits digests bytes h, end.sent digests bytes h);
          idle = end.through.0;
          through = end.through.1;
          round = end.next.0;
          turn = end.next.1;
          kept = record { targets = end.same.0; waiting = end.same.1; next = end.same.2; last = end.same.4 };
          batch = end.same.3;
          host = refl;
        },
        (last, record { fits = tt; sent = done.sent; rounds = done.same; host = refl }, refl),
      );
      quiet = ((tt, (tt, (tt, tt))), (tt, tt));
    } in
    let items = λ (v : Vec Target). v.items in
    let t = first_is c.in_ok-sender.sender.rounds.targets.items (c.args.block.0, 0) began.asked in
    let targets : c.done.new.self.rounds.targets.items ≡ c.in_ok-sender.sender.rounds.targets.items =
    ap (λ (r : Rounds). r.targets.items) done.same ∙ ap items end.same.0 ∙ ap items send.same.0
    ∙ ap items copy.copied.same.0 ∙ ap items taken.taken.same.0
    ∙ ap (λ (r : Rounds). r.targets.items) heard.same.0 in
    let equal = c.receivers_have_what_was_sent.ensures.equal first last (contents c.go.new.writer) p next begun paused
    c.in_ok-go.ensures.sent read 0 t.target (ap (λ (ts : List Target). slice_get ts 0) targets ∙ t.at) in
    ap (block_at next.blocks) (sym (add-zero p.base)) ∙ equal ∙ ap (block_at host.blocks) t.is
