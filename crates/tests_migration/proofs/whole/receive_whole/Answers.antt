use Rattle.std.proofs.Common.{List, ℕ, Option, sym, subst, ◌∙◌}
use Rattle.live_migration.specs.Receiving.{ReceivesAll}
use Rattle.tests_migration.proofs.whole.receive_whole.Goals as goal

pub returns-in-Ok : goal.returns-in-Ok
returns-in-Ok g c =
    let remaining = g.R.Read.remaining in
    let seen = c.in_ok-receiver.receiver.seen in (
      seen,
      sym (c.in-Ok.ensures.base ∙ c.in_ok-receive.ensures.kept.1.base),
      λ empty. record {
        limit = 0x1_0000;
        host = c.args.host.now;
        begun = c.begin.new.host;
        rest = remaining c.begin.new.reader;
        header = c.in_ok-receiver.ensures.begun;
        frames = subst (λ (x : Option (List ℕ)). ReceivesAll g.C.Bitmap.marks (remaining c.begin.new.reader) x seen.base
            seen.entries.items c.begin.new.host c.receive.new.host) empty c.in_ok-receive.ensures.received;
      },
    )
