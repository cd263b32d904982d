use Rattle.std.proofs.Common.{rules, ◌≡◌, subst, sym, take}
use Rattle.std.proofs.KnownBytes.{Appends-nil}
use Rattle.std.specs.Io.KnownBytes.{Appends}
use Rattle.live_migration.specs.Replies.{reply_after}
use Rattle.live_migration.specs.declared.receiver.Stage.{Stage}
use Rattle.live_migration.specs.declared.receiver.Stage.TheVariants as stage
use Rattle.live_migration.proofs.ReceivingLemmas.{breaks_after, breaks_here, if_refused, kept_more, none_kept, received_more}
use Rattle.live_migration.proofs.receiver.progress.Receiver.receive.Goals as goal

pub loop-init : goal.loop-init
loop-init g c = none_kept g.B.Bitmap.marks (g.R.Read.remaining c.args.reader.now) (g.W.Write.contents c.args.writer.now)
    c.args.self.now.seen c.args.host.now

pub returns-in_err-stage-clause-refused : goal.returns-in_err-stage-clause-refused
returns-in_err-stage-clause-refused g c = rw c.in_err-stage.ensures.refused.0
    (if_refused c.from_residual.result
    (breaks_here g.B.Bitmap.marks (g.R.Read.remaining c.args.reader.now) (g.R.Read.remaining c.loop.reader)
    (g.W.Write.contents c.args.writer.now) (g.W.Write.contents c.loop.writer) c.args.self.now.seen c.loop.self.seen
    c.args.host.now c.loop.host c.loop.invariant))

pub returns-then-eq-clause-received : goal.returns-then-eq-clause-received
returns-then-eq-clause-received g c =
    let kept = c.loop.invariant.1 in
    received_more g.B.Bitmap.marks (g.R.Read.remaining c.args.reader.now) (g.R.Read.remaining c.loop.reader)
    (g.R.Read.remaining c.take.new.reader) c.args.self.now.seen.base c.args.self.now.seen.entries.items
    c.loop.self.seen c.take.new.self.seen c.args.host.now c.loop.host c.take.new.host kept.base kept.entries
    c.loop.invariant.0 c.in_ok-stage.ensures.taken.1

pub returns-then-eq-clause-kept : goal.returns-then-eq-clause-kept
returns-then-eq-clause-kept g c =
    let t = g.W.Write.contents c.loop.writer in
    let gone : c.take.new.self.seen.stage ≡ stage.Gone = search rules in
    kept_more g.B.Bitmap.marks (g.R.Read.remaining c.args.reader.now) (g.R.Read.remaining c.loop.reader)
    (g.R.Read.remaining c.take.new.reader) (g.W.Write.contents c.args.writer.now) t t c.args.self.now.seen
    c.loop.self.seen c.take.new.self.seen c.args.host.now c.loop.host c.take.new.host c.loop.invariant
    c.in_ok-stage.ensures.taken.1 (subst (λ (s : Stage). Appends t t (reply_after s)) (sym gone) (Appends-nil t))

pub returns-in_err-reply_after-clause-refused : goal.returns-in_err-reply_after-clause-refused
returns-in_err-reply_after-clause-refused g c =
    let t = g.W.Write.contents c.loop.writer in
    let u = g.W.Write.contents c.reply_after.new.writer in
    let some = c.in_err-reply_after.ensures.err in
    if_refused c.from_residual-in_err-reply_after.result
    (breaks_after g.B.Bitmap.marks (g.R.Read.remaining c.args.reader.now) (g.R.Read.remaining c.loop.reader)
    (g.R.Read.remaining c.take.new.reader) (g.W.Write.contents c.args.writer.now) t u c.args.self.now.seen
    c.loop.self.seen c.take.new.self.seen c.args.host.now c.loop.host c.take.new.host c.loop.invariant
    c.in_ok-stage.ensures.taken.1 some.0
    (subst (λ (s : Stage). Appends t u (take some.0 (reply_after s))) c.in_ok-stage.ensures.taken.0 some.1))

pub loop-preserved : goal.loop-preserved
loop-preserved g c =
    let t = g.W.Write.contents c.loop.writer in
    let u = g.W.Write.contents c.reply_after.new.writer in
    kept_more g.B.Bitmap.marks (g.R.Read.remaining c.args.reader.now) (g.R.Read.remaining c.loop.reader)
    (g.R.Read.remaining c.take.new.reader) (g.W.Write.contents c.args.writer.now) t u c.args.self.now.seen
    c.loop.self.seen c.take.new.self.seen c.args.host.now c.loop.host c.take.new.host c.loop.invariant
    c.in_ok-stage.ensures.taken.1
    (subst (λ (s : Stage). Appends t u (reply_after s)) c.in_ok-stage.ensures.taken.0 c.in_ok-reply_after.ensures.ok)

pub returns-clause-refused : goal.returns-clause-refused
returns-clause-refused g c =
    breaks_here g.B.Bitmap.marks (g.R.Read.remaining c.args.reader.now) (g.R.Read.remaining c.loop.reader)
    (g.W.Write.contents c.args.writer.now) (g.W.Write.contents c.loop.writer) c.args.self.now.seen c.loop.self.seen
    c.args.host.now c.loop.host c.loop.invariant
