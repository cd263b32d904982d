use Rattle.std.proofs.Common.{List, take, subst, sym}
use Rattle.std.proofs.lemmas.List.{take_more}
use Rattle.live_migration.specs.Sending.{AreMarkedAgain}
use Rattle.live_migration.specs.declared.sender.pages.Target.{Target}
use Rattle.live_migration.proofs.SenderLemmas.{marked_more}
use Rattle.live_migration.proofs.sender.pages.mark_targets.Goals as goal

pub loop-target-preserved : goal.loop-target-preserved
loop-target-preserved g c =
    let pages = g.B.ExactBitmap.pages in
    let targets = c.args.targets.now in
    let i = c.loop-target.target-index in
    subst (λ (ts : List Target). AreMarkedAgain pages ts c.args.host.now c.mark_again.new.host)
    (sym (take_more targets i _ c.loop-target-test.true))
    (marked_more pages (take i targets) _ c.args.host.now c.loop-target.host c.mark_again.new.host
    c.loop-target.invariant c.mark_again.ensures)
