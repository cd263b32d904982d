use Rattle.std.proofs.Common.{◌+◌, arith, refl, subst, sym, take}
use Rattle.std.proofs.lemmas.List.{length-take, take_more}
use Rattle.live_migration.specs.Sending.{IsRun}
use Rattle.live_migration.proofs.RunLemmas.{run_more}
use Rattle.live_migration.proofs.sender.pages.pages_in_a_row.Goals as goal

pub loop-i-preserved : goal.loop-i-preserved
loop-i-preserved c =
    let i = c.loop-i.i in
    let pages = c.args.pages.now in
    let size = c.args.page_size in
    let bytes = c.args.bytes.now in
    let first = c.args.first + 1 in
    let at = c.if-not-follows.ensures.at refl in
    let written = c.if-not-follows.ensures.written refl in
    subst (IsRun size bytes first) (sym (take_more pages i _ c.loop-i-test.true))
    (run_more size bytes (take i pages) first _ c.loop-i.invariant (omega (arith, at, length-take i pages)) written)
