use Rattle.std.proofs.Common.{◌≡◌, ◌++◌, ◌∷◌, [], arith}
use Rattle.std.proofs.lemmas.Grind.{common_steps}
use Rattle.std.proofs.lemmas.Result.{err_from_is_err_and}
use Rattle.live_migration.specs.Header.{entries_in}
use Rattle.live_migration.proofs.HeaderLemmas.{unless_memory}
use Rattle.live_migration.proofs.HeaderLoop.{goes_on, ends, is_done}
use Rattle.live_migration.proofs.header.entries_in.Goals as goal

pub returns-in_err-entry : goal.returns-in_err-entry
returns-in_err-entry c =
    let total = entries_in c.args.count 0 c.args.limit c.args.bytes.now in
    let p = err_from_is_err_and c.from_residual.result c.from_residual.ensures.1 in
    rw (p.1, p.2) (unless_memory c.in_err-entry.field-0.0 total
    (ends c.loop.entries.items c.args.count c.loop.counter c.loop.from c.loop.left c.loop.rest.now total
    c.loop-test.true c.loop.invariant c.in_err-entry.field-0.0 c.in_err-entry.ensures.gives))

pub loop-preserved : goal.loop-preserved
loop-preserved c =
    let total = entries_in c.args.count 0 c.args.limit c.args.bytes.now in
    let entry = c.in_ok-entry.entry in
    let pushed : c.push.new.self.items ≡ c.loop.entries.items ++ entry ∷ [] = grind (arith, common_steps) in
    rw pushed (goes_on c.loop.entries.items c.args.count c.loop.counter c.loop.from c.loop.left c.loop.rest.now total
    c.loop-test.true c.loop.invariant entry c.in_ok-entry.after.now c.in_ok-entry.ensures.gives)

pub returns : goal.returns
returns c =
    is_done c.loop.entries.items c.args.count c.loop.counter c.loop.from c.loop.left c.loop.rest.now
    (entries_in c.args.count 0 c.args.limit c.args.bytes.now) c.loop-test.false c.loop.invariant
