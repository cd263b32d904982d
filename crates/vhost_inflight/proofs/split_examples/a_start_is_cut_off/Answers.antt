use Rattle.std.proofs.Common.{◌≡◌, ◌++◌, arith, rules, refl, [], ◌∷◌, None}
use Rattle.vhost_inflight.specs.SplitCrash.{Cut, IsFresh, Start}
use Rattle.vhost_inflight.specs.SplitExamples.{cut_off, events, fresh}
use Rattle.vhost_inflight.specs.SplitStart.{fault}
use Rattle.vhost_inflight.proofs.split_examples.a_start_is_cut_off.Goals as goal

pub returns-clause-goes_on : goal.returns-clause-goes_on
returns-clause-goes_on c =
    let begins : IsFresh 4 fresh = search rules in
    c.every_crash_leaves_what_was_popped.ensures 4 4 65535 fresh (events ++ Cut Start 1 ∷ []) begins (omega arith)
    (omega arith) (omega arith) (omega arith)

pub returns-clause-remains : goal.returns-clause-remains
returns-clause-remains c =
    let accepted : fault 4 4 cut_off.region cut_off.used ≡ None = refl in
    c.cut_starts_change_nothing.ensures 4 4 cut_off.used 1 cut_off.region (omega arith) accepted
