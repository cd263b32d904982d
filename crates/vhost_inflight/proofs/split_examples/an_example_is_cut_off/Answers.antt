use Rattle.std.proofs.Common.{◌≡◌, arith, rules, refl, [], ◌∷◌, None}
use Rattle.vhost_inflight.specs.SplitCrash.{IsFresh}
use Rattle.vhost_inflight.specs.SplitExamples.{cut_off, events, fresh}
use Rattle.vhost_inflight.specs.SplitStart.{Flies, fault}
use Rattle.vhost_inflight.proofs.split_examples.an_example_is_cut_off.Goals as goal

pub returns-clause-goes_on : goal.returns-clause-goes_on
returns-clause-goes_on c =
    let begins : IsFresh 4 fresh = search rules in
    c.every_crash_leaves_what_was_popped.ensures 4 4 65535 fresh events begins (omega arith) (omega arith) (omega arith)
    (omega arith)

pub returns-clause-alone : goal.returns-clause-alone
returns-clause-alone c = λ heads flies.
    let again : Flies cut_off.region cut_off.used (3 ∷ 2 ∷ []) = search rules in
    c.one_list_is_served_again.ensures cut_off.region cut_off.used heads (3 ∷ 2 ∷ []) flies again

pub returns-clause-inside : goal.returns-clause-inside
returns-clause-inside c =
    let again : Flies cut_off.region cut_off.used (3 ∷ 2 ∷ []) = search rules in
    let accepted : fault 4 4 cut_off.region cut_off.used ≡ None = refl in
    c.no_head_is_outside_of_the_ring.ensures 4 4 cut_off.used cut_off.region (3 ∷ 2 ∷ []) accepted again
