use Rattle.std.proofs.Common.{◌≡◌, arith, rules, refl, [], ◌∷◌}
use Rattle.vhost_inflight.specs.PackedCrash.{IsFresh, looked_at, position}
use Rattle.vhost_inflight.specs.PackedExamples.{cut_off, events, fresh}
use Rattle.vhost_inflight.specs.PackedStart.{Flies}
use Rattle.vhost_inflight.proofs.packed_examples.a_packed_example_is_cut_off.Goals as goal

pub returns-clause-goes_on : goal.returns-clause-goes_on
returns-clause-goes_on c =
    let begins : IsFresh 2 fresh = search rules in
    c.every_crash_leaves_what_was_popped.ensures 2 2 0 fresh (λ s. 0) events begins (omega arith) (omega arith)
    (omega arith) (omega arith)

pub returns-clause-alone : goal.returns-clause-alone
returns-clause-alone c = λ heads flies.
    let again : Flies cut_off.region (position 2 0) (looked_at cut_off) (1 ∷ []) = search rules in
    c.one_list_is_served_again.ensures cut_off.region (position 2 0) (looked_at cut_off) heads (1 ∷ []) flies again
