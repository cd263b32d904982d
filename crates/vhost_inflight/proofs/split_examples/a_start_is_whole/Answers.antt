use Rattle.std.proofs.Common.{◌≡◌, arith, refl, None}
use Rattle.vhost_inflight.specs.SplitExamples.{cut_off}
use Rattle.vhost_inflight.specs.SplitStart.{fault}
use Rattle.vhost_inflight.proofs.split_examples.a_start_is_whole.Goals as goal

pub returns-clause-settles : goal.returns-clause-settles
returns-clause-settles c =
    let accepted : fault 4 4 cut_off.region cut_off.used ≡ None = refl in
    c.starts_settle_what_was_returned.ensures 4 4 cut_off.used cut_off.region (omega arith) accepted
