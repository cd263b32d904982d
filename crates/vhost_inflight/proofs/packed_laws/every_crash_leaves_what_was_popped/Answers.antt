use Rattle.vhost_inflight.proofs.PackedCrashLemmas.{history_goes_on}
use Rattle.vhost_inflight.proofs.packed_laws.every_crash_leaves_what_was_popped.Goals as goal

pub returns : goal.returns
returns c = history_goes_on
