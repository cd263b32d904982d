use Rattle.std.proofs.Common.{refl}
use Rattle.vm_memory_base.specs.Runs.{runs}
use Rattle.vm_memory_base.proofs.laws.examples.tables_after_calls.Goals as goal

pub returns : goal.returns
unfolding runs
returns c = record { one_run = refl; gap = refl; last_decides = refl; target_before = refl }
