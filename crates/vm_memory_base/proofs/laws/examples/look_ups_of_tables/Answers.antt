use Rattle.std.proofs.Common.{refl}
use Rattle.vm_memory_base.specs.Runs.{runs}
use Rattle.vm_memory_base.specs.Table.{each}
use Rattle.vm_memory_base.proofs.laws.examples.look_ups_of_tables.Goals as goal

pub returns : goal.returns
unfolding runs each
returns c = record {
  empty = refl;
  not_mapped = refl;
  end_is_no_address = refl;
  end_is_the_greatest = refl;
  across_a_gap = refl;
  pieces_around_it = refl;
  why_missed = refl;
  forbidden = refl;
  why_forbidden = refl;
  two_permissions = refl;
  two_differences = refl;
}
