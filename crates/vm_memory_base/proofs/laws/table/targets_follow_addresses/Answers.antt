use Rattle.vm_memory_base.proofs.TableLaws.{target-set, target_steps, sets_join, canonical_list-set}
use Rattle.vm_memory_base.proofs.laws.table.targets_follow_addresses.Goals as goal

pub returns : goal.returns
returns c = record {
  set = target-set;
  steps = target_steps;
  neighbours = sets_join;
  alone = canonical_list-set;
}
