use Rattle.vm_memory_base.proofs.TableLaws.{canonical_list-of_values, canonical_list-value_at, canonical_list-kept}
use Rattle.vm_memory_base.proofs.laws.table.kept_list_is_the_canonical_list.Goals as goal

pub returns : goal.returns
returns c = record {
  by_values = canonical_list-of_values;
  by_ends = canonical_list-value_at;
  of_a_table = canonical_list-kept;
}
