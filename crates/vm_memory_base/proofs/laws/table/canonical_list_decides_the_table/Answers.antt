use Rattle.vm_memory_base.proofs.TableLaws.{canonical_canonical_list, value_at-canonical_list, canonical_list-agree, agree_from_canonical_list, one_canonical_list, same_mapping_tests_equality}
use Rattle.vm_memory_base.proofs.laws.table.canonical_list_decides_the_table.Goals as goal

pub returns : goal.returns
returns c = record {
  canonical = canonical_canonical_list;
  values = value_at-canonical_list;
  same_list = canonical_list-agree;
  same_values = agree_from_canonical_list;
  one_list = one_canonical_list;
  same_mapping = same_mapping_tests_equality;
}
