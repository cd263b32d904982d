use Rattle.vm_memory_base.proofs.TableLaws.{runs-canonical_list, pieces-canonical_list, pieces-kept, failures-runs}
use Rattle.vm_memory_base.proofs.laws.table.pieces_are_cut.Goals as goal

pub returns : goal.returns
returns c = record {
  runs = runs-canonical_list;
  of_a_table = pieces-canonical_list;
  of_a_kept_list = pieces-kept;
  failures = failures-runs;
}
