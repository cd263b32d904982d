use Rattle.vm_memory.specs.History.{table_calls}
use Rattle.vm_memory.proofs.CallLemmas.{history_laws}
use Rattle.vm_memory.proofs.RunLemmas.{run_leaves}
use Rattle.vm_memory.proofs.laws.machine.accesses_go_through_what_was_set_last.Goals as goal

pub returns : goal.returns
returns c =
    let laws =
    history_laws c.path_writes_keep_shapes.ensures.tables c.transfers_in_mark_what_they_change.ensures in
    let gone = c.accesses_go_through_what_calls_left.ensures in
    record {
      all = λ old now cs rs m b t a n i access x run on there.
          gone.all now.host.tables m b t (table_calls b.table cs rs) a n i access x on
          ((run_leaves laws b.table old cs rs now run).left t there);
      set = λ old now cs rs m b t a n i iova to len access perm x run on there.
          gone.set now.host.tables m b t (table_calls b.table cs rs) a n i iova to len access perm x on
          ((run_leaves laws b.table old cs rs now run).left t there);
      invalidated = λ old now cs rs m b t a n i access x call run on there.
          gone.invalidated now.host.tables m b t (table_calls b.table cs rs) a n i access x call on
          ((run_leaves laws b.table old cs rs now run).left t there);
      opening = λ old now cs rs m b t a n i access x run on there.
          gone.opening now.host.tables m b t (table_calls b.table cs rs) a n i access x on
          ((run_leaves laws b.table old cs rs now run).left t there);
    }
