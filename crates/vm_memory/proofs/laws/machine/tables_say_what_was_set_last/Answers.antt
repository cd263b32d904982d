use Rattle.std.proofs.Common.{ap, sym, ◌∙◌}
use Rattle.std.proofs.lemmas.Option.{same_Some}
use Rattle.vm_memory_base.specs.Table.{Table, changed_by, says}
use Rattle.vm_memory.specs.History.{table_calls}
use Rattle.vm_memory.proofs.CallLemmas.{history_laws}
use Rattle.vm_memory.proofs.RunLemmas.{run_leaves}
use Rattle.vm_memory.proofs.laws.machine.tables_say_what_was_set_last.Goals as goal

pub returns : goal.returns
returns c =
    let laws =
    history_laws c.path_writes_keep_shapes.ensures.tables c.transfers_in_mark_what_they_change.ensures in
    let said = c.tables_say_what_calls_left.ensures in
    record {
      all = λ old new cs rs number x t run there fits. (
        changed_by (table_calls number cs rs) t,
        (run_leaves laws number old cs rs new run).left t there,
        c.tables_keep_to_their_limits.ensures.events (table_calls number cs rs) t x fits,
      );
      last = λ old new cs rs number x t u call run there after fits is.
          let left = (run_leaves laws number old cs rs new run).left t there in
          ap (λ (v : Table). says v x) (same_Some u (changed_by (table_calls number cs rs) t) (sym after ∙ left))
          ∙ said.last (table_calls number cs rs) t x call fits is;
      opening = λ old new cs rs number x t u run there after fits uncovered.
          let left = (run_leaves laws number old cs rs new run).left t there in
          ap (λ (v : Table). says v x) (same_Some u (changed_by (table_calls number cs rs) t) (sym after ∙ left))
          ∙ said.opening (table_calls number cs rs) t x fits uncovered;
      count = λ old new cs rs run. (run_leaves laws 0 old cs rs new run).count;
    }
