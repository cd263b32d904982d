use Rattle.std.proofs.Common.{ap, sym, ◌∙◌}
use Rattle.std.proofs.lemmas.Option.{same_Some}
use Rattle.vm_memory_base.specs.Table.{Table, changed_by, says}
use Rattle.vhost_iotlb.proofs.CallLemmas.{table_is_left}
use Rattle.vhost_iotlb.proofs.laws.tables_say_what_was_updated_last.Goals as goal

pub returns : goal.returns
returns g c =
    let said = c.tables_say_what_calls_left.ensures in
    record {
      all = λ number x regions ms calls old new t h there fits. (
        changed_by calls t,
        table_is_left number regions ms calls old new t h there,
        c.tables_keep_to_their_limits.ensures.events calls t x fits,
      );
      last = λ number x regions ms calls old new t u call h there after fits is.
          let left = table_is_left number regions ms calls old new t h there in
          ap (λ (v : Table). says v x) (same_Some u (changed_by calls t) (sym after ∙ left))
          ∙ said.last calls t x call fits is;
    }
