use Rattle.std.proofs.Common.{List, sym, ap, ◌∙◌}
use Rattle.vm_memory_base.specs.Runs.{AddressRun}
use Rattle.vm_memory_base.specs.Table.{Mapping, Table, InvalidateAll, changed}
use Rattle.vm_memory_base.proofs.EvictLemmas.{all_gone}
use Rattle.vm_memory_base.proofs.iotlb.table.Iotlb.invalidate_all.Goals as goal

pub returns-clause-all : goal.returns-clause-all
returns-clause-all c =
    let table : Table = record { limit = c.self.inside.limit; ranges = c.self.inside.ranges } in
    ap (λ (rs : List (AddressRun Mapping)). record table { ranges = rs }) c.clear.ensures ∙ sym (all_gone table)
    ∙ ap (changed InvalidateAll) c.self.view_is
