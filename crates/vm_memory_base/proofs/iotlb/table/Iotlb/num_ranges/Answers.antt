use Rattle.std.proofs.Common.{◌≡◌, subst}
use Rattle.vm_memory_base.specs.Table.{Table, says, canonical_list}
use Rattle.vm_memory_base.proofs.ChangeLemmas.{kept_is_canonical}
use Rattle.vm_memory_base.proofs.iotlb.table.Iotlb.num_ranges.Goals as goal

pub returns-clause-canonical : goal.returns-clause-canonical
returns-clause-canonical c =
    subst (λ (t : Table). canonical_list (says t) ≡ t.ranges) c.self.view_is
    (kept_is_canonical c.self.inside.ranges c.self.invariant.0)
