use Rattle.vm_memory_guest.proofs.LayoutLaws.{removed-taken, removed-no_other}
use Rattle.vm_memory_guest.proofs.laws.regions.one_region_is_removed.Goals as goal

pub returns : goal.returns
returns c = record {
  taken = λ rs others base size r. removed-taken rs base size (others, r);
  none = removed-no_other;
}
