use Rattle.vm_memory_guest.proofs.RegionLaws.{layout-apart, containing_in-holds, containing_in-nowhere}
use Rattle.vm_memory_guest.proofs.laws.regions.home_holds_the_address.Goals as goal

pub returns : goal.returns
returns c = record {
  held = λ rs each h. containing_in-holds (λ r. r) rs (layout-apart rs each h);
  hole = containing_in-nowhere (λ r. r);
}
