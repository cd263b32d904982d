use Rattle.vm_memory_guest.proofs.RegionLaws.{layout-one}
use Rattle.vm_memory_guest.proofs.laws.regions.one_region_holds_an_address.Goals as goal

pub returns : goal.returns
returns c = layout-one
