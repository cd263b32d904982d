use Rattle.vm_memory_guest.proofs.LayoutLaws.{has_place}
use Rattle.vm_memory_guest.proofs.laws.regions.inserted_regions_stand_in_order.Goals as goal

pub returns : goal.returns
returns c = has_place
