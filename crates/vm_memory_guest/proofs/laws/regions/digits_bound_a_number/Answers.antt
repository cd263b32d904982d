use Rattle.vm_memory_guest.proofs.LayoutLaws.{binary_digits-above, binary_digits-least}
use Rattle.vm_memory_guest.proofs.laws.regions.digits_bound_a_number.Goals as goal

pub returns : goal.returns
returns c = record { above = binary_digits-above; least = binary_digits-least }
