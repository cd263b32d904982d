use Rattle.vm_memory.proofs.RoundsLemmas.{read_of_image}
use Rattle.vm_memory.proofs.laws.machine.reads_are_of_the_image.Goals as goal

pub returns : goal.returns
returns c = read_of_image
