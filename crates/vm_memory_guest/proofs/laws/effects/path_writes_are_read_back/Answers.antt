use Rattle.vm_memory_guest.proofs.EffectLaws.{bytes_read-after_write}
use Rattle.vm_memory_guest.proofs.laws.effects.path_writes_are_read_back.Goals as goal

pub returns : goal.returns
returns c = bytes_read-after_write
