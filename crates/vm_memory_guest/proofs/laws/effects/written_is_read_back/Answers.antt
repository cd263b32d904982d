use Rattle.vm_memory_guest.proofs.WrittenLaws.{bytes_at-written}
use Rattle.vm_memory_guest.proofs.laws.effects.written_is_read_back.Goals as goal

pub returns : goal.returns
returns c = bytes_at-written
