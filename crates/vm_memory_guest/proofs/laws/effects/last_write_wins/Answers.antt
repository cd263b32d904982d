use Rattle.vm_memory_guest.proofs.WrittenLaws.{byte_at-written_last}
use Rattle.vm_memory_guest.proofs.laws.effects.last_write_wins.Goals as goal

pub returns : goal.returns
returns c = byte_at-written_last
