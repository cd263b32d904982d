use Rattle.vm_memory_guest.proofs.WrittenLaws.{byte_at-written_other, lengths-written}
use Rattle.vm_memory_guest.proofs.laws.effects.other_bytes_stay.Goals as goal

pub returns : goal.returns
returns c = record { bytes = byte_at-written_other; lengths = lengths-written }
