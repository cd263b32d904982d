use Rattle.vm_memory_base.proofs.ByteLemmas.{reverse-to_le_bytes}
use Rattle.vm_memory_base.proofs.laws.bytes.turned_bytes_are_big_endian.Goals as goal

pub returns : goal.returns
returns c = reverse-to_le_bytes
