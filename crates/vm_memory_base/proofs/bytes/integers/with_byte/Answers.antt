use Rattle.vm_memory_base.proofs.ByteLemmas.{replaced}
use Rattle.vm_memory_base.proofs.bytes.integers.with_byte.Goals as goal

pub returns-clause-bytes : goal.returns-clause-bytes
returns-clause-bytes c =
    replaced c.args.size c.args.i c.args.b c.args.bits c.number_in.result c.to_le_bytes-all.result c.requires.small
    c.requires.inside c.to_le_bytes-all.ensures c.number_in.ensures.bytes
