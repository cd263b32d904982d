use Rattle.std.proofs.Common.{ap, slice_index}
use Rattle.vm_memory_base.proofs.ByteLemmas.{taken}
use Rattle.vm_memory_base.proofs.bytes.integers.byte_of.Goals as goal

pub returns : goal.returns
returns c =
    ap (λ l. slice_index l c.args.i)
    (taken c.args.size c.args.bits c.to_le_bytes.result c.requires.small c.to_le_bytes.ensures)
