use Rattle.std.proofs.Common.{length, ◌∙◌}
use Rattle.vm_memory_base.proofs.ByteLemmas.{taken}
use Rattle.vm_memory_base.proofs.bytes.integers.write_number.Goals as goal

pub returns : goal.returns
returns c =
    c.copy_from_slice.ensures.after
    ∙ taken (length c.args.out.now) c.args.bits c.to_le_bytes-all.result c.requires c.to_le_bytes-all.ensures
