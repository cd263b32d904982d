use Rattle.vm_memory_base.proofs.FlagsLemmas.{mask_bits}
use Rattle.vm_memory_base.proofs.bitmap.exclusive.mask.Goals as goal

pub returns : goal.returns
returns c = λ bit small. mask_bits c.args.first c.args.end bit c.requires.ordered c.requires.inside small
