use Rattle.vm_memory_base.proofs.ArrayLemmas.{zeros}
use Rattle.vm_memory_base.proofs.bytes.arrays.ArrayByteValued.zeroed.Goals as goal

pub returns : goal.returns
returns g c =
    zeros g.T.ByteSized.width g.T.FixedInteger.bytes g.met.T.FixedInteger.length_always g.row.N c.zeroed.result
    c.zeroed.ensures
