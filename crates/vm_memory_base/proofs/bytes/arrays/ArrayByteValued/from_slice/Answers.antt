use Rattle.std.proofs.Common.{arith}
use Rattle.vm_memory_base.proofs.ArrayLemmas.{values_at}
use Rattle.vm_memory_base.proofs.bytes.arrays.ArrayByteValued.from_slice.Goals as goal

pub returns : goal.returns
returns g c = (
  omega arith,
  values_at g.T.ByteSized.width g.T.FixedInteger.bytes g.met.T.FixedInteger.length_always g.T.FixedInteger.value_of
      g.row.N c.loop-k.all c.args.data.now c.loop-k.invariant.count
      (λ j d inside. c.loop-k.invariant.filled j d (omega arith)),
)
