use Rattle.std.proofs.Common.{arith, ap, ◌∙◌, replicate}
use Rattle.std.proofs.Math.Nat.{one-le-pow}
use Rattle.std.proofs.lemmas.List.{length-replicate}
use Rattle.vm_memory_base.proofs.ByteLemmas.{low-zero, zeros_are_bytes}
use Rattle.vm_memory_base.proofs.bytes.AnyByteValued.zeroed.Goals as goal

pub from_bits-requires : goal.from_bits-requires
from_bits-requires g c = omega (arith, one-le-pow g.T.ByteSized.width 256 (omega arith))

pub returns : goal.returns
returns g c =
    let width = g.T.ByteSized.width in
    ap g.T.FixedInteger.bytes (c.from_bits.ensures ∙ ap g.T.FixedInteger.value_of (low-zero 0 width))
    ∙ g.met.T.FixedInteger.laws.to_bytes (replicate width 0) (length-replicate width 0) (zeros_are_bytes width)
