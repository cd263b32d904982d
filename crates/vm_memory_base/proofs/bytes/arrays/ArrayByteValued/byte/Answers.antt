use Rattle.std.proofs.Common.{arith, ◌∙◌}
use Rattle.vm_memory_base.proofs.ArrayLemmas.{byte_found}
use Rattle.vm_memory_base.proofs.bytes.arrays.ArrayByteValued.byte.Goals as goal

pub returns : goal.returns
returns g c =
    c.byte.ensures
    ∙ byte_found g.T.ByteSized.width g.T.FixedInteger.bytes g.met.T.FixedInteger.length_always c.args.self.now g.row.N
    c.args.i c.bytes_count-width.result
    c.index-self-i.result (omega arith) c.bytes_count-width.ensures.value c.bytes_count-width.ensures.positive
    c.requires
