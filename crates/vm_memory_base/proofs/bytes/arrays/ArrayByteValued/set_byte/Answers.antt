use Rattle.std.proofs.Common.{arith}
use Rattle.vm_memory_base.proofs.ArrayLemmas.{put_found}
use Rattle.vm_memory_base.proofs.bytes.arrays.ArrayByteValued.set_byte.Goals as goal

pub returns : goal.returns
returns g c =
    put_found g.T.ByteSized.width g.T.FixedInteger.bytes g.met.T.FixedInteger.length_always c.args.self.now g.row.N
    c.args.i c.bytes_count-width.result
    c.args.b c.index-self-i.result c.set_byte.new.self
    (omega arith) c.bytes_count-width.ensures.value c.bytes_count-width.ensures.positive c.requires c.set_byte.ensures
