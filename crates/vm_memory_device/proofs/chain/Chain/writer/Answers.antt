use Rattle.std.proofs.Common.{ap, arith, length}
use Rattle.vm_memory_device.proofs.TextLemmas.{len_after}
use Rattle.vm_memory_device.proofs.chain.Chain.writer.Goals as goal

pub new-requires-clause-len : goal.new-requires-clause-len
new-requires-clause-len c =
    let division = c.self.inside.division in
    rw c.as_slice.ensures.value (len_after c.self.inside.segments.items division.readable division.readable_len
    division.writable_len c.self.invariant)

pub returns-clause-short : goal.returns-clause-short
returns-clause-short c =
    let division = c.self.inside.division in
    let e = rw c.as_slice.ensures.value at c.new.ensures in
    let n = len_after c.self.inside.segments.items division.readable division.readable_len
    division.writable_len c.self.invariant in
    omega (arith, ap length e, n)
