use Rattle.std.proofs.Common.{◌≡◌}
use Rattle.std.specs.Int.{w128, from_le_bytes}
use Rattle.std.proofs.Math.Facts.{Fits-lt-pow}
use Rattle.vm_memory_base.proofs.ByteLemmas.{number_of_padded}
use Rattle.vm_memory_base.proofs.bytes.integers.number_in.Goals as goal

pub returns-clause-bytes : goal.returns-clause-bytes
returns-clause-bytes c =
    let e : c.from_le_bytes.result ≡ from_le_bytes w128 c.padded.result = c.from_le_bytes.ensures in
    let facts = number_of_padded c.args.data.now c.padded.result c.requires
    (λ i. Fits-lt-pow (c.type_inv.data i)) c.padded.ensures in
    rw e facts.0

pub returns-clause-fits : goal.returns-clause-fits
returns-clause-fits c =
    let e : c.from_le_bytes.result ≡ from_le_bytes w128 c.padded.result = c.from_le_bytes.ensures in
    let facts = number_of_padded c.args.data.now c.padded.result c.requires
    (λ i. Fits-lt-pow (c.type_inv.data i)) c.padded.ensures in
    rw e facts.1
