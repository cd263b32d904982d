use Rattle.vhost_backend.proofs.PackedCrashLemmas.{pops_packed_again, pops_packed_as}
use Rattle.vhost_backend.proofs.PackedReturnLemmas.{returns_packed_as}
use Rattle.vhost_backend.proofs.packed_crash_laws.packed_calls_store_what_the_theorem_has.Goals as goal

pub returns-clause-pops : goal.returns-clause-pops
returns-clause-pops g c mem way terms q new_q old new chain parts bytes p k is none happens =
    pops_packed_as (g.D.RingMemory.steps mem) p terms way k q new_q old new chain parts bytes is none happens

pub returns-clause-again : goal.returns-clause-again
returns-clause-again g c mem way terms q new_q old new chain parts bytes p k ds is some happens =
    pops_packed_again (g.D.RingMemory.steps mem) p terms way k q new_q old new chain parts bytes ds is some happens

pub returns-clause-returns : goal.returns-clause-returns
returns-clause-returns g c mem q new_q old new chain len p k u descriptors size began w is stands can named gives =
    returns_packed_as (g.D.RingMemory.steps mem) q new_q old new chain len p k u descriptors size began w is stands can
    named gives
