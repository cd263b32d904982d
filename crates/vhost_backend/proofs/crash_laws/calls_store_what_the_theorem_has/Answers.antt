use Rattle.vhost_backend.proofs.CrashLemmas.{pops_again_as, pops_as, returns_as}
use Rattle.vhost_backend.proofs.crash_laws.calls_store_what_the_theorem_has.Goals as goal

pub returns-clause-pops : goal.returns-clause-pops
returns-clause-pops g c mem way terms q new_q old new chain parts bytes p k descriptors size w is low out happens =
    pops_as (g.D.RingMemory.steps mem) terms way q new_q old new chain parts bytes p k descriptors size w is low out happens

pub returns-clause-again : goal.returns-clause-again
returns-clause-again g c mem way terms q new_q old new chain parts bytes p k head rest is happens =
    pops_again_as (g.D.RingMemory.steps mem) terms way q new_q old new chain parts bytes p k head rest is happens

pub returns-clause-returns : goal.returns-clause-returns
returns-clause-returns g c mem q new_q old new chain len p k again descriptors size w is split used out gives =
    returns_as (g.D.RingMemory.steps mem) q new_q old new chain len p k again descriptors size w is split used out gives
