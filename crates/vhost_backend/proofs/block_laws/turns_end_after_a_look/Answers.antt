use Rattle.vhost_backend.proofs.FlightLemmas.{in_ends, in_stays}
use Rattle.vhost_backend.proofs.block_laws.turns_end_after_a_look.Goals as goal

pub returns-clause-looks : goal.returns-clause-looks
returns-clause-looks g c mem way terms q new_q old new next =
    in_ends (g.D.RingMemory.steps mem) terms way q old new_q new next

pub returns-clause-stays : goal.returns-clause-stays
returns-clause-stays g c mem way terms q new_q old new next read =
    in_stays (g.D.RingMemory.steps mem) terms way q old new_q new next read
