use Rattle.vm_session.proofs.FlightLaws.{chains-stay}
use Rattle.vm_session.proofs.laws.chains_stay_in_flight.Goals as goal

pub returns : goal.returns
returns c = chains-stay
