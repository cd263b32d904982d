use Rattle.vhost_backend.proofs.FetchLemmas.{status_leads, whole_leads}
use Rattle.vhost_backend.proofs.fetch_laws.guest_chain_is_the_drivers.Goals as goal

pub returns : goal.returns
returns c = record { whole = whole_leads; status = status_leads }
