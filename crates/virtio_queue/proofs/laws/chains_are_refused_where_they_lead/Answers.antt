use Rattle.virtio_queue.proofs.LinkedLemmas.{leads_to_loop, leads_to_error, leads_past, refused_leads}
use Rattle.virtio_queue.proofs.laws.chains_are_refused_where_they_lead.Goals as goal

pub returns : goal.returns
returns c = record { endless = leads_to_loop; failing = leads_to_error; outside = leads_past; refused = refused_leads }
