use Rattle.vhost_backend.proofs.MessageLemmas.{becomes, done}
use Rattle.vhost_backend.proofs.messages_laws.messages_are_events_of_rings.Goals as goal

pub returns : goal.returns
returns c = record { becomes = becomes; done = done }
