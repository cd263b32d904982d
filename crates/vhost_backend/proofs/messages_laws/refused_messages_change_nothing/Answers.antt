use Rattle.vhost_backend.proofs.RefuseLemmas.{event_stays, message_stays}
use Rattle.vhost_backend.proofs.messages_laws.refused_messages_change_nothing.Goals as goal

pub returns : goal.returns
returns c = record { comes = message_stays; waited = event_stays }
