use Rattle.vhost_backend.proofs.ChannelLemmas.{came_same, takes_effect}
use Rattle.vhost_backend.proofs.whole_laws.no_message_waits_for_a_mapping.Goals as goal

pub returns : goal.returns
returns c = record { same = came_same; at_once = takes_effect }
