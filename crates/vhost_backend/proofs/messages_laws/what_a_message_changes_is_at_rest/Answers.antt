use Rattle.vhost_backend.proofs.AtRestLemmas.{all_at_rest, one_at_rest}
use Rattle.vhost_backend.proofs.messages_laws.what_a_message_changes_is_at_rest.Goals as goal

pub returns : goal.returns
returns c = record { all = all_at_rest; one = one_at_rest }
