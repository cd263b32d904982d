use Rattle.vhost_backend.proofs.AtRestLemmas.{all_wait, one_waits}
use Rattle.vhost_backend.proofs.messages_laws.messages_wait_for_what_is_under_way.Goals as goal

pub returns : goal.returns
returns c = record { all = all_wait; one = one_waits }
