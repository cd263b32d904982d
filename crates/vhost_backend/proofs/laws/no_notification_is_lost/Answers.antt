use Rattle.vhost_backend.proofs.RestLemmas.{kicked, rests}
use Rattle.vhost_backend.proofs.laws.no_notification_is_lost.Goals as goal

pub returns : goal.returns
returns c = record { kicked = kicked; rests = rests }
