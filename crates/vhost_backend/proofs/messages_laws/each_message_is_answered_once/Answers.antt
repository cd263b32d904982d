use Rattle.vhost_backend.proofs.AnswerLemmas.{answered}
use Rattle.vhost_backend.proofs.messages_laws.each_message_is_answered_once.Goals as goal

pub returns : goal.returns
returns c = answered
