use Rattle.vhost_message.proofs.SpellingLemmas.{comes_back}
use Rattle.vhost_message.proofs.laws.requests_come_back.Goals as goal

pub returns : goal.returns
returns c = comes_back
