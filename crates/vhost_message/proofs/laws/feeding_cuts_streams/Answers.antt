use Rattle.vhost_message.proofs.StreamLemmas.{cuts, rest_of}
use Rattle.vhost_message.proofs.laws.feeding_cuts_streams.Goals as goal

pub returns : goal.returns
returns c = record {
  stream = λ calls kept run. (cuts calls kept run).stream;
  messages = λ calls kept run. (cuts calls kept run).messages;
  rest = rest_of;
}
