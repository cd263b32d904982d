use Rattle.vhost_message.proofs.StreamLemmas.{one_way}
use Rattle.vhost_message.proofs.laws.streams_are_cut_one_way.Goals as goal

pub returns : goal.returns
returns c = one_way
