use Rattle.vhost_message.proofs.ChannelLemmas.{all_cut}
use Rattle.vhost_message.proofs.laws.looks_cut_streams.Goals as goal

pub returns : goal.returns
returns g c = λ answers new before after looks.
    let cut = all_cut g.R.Receive.gives answers new before after looks in
    (cut.gave, cut.reads, cut.stream, cut.are, cut.rest)
