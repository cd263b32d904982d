use Rattle.vhost_message.proofs.ChannelLemmas.{Looked}
use Rattle.vhost_message.proofs.incoming.Incoming.look.Given as goal

-- each read gave some bytes, and they are kept
abbrev pub invariant-loop-read : goal.invariant-loop-read
invariant-loop-read g l = Looked g.R.Receive.gives l.fn.self l.fn.reader l.self l.reader l._read
