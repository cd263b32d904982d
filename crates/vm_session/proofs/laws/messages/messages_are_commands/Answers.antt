use Rattle.vm_session.proofs.CommandLemmas.{events_are, run_of}
use Rattle.vm_session.proofs.laws.messages.messages_are_commands.Goals as goal

pub returns : goal.returns
returns c = record {
  run = λ number regions m answer calls old new s h. run_of number regions s m answer calls old new h;
  events = λ number regions ms calls old new t h. events_are number regions ms calls old new t h;
}
