use Rattle.vhost_backend.proofs.CurrentForgetLemmas.{at_rest, begins_anew, forgets_all, stop_forgets}
use Rattle.vhost_backend.proofs.current_laws.what_was_said_goes_with_memory.Goals as goal

pub returns : goal.returns
returns c = record {
  forgets = forgets_all;
  stops = stop_forgets c.tables_keep_to_their_limits.ensures.missed;
  rests = at_rest;
  anew = begins_anew;
}
