use Rattle.vhost_backend.proofs.SoundStepLemmas.{never_misses}
use Rattle.vhost_backend.proofs.SoundTurnLemmas.{each_found, each_once}
use Rattle.vhost_backend.proofs.whole_laws.each_chain_to_be_returned_has_its_request.Goals as goal

pub returns : goal.returns
returns g c = record {
  found = each_found;
  once = each_once;
  ends = λ mem w chain moved failed old new r queues.
      never_misses (g.D.RingMemory.steps mem) w chain moved failed old r queues new;
}
