use Rattle.vhost_backend.proofs.AgreeLemmas.{others, turns}
use Rattle.vhost_backend.proofs.block_laws.each_return_finds_its_request.Goals as goal

pub returns : goal.returns
returns g c = record {
  turns = λ mem way terms q new_q old new r e agrees same runs next.
      turns (g.D.RingMemory.steps mem) way terms q r agrees same runs old e new_q new next;
  others = others;
}
