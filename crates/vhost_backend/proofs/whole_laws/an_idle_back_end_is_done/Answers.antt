use Rattle.vhost_backend.proofs.IdleLemmas.{done_clear, hung_up_clear, idle_done, looked_clear}
use Rattle.vhost_backend.proofs.whole_laws.an_idle_back_end_is_done.Goals as goal

pub returns : goal.returns
returns g c = record {
  idle = λ mem w new_w old new is. idle_done (g.D.RingMemory.steps mem) w old new_w new is;
  clear = done_clear;
  ends = hung_up_clear;
  looks = λ mem way w new_w old new is. looked_clear (g.D.RingMemory.steps mem) way w old new_w new is;
}
