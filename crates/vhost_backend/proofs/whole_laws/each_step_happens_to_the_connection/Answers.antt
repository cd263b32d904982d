use Rattle.vhost_backend.proofs.WholeLemmas.{answered_leads, came_leads, changes_lead, gone_on_leads, hung_up_leads, looks_leads, mapped_leads, memory_leads, replied_leads, stays, steps_leads, told_leads}
use Rattle.vhost_backend.proofs.whole_laws.each_step_happens_to_the_connection.Goals as goal

pub returns : goal.returns
returns g c = record {
  steps = λ mem w new_w old new m is. steps_leads (g.D.RingMemory.steps mem) w old m new_w new is;
  looks = λ mem way w new_w old new is looks. looks_leads (g.D.RingMemory.steps mem) way w old is new_w new looks;
  comes = came_leads;
  goes_on = gone_on_leads;
  ends = hung_up_leads;
  tells = told_leads;
  maps = mapped_leads;
  answers = answered_leads;
  replies = replied_leads;
  loses = λ w. stays w.backend;
  changes = λ mem w new_w t new_t old new is. changes_lead (g.D.RingMemory.steps mem) w t old is new_w new_t new;
  forgets = memory_leads;
}
