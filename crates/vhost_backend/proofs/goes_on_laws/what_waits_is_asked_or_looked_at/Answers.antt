use Rattle.std.proofs.Common.{refl, true}
use Rattle.vhost_backend.proofs.TendStepLemmas.{answered_tends, came_tends, gone_on_tends, mapped_tends, resized_tends, steps_tend, told_tends}
use Rattle.vhost_backend.proofs.TendTableLemmas.{changes_tend, hung_up_tends, kicked_more, lost_tends, memory_tends, replied_tends}
use Rattle.vhost_backend.proofs.TendTurnLemmas.{looks_tend, new_tends}
use Rattle.vhost_backend.specs.declared.ring.RingEvent.TheVariants.{Ended}
use Rattle.vhost_backend.specs.declared.rings.Event.TheVariants as event
use Rattle.vhost_backend.proofs.goes_on_laws.what_waits_is_asked_or_looked_at.Goals as goal

pub returns : goal.returns
returns g c = record {
  begins = new_tends;
  steps = λ mem w new_w old new m is. steps_tend (g.D.RingMemory.steps mem) w old m new_w new is;
  looks = λ mem way w new_w old new is looks. looks_tend (g.D.RingMemory.steps mem) way w old is new_w new looks;
  comes = came_tends;
  goes_on = gone_on_tends;
  parts = λ w ring id end. told_tends w (event.Ring ring (Ended id end)) (λ i. refl);
  ends = hung_up_tends;
  maps = mapped_tends;
  answers = answered_tends;
  replies = replied_tends;
  loses = lost_tends;
  changes = λ mem w new_w t new_t old new is. changes_tend (g.D.RingMemory.steps mem) w t old is new_w new_t new;
  forgets = memory_tends;
  resizes = resized_tends;
  kicks = λ w ring. kicked_more w.queues w.kicks w.questions w.backend true ring;
  others = λ w reply unread finished tend. tend;
}
