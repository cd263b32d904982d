use Rattle.std.proofs.Common.{refl}
use Rattle.vhost_backend.proofs.SoundLemmas.{answered_sound, came_sound, changes_sound, gone_on_sound, hung_up_sound, mapped_sound, memory_sound, replied_sound, resized_sound, told_sound}
use Rattle.vhost_backend.proofs.SoundStepLemmas.{steps_sound}
use Rattle.vhost_backend.proofs.SoundTurnLemmas.{looks_sound, new_sound}
use Rattle.vhost_backend.specs.declared.ring.RingEvent.TheVariants.{Ended}
use Rattle.vhost_backend.specs.declared.rings.Event.TheVariants as event
use Rattle.vhost_backend.proofs.whole_laws.queues_have_what_rings_have_under_way.Goals as goal

pub returns : goal.returns
returns g c = record {
  begins = new_sound;
  steps = λ mem w new_w old new m is. steps_sound (g.D.RingMemory.steps mem) w old m new_w new is;
  looks = λ mem way w new_w old new is looks. looks_sound (g.D.RingMemory.steps mem) way w old is new_w new looks;
  comes = came_sound;
  goes_on = gone_on_sound;
  parts = λ w ring id end. told_sound w (event.Ring ring (Ended id end)) refl;
  ends = hung_up_sound;
  maps = mapped_sound;
  answers = answered_sound;
  replies = replied_sound;
  loses = λ w sound. sound;
  changes = λ mem w new_w t new_t old new is. changes_sound (g.D.RingMemory.steps mem) w t old is new_w new_t new;
  forgets = memory_sound;
  resizes = resized_sound;
  others = λ w kicks reply unread finished sound. sound;
}
