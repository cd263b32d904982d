use Rattle.std.proofs.Common.{refl}
use Rattle.vhost_backend.proofs.MissLemmas.{lost_kicks, lost_others, never_waits, others_stay, refusal_stops, reply_looks, stopped_fails}
use Rattle.vhost_backend.proofs.goes_on_laws.a_refusal_fails_what_waits_for_it.Goals as goal

pub returns : goal.returns
returns g c = record {
  stops = λ w r questions one fetch iova access asked answers fails awaits there waiting room.
      refusal_stops w r questions one asked answers fetch iova access fails awaits there waiting room;
  looks_at = λ w r questions one asked answers. reply_looks w r questions one asked answers;
  others = λ w r questions one ring asked answers differs. others_stay w r questions one asked answers ring differs;
  loses = λ w. refl;
  kicks = lost_kicks;
  kicks_none = lost_others;
  waits = λ mem f terms q new_q old new e. never_waits (g.D.RingMemory.steps mem) terms f q old e new_q new;
  fails = λ mem f can_ask terms q new_q fetch old new e.
      stopped_fails (g.D.RingMemory.steps mem) terms f can_ask q fetch old e new_q new;
}
