use Rattle.std.proofs.Common.{◌<◌, ◌^◌, subst, sym}
use Rattle.vhost_inflight.specs.PackedCrash.{GoesOn, World}
use Rattle.vhost_backend.proofs.PackedStartLemmas.{goes_on_packed_as}
use Rattle.vhost_backend.proofs.packed_crash_laws.packed_rings_go_on_after_every_crash.Goals as goal

pub returns : goal.returns
returns g c mem q new_q old new a p u bytes flags began r ring events w fresh runs popped few some small most long
    region begins looks queue flight after =
    goes_on_packed_as p u bytes flags began w
    (subst (λ (v : World). GoesOn p.descriptors u.state.size began v) (sym runs)
    (c.every_crash_leaves_what_was_popped.ensures p.descriptors u.state.size began r ring events fresh some small few
    (subst (λ (v : World). v.popped < 2 ^ 63) runs popped)))
    most long region begins looks (g.D.RingMemory.steps mem) c.one_list_is_served_again.ensures q new_q old new a queue
    flight small after
