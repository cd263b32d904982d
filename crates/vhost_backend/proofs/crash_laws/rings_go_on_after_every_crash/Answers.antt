use Rattle.std.proofs.Common.{◌<◌, ◌^◌, subst, sym}
use Rattle.vhost_inflight.specs.SplitCrash.{GoesOn, World}
use Rattle.vhost_backend.proofs.CrashLemmas.{goes_on_as}
use Rattle.vhost_backend.specs.Flight.{size_of}
use Rattle.vhost_backend.proofs.crash_laws.rings_go_on_after_every_crash.Goals as goal

pub returns : goal.returns
returns g c mem q new_q old new a p bytes r used events w fresh small runs popped few fits long region ring split place after =
    goes_on_as (g.D.RingMemory.steps mem) c.one_list_is_served_again.ensures q new_q old new a p bytes used w
    (subst (λ (v : World). GoesOn p.descriptors (size_of q.queue) used v) (sym runs)
    (c.every_crash_leaves_what_was_popped.ensures p.descriptors (size_of q.queue) used r events fresh fits few small
    (subst (λ (v : World). v.popped < 2 ^ 63) runs popped)))
    fits long region ring split place after
