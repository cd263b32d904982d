use Rattle.std.proofs.Common.{arith}
use Rattle.std.proofs.lemmas.Grind.{common_steps}
use Rattle.std.proofs.lemmas.Option.{slice_get-get_or}
use Rattle.vhost_backend.proofs.KickLemmas.{none_more}
use Rattle.vhost_backend.proofs.kicks.kicked_ring.Goals as goal

pub loop-ring-preserved : goal.loop-ring-preserved
loop-ring-preserved c =
    none_more _ _ c.loop-ring.invariant (grind (arith, common_steps, slice_get-get_or c.args.kicked.now c.loop-ring.ring))
