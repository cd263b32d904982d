use Rattle.std.proofs.Common.{◌≡◌, ◌++◌, ◌∷◌, [], inr, refl, arith}
use Rattle.vhost_inflight.proofs.StartLemmas.{batch_more, batch_refused, below_more}
use Rattle.vhost_inflight.proofs.split_start.batch.Goals as goal

pub loop-i-preserved : goal.loop-i-preserved
loop-i-preserved c =
    let pushed : c.push.new.self.items ≡ c.loop-i.heads.items ++ c.loop-i.next ∷ [] = c.in_default.ensures.items in
    record {
      so_far = rw pushed (batch_more c.args.entries.now c.loop-i.heads.items c.args.count c.args.head c.loop-i.i
          c.loop-i.next c.loop-i.invariant.so_far (omega arith));
      below = rw pushed (below_more c.args.size c.loop-i.next c.loop-i.heads.items c.loop-i.invariant.below (omega arith));
    }

pub returns-then-next-size-clause-err : goal.returns-then-next-size-clause-err
returns-then-next-size-clause-err c =
    inr (
      refl,
      batch_refused c.args.entries.now c.loop-i.heads.items c.args.size c.args.count c.args.head c.loop-i.i
          c.loop-i.next c.loop-i.invariant.so_far (omega arith) (omega arith),
    )
