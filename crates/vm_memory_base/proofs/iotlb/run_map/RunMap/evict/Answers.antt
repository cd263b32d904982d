use Rattle.std.proofs.Common.{sym, subst, ◌∙◌, arith}
use Rattle.vm_memory_base.specs.Change.{IsKept}
use Rattle.vm_memory_base.proofs.EvictLemmas.{kept_without, one_less}
use Rattle.vm_memory_base.proofs.iotlb.run_map.RunMap.evict.Goals as goal

pub loop-spared-preserved : goal.loop-spared-preserved
loop-spared-preserved c =
    let rs = c.loop-spared.self in
    let left = c.remove.ensures ∙ c.first_without-start.ensures.gone in (
      subst IsKept (sym left) (kept_without c.args.spared 1 rs c.loop-spared.invariant.0),
      one_less c.args.spared c.args.limit rs c.remove.new.self left c.first_without-start.ensures.less (omega arith)
          ∙ c.loop-spared.invariant.1,
    )
