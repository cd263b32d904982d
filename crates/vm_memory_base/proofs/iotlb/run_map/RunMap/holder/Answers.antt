use Rattle.std.proofs.Common.{◌+◌, arith}
use Rattle.vm_memory_base.specs.Change.{runs_below}
use Rattle.vm_memory_base.specs.Table.{same_mapping}
use Rattle.vm_memory_base.proofs.ChangeLemmas.{EndBelow-weaker}
use Rattle.vm_memory_base.proofs.SideLemmas.{all_end, ends_before_last, starts_limit}
use Rattle.vm_memory_base.proofs.iotlb.run_map.RunMap.holder.Goals as goal

pub returns-then-end-at-clause-none : goal.returns-then-end-at-clause-none
returns-then-end-at-clause-none c =
    let e = c.end.ensures.value in
    all_end same_mapping (c.args.at + 1) c.args.self.now c.requires c.in_ok-run.run' c.in_ok-run.ensures.last
    (c.args.at + 1) (omega arith)

pub returns-clause-some : goal.returns-clause-some
returns-clause-some c =
    let rs = c.args.self.now in
    let run = c.in_ok-run.run' in
    let is = c.in_ok-run.ensures.last in
    let s = starts_limit same_mapping (c.args.at + 1) rs c.requires run is in
    let e = c.end.ensures.value in (
      omega arith,
      omega arith,
      is,
      EndBelow-weaker (run.start + 1) (c.args.at + 1) (runs_below run.start rs) (omega arith)
          (ends_before_last same_mapping (c.args.at + 1) rs c.requires run is),
    )
