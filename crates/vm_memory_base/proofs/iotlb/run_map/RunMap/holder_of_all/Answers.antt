use Rattle.std.proofs.Common.{◌+◌, arith}
use Rattle.vm_memory_base.specs.Change.{runs_below, runs_from}
use Rattle.vm_memory_base.specs.Table.{same_mapping}
use Rattle.vm_memory_base.proofs.SideLemmas.{whole, starts_after}
use Rattle.vm_memory_base.proofs.ChangeLemmas.{StartFrom-weaker}
use Rattle.vm_memory_base.proofs.iotlb.run_map.RunMap.holder_of_all.Goals as goal

pub returns : goal.returns
returns c =
    let rs = c.args.self.now in
    let run = c.in_ok-run.run' in
    let there = c.in_ok-run.ensures.some in
    let e = c.end.ensures.value in (
      runs_below run.start rs,
      runs_from (c.args.start + 1) rs,
      whole same_mapping (c.args.start + 1) rs c.requires.canonical run there.2,
      there.3,
      StartFrom-weaker c.args.end (run.start + run.len) (runs_from (c.args.start + 1) rs) (omega arith)
          (starts_after same_mapping (c.args.start + 1) rs c.requires.canonical run there.2),
      there.0,
      omega arith,
    )
