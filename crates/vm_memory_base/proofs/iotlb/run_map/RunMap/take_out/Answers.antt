use Rattle.std.proofs.Common.{◌≡◌, ◌+◌, ◌-◌, ◌++◌, List, ap, ◌∙◌, arith}
use Rattle.vm_memory_base.specs.Change.{runs_below}
use Rattle.vm_memory_base.specs.Runs.{AddressRun}
use Rattle.vm_memory_base.specs.Table.{Mapping}
use Rattle.vm_memory_base.proofs.iotlb.run_map.RunMap.take_out.Goals as goal

pub returns-then-site : goal.returns-then-site
returns-then-site c =
    c.remove.ensures
    ∙ ap (λ (ys : List (AddressRun Mapping)). runs_below c.args.site.now.start c.args.self.now ++ ys)
    (c.requires.clear c.if-site.true)

pub returns-else-site : goal.returns-else-site
returns-else-site c =
    let to : c.args.site.now.end - 1 + 1 ≡ c.args.site.now.end = omega arith in
    rw to at c.remove_between.ensures
