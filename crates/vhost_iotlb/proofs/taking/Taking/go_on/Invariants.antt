use Rattle.std.proofs.Common.{◌≡◌, ◌++◌, ◌-◌, List, All, length}
use Rattle.vm_memory_base.specs.Table.{says}
use Rattle.vhost_iotlb.specs.Kept.{IsCurrent}
use Rattle.vhost_iotlb.specs.declared.kept.Kept.{Kept}
use Rattle.vhost_iotlb.proofs.taking.Taking.go_on.Given as goal

abbrev pub invariant-loop-self : goal.invariant-loop-self
invariant-loop-self l = record {
  wants : l.self.wants ≡ l.fn.self.wants;
  takes : (ks : List Kept) × (l.self.kept ≡ l.fn.self.kept ++ ks) × All (IsCurrent (says l.table)) ks;
}

abbrev pub decreases-loop-self : goal.decreases-loop-self
decreases-loop-self l = l.most - length l.self.kept
