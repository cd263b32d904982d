use Rattle.std.proofs.Common.{[], refl, sym, append-nil}
use Rattle.std.proofs.lemmas.List.Elements.{All-nil}
use Rattle.vm_memory_base.specs.Table.{says}
use Rattle.vhost_iotlb.specs.Kept.{IsCurrent}
use Rattle.vhost_iotlb.proofs.taking.Taking.go_on.Goals as goal

pub loop-self-init : goal.loop-self-init
loop-self-init c = record {
  wants = refl;
  takes = ([], sym (append-nil c.args.self.now.kept), All-nil (IsCurrent (says c.args.table.now)));
}
