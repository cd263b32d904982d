use Rattle.std.proofs.Common.{◌≡◌, false, map, take}
use Rattle.vhost_inflight.specs.declared.split.SplitStore.TheVariants.{InFlight}
use Rattle.vhost_inflight.proofs.split_start.start_stores.Given as goal

abbrev pub invariant-loop-head : goal.invariant-loop-head
invariant-loop-head l = l.stores.items ≡ map (λ h. InFlight h false) (take l.head-index l.heads)
