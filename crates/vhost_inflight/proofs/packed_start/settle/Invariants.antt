use Rattle.std.proofs.Common.{◌≡◌, ◌++◌, false, map, take}
use Rattle.vhost_inflight.specs.declared.packed.PackedStore.TheVariants.{InFlight}
use Rattle.vhost_inflight.proofs.packed_start.settle.Given as goal

abbrev pub invariant-loop-index : goal.invariant-loop-index
invariant-loop-index l =
    l.stores.items ≡ l.initial.stores.items ++ map (λ index. InFlight index false) (take l.index-index l.free)
