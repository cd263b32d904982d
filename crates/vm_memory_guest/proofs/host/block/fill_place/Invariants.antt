use Rattle.std.proofs.Common.{◌≡◌, ◌*◌, ◌^◌, ◌<◌, take}
use Rattle.std.specs.List.{flat_map}
use Rattle.vm_memory_guest.proofs.host.block.fill_place.Given as goal

abbrev pub invariant-loop-k : goal.invariant-loop-k
invariant-loop-k g l = g.T.ByteSized.width < 2 ^ 64
    → take (l.k * g.T.ByteSized.width) l.place ≡ flat_map g.T.ByteValued.bytes (take l.k l.values)
