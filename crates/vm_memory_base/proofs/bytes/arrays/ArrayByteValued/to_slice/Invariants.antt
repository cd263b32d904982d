use Rattle.std.proofs.Common.{◌≡◌, ◌*◌, take}
use Rattle.std.specs.List.{flat_map}
use Rattle.vm_memory_base.proofs.bytes.arrays.ArrayByteValued.to_slice.Given as goal

abbrev pub invariant-loop-k : goal.invariant-loop-k
invariant-loop-k g l = take (l.k * g.T.ByteSized.width) l.out ≡ flat_map g.T.FixedInteger.bytes (take l.k l.self)
