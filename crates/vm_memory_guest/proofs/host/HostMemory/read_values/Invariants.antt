use Rattle.std.proofs.Common.{◌≡◌, ◌^◌, ◌<◌, take}
use Rattle.vm_memory_base.specs.Bytes.{values_of}
use Rattle.vm_memory_guest.proofs.host.HostMemory.read_values.Given as goal

abbrev pub invariant-loop-k : goal.invariant-loop-k
invariant-loop-k g l = g.T.ByteSized.width < 2 ^ 64
    → take l.k l.values ≡ values_of g.T.ByteValued.value_of g.T.ByteSized.width l.k l.bytes
