use Rattle.std.proofs.Common.{◌≡◌, take, drop}
use Rattle.vm_memory_device.specs.Chain.{chain_fault, fault_after}
use Rattle.vm_memory_device.proofs.TextLemmas.{Divided}
use Rattle.vm_memory_device.proofs.chain.text.divided.Given as goal

abbrev pub invariant-loop-segment : goal.invariant-loop-segment
invariant-loop-segment l =
    (chain_fault l.segments ≡ fault_after (take l.segment-index l.segments) (drop l.segment-index l.segments))
    × Divided (take l.segment-index l.segments) l.readable l.readable_len l.total l.writes
