use Rattle.std.proofs.Common.{◌≡◌, ◌+◌, drop, map, take}
use Rattle.std.specs.List.{flat_map}
use Rattle.vhost_inflight.specs.PackedStart.{again_of, chain_of, chains_fault, slots_of}
use Rattle.vhost_inflight.proofs.packed_start.take_up.Given as goal

abbrev pub invariant-loop-head : goal.invariant-loop-head
invariant-loop-head l = record {
  fault : chains_fault l.entries l.initial.seen l.size l.heads
      ≡ chains_fault l.entries l.seen l.room (drop l.head-index l.heads);
  again : l.again.items ≡ map (again_of l.entries) (take l.head-index l.heads);
  copies : l.copies.items ≡ flat_map (chain_of l.entries) (take l.head-index l.heads);
  slots : l.room + slots_of l.entries (take l.head-index l.heads) ≡ l.size;
}
