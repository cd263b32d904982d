use Rattle.std.proofs.Common.{◌≡◌, ℕ, ◌&&◌, nat_lt}
use Rattle.vhost_inflight.specs.Packed.{is_in_flight}
use Rattle.vhost_inflight.proofs.PackedStartLemmas.{AreOf, one_if, times}
use Rattle.vhost_inflight.proofs.packed_start.in_order.Given as goal

abbrev pub invariant-loop-head : goal.invariant-loop-head
invariant-loop-head l = record {
  counts : (h : ℕ) → times h l.pairs.items ≡ one_if (nat_lt h l.head && is_in_flight l.entries h);
  of : AreOf l.entries l.pairs.items;
}
