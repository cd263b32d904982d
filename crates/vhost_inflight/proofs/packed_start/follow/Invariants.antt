use Rattle.std.proofs.Common.{◌≡◌, ◌-◌, ◌++◌}
use Rattle.vhost_inflight.specs.PackedStart.{copies_of, last_of, repeats, seen_too, walk}
use Rattle.vhost_inflight.proofs.packed_start.follow.Given as goal

abbrev pub invariant-loop-i : goal.invariant-loop-i
invariant-loop-i l = record {
  last : last_of l.head (walk l.entries l.num l.head) ≡ last_of l.last (walk l.entries (l.num - l.i) l.next);
  repeats : repeats l.initial.seen (walk l.entries l.num l.head) ≡ repeats l.seen (walk l.entries (l.num - l.i) l.next);
  seen : seen_too l.initial.seen (walk l.entries l.num l.head) ≡ seen_too l.seen (walk l.entries (l.num - l.i) l.next);
  copies : l.initial.copies.items ++ copies_of l.entries (walk l.entries l.num l.head)
      ≡ l.copies.items ++ copies_of l.entries (walk l.entries (l.num - l.i) l.next);
}
