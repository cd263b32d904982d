use Rattle.std.proofs.Common.{◌≡◌, ◌++◌, ◌-◌, false, nat_le}
use Rattle.std.specs.List.{list_any}
use Rattle.vhost_inflight.specs.SplitStart.{batch}
use Rattle.vhost_inflight.proofs.split_start.batch.Given as goal

abbrev pub invariant-loop-i : goal.invariant-loop-i
invariant-loop-i l = record {
  so_far : batch l.entries l.count l.head ≡ l.heads.items ++ batch l.entries (l.count - l.i) l.next;
  below : list_any (λ h. nat_le l.size h) l.heads.items ≡ false;
}
