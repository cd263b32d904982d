use Rattle.std.proofs.Common.{◌≡◌, ℕ, ◌+◌, ◌-◌, ◌<◌, ◌≤◌, length, get_or}
use Rattle.vm_memory_guest.specs.Layout.{binary_digits}
use Rattle.vm_memory_guest.proofs.collection.first_above.Given as goal

-- the starts before next are at most the address, and those from next + size on above it;
-- the digits that are left are those of size
abbrev pub invariant-loop-size : goal.invariant-loop-size
invariant-loop-size l = record {
  some : 0 < l.size;
  within : l.next + l.size ≤ length l.starts;
  below : (k : ℕ) → k < l.next → get_or l.starts k 0 ≤ l.addr;
  above : (k : ℕ) → l.next + l.size ≤ k → k < length l.starts → l.addr < get_or l.starts k 0;
  start : 0 < l.next → l.start ≡ get_or l.starts (l.next - 1) 0;
  probes : l.probes + binary_digits l.size ≡ binary_digits (length l.starts);
}

abbrev pub decreases-loop-size : goal.decreases-loop-size
decreases-loop-size l = l.size
