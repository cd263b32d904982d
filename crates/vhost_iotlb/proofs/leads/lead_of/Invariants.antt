use Rattle.std.proofs.Common.{◌≤◌}
use Rattle.vhost_iotlb.proofs.leads.lead_of.Given as goal

abbrev pub invariant-loop-count : goal.invariant-loop-count
invariant-loop-count l = l.count ≤ l.fn.len

abbrev pub decreases-loop-count : goal.decreases-loop-count
decreases-loop-count l = l.count
