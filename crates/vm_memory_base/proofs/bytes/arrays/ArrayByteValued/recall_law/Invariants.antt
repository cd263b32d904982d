use Rattle.std.proofs.Common.{ℕ, ◌<◌, get_or}
use Rattle.vm_memory_base.proofs.bytes.arrays.ArrayByteValued.recall_law.Given as goal

abbrev pub invariant-loop-x : goal.invariant-loop-x
invariant-loop-x g l = (k : ℕ) (d : g.row.T.Denot) → k < l.x-index → g.T.FixedInteger.is_value (get_or l.self k d)
