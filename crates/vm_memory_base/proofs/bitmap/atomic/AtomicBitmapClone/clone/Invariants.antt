use Rattle.std.proofs.Common.{◌≡◌, ◌≤◌}
use Rattle.std.specs.Vec.{vec_len, vec_capacity}
use Rattle.vm_memory_base.proofs.bitmap.atomic.AtomicBitmapClone.clone.Given as goal

abbrev pub invariant-loop-k : goal.invariant-loop-k
invariant-loop-k l = (vec_len l.map ≡ l.k) × (l.k-end ≤ vec_capacity l.map)
