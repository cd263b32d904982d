use Rattle.std.proofs.Common.{◌≡◌, ℕ, ◌*◌, ◌<◌, take, drop, get_or, length}
use Rattle.vm_memory_base.proofs.bytes.arrays.ArrayByteValued.from_slice.Given as goal

abbrev pub invariant-loop-k : goal.invariant-loop-k
invariant-loop-k g l =
    record {
      count : length l.all ≡ g.row.N;
      filled :
          (j : ℕ) (d : g.row.T.Denot) → j < l.k
          → get_or l.all j d ≡ g.T.FixedInteger.value_of
          (take g.T.ByteSized.width (drop (j * g.T.ByteSized.width) l.data));
    }
