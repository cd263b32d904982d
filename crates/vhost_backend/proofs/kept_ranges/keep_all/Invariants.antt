use Rattle.std.proofs.Common.{drop, Result}
use Rattle.std.specs.declared.alloc.AllocError.{AllocError}
use Rattle.vhost_backend.specs.KeptRanges.{KeepsAll}
use Rattle.vhost_backend.proofs.kept_ranges.keep_all.Given as goal

-- what comes of those from here is what comes of all
abbrev pub invariant-loop-i : goal.invariant-loop-i
invariant-loop-i g l = let step = g.D.RingMemory.steps l.mem in record {
  rest : (r : Result (Unit {0}) AllocError) (end : g.row.H.Denot) → KeepsAll step (drop l.i l.kept) l.host r end
      → KeepsAll step l.kept l.fn.host r end;
  held : g.D.RingMemory.held l.mem l.host;
}
