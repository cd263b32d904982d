use Rattle.std.proofs.Common.{drop}
use Rattle.vhost_backend.specs.Marks.{Marks, chain_marks}
use Rattle.vhost_backend.proofs.block_queue.marks.mark_chain.Given as goal

-- what is marked from here is what is marked from the first segment
abbrev pub invariant-loop-i : goal.invariant-loop-i
invariant-loop-i g l = let step = g.D.RingMemory.steps l.mem in record {
  rest : (end : g.row.H.Denot) → Marks step (chain_marks (drop l.i l.segments)) l.host end
      → Marks step (chain_marks l.segments) l.fn.host end;
  held : g.D.RingMemory.held l.mem l.host;
}
