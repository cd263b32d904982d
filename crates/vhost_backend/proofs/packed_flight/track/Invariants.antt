use Rattle.std.proofs.Common.{drop}
use Rattle.vhost_backend.specs.PackedFlight.{TracksPacked}
use Rattle.vhost_backend.proofs.packed_flight.track.Given as goal

-- what is stored from here is what is stored from the first store
abbrev pub invariant-loop-i : goal.invariant-loop-i
invariant-loop-i g l = let step = g.D.RingMemory.steps l.mem in record {
  rest : (end : g.row.H.Denot) → TracksPacked step l.place (drop l.i l.stores) l.host end
      → TracksPacked step l.place l.stores l.fn.host end;
  held : g.D.RingMemory.held l.mem l.host;
}
