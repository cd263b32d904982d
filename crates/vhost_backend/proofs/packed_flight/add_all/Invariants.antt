use Rattle.std.proofs.Common.{◌≡◌, drop}
use Rattle.std.specs.Prelude.{map}
use Rattle.vhost_inflight.specs.Packed.{kept_of}
use Rattle.vhost_inflight.specs.PackedCrash.{after_adds}
use Rattle.vhost_backend.specs.PackedFlight.{AddsAll, copy_by}
use Rattle.vhost_backend.proofs.packed_flight.add_all.Given as goal

-- what is stored from here is what is stored from the first descriptor
abbrev pub invariant-loop-i : goal.invariant-loop-i
invariant-loop-i g l = let step = g.D.RingMemory.steps l.mem in record {
  rest : (end : g.row.H.Denot)
      → AddsAll step l.place (kept_of l.kept) (map copy_by (drop l.i l.descriptors)) l.host end
      → AddsAll step l.place (kept_of l.fn.kept) (map copy_by l.descriptors) l.fn.host end;
  kept : after_adds (kept_of l.kept) (map copy_by (drop l.i l.descriptors))
      ≡ after_adds (kept_of l.fn.kept) (map copy_by l.descriptors);
  held : g.D.RingMemory.held l.mem l.host;
}
