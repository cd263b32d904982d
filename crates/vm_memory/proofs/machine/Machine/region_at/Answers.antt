use Rattle.std.proofs.Common.{IfSome, map, subst}
use Rattle.vm_memory_guest.specs.Collection.{regions_of}
use Rattle.vm_memory_guest.specs.Host.{Holds, shape_of}
use Rattle.vm_memory_guest.specs.Region.{region_names}
use Rattle.vm_memory_guest.proofs.HoldsLemmas.{Holds-each}
use Rattle.vm_memory.specs.Parts.{Parts}
use Rattle.vm_memory.proofs.ListLemmas.{All-item, All-of_map}
use Rattle.vm_memory.proofs.machine.Machine.region_at.Goals as goal

pub returns-clause-held : goal.returns-clause-held
returns-clause-held g c =
    let inside = c.self.inside in
    let region = g.R.GuestMemoryRegion.region in
    let P : g.row.R.Denot → Type 0 = λ r. Holds (shape_of inside.host) (region_names (region r)) in
    let pool = (Holds-each (shape_of inside.host) (map region (regions_of inside.regions))).0 c.self.invariant.pool in
    subst (λ (p : Parts g.row.R.Denot g.row.I.Denot g.row.B.Denot).
    IfSome c.get.result (λ r. Holds (shape_of p.host) (region_names (region r.now.value)))) c.self.view_is
    (All-item P inside.regions.items c.deref.result.now c.args.number c.get.result c.deref.ensures.value
    c.get.ensures.lookup (All-of_map region (λ r. Holds (shape_of inside.host) (region_names r))
    (regions_of inside.regions) pool))
