use Rattle.std.proofs.Common.{map, subst}
use Rattle.vm_memory_guest.specs.Collection.{regions_of}
use Rattle.vm_memory_guest.specs.Host.{shape_of}
use Rattle.vm_memory_guest.proofs.HoldsLemmas.{Holds-among}
use Rattle.vm_memory.specs.Parts.{Parts, HoldsRegions}
use Rattle.vm_memory.proofs.NamedLemmas.{named-among}
use Rattle.vm_memory.proofs.machine.Machine.from_regions.Goals as goal

pub add_layout-requires : goal.add_layout-requires
add_layout-requires g c =
    let inside = c.self.inside in
    let held = c.self.invariant in
    let region = g.R.GuestMemoryRegion.region in
    let layout = c.in-Ok-from_arc_regions.layout in
    let pool = map region (regions_of inside.regions) in
    let chosen = map region (regions_of c.in-Ok.regions) in
    let among = named-among pool c.args.numbers.now chosen c.in-Ok.ensures in
    let names : HoldsRegions region inside.host layout =
    rw c.in-Ok-from_arc_regions.ensures.1
    (Holds-among (shape_of inside.host) pool chosen held.pool among) in
    subst (λ (m : Parts g.row.R.Denot g.row.I.Denot g.row.B.Denot). HoldsRegions region m.host layout) c.self.view_is
    names
