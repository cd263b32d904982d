use Rattle.std.proofs.Common.{rules, All}
use Rattle.std.proofs.lemmas.List.Elements.{All-map}
use Rattle.std.specs.declared.alloc.Global.{Global}
use Rattle.std.specs.declared.sync.Arc.{Arc}
use Rattle.vm_memory_guest.specs.Host.{Holds, shape_of}
use Rattle.vm_memory_guest.specs.Region.{Region, region_names}
use Rattle.test_regions.specs.Regions.{test_region}
use Rattle.test_regions.specs.declared.regions.TestRegion.{TestRegion}
use Rattle.test_machines.proofs.machines.are_held.Goals as goal

-- of each region by itself the chain tells, of all of them the law
pub returns : goal.returns
returns c h =
    let shape = shape_of c.args.host.now in
    let IsHeld : Region → Type 0 = λ r. Holds shape (region_names r) in
    let each : All (λ (r : Arc TestRegion Global). IsHeld (test_region r.value)) c.args.regions.now.items =
    search rules in
    let values = All-map (λ r. IsHeld (test_region r))
    (λ (r : Arc TestRegion Global). r.value) c.args.regions.now.items each in
    (c.regions_are_held_one_by_one.ensures.each shape _).1 (All-map IsHeld test_region _ values)
