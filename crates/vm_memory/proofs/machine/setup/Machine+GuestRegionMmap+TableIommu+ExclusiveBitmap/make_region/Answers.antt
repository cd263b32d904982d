use Rattle.std.proofs.Common.{◌≡◌, ◌∙◌, length, map, flat_map, sym, ap, arith}
use Rattle.std.proofs.lemmas.Grind.{common_steps, flat_map-append}
use Rattle.std.proofs.lemmas.List.{map-append}
use Rattle.vm_memory_guest.specs.Collection.{regions_of}
use Rattle.vm_memory_guest.specs.Host.{Place, IsHeld, shape_of}
use Rattle.vm_memory_guest.specs.Mmap.{WholeBlock, mmap_region}
use Rattle.vm_memory_guest.specs.Region.{region_names}
use Rattle.vm_memory_guest.proofs.HoldsLemmas.{Holds-append}
use Rattle.vm_memory.specs.Inside.{parts_of}
use Rattle.vm_memory.proofs.SetupLemmas.{IsWhole, region_added, region_refused}
use Rattle.vm_memory.proofs.machine.setup.Machine+GuestRegionMmap+TableIommu+ExclusiveBitmap.make_region.Goals.{in-Ok, in-Err}
use Rattle.vm_memory.proofs.machine.setup.Machine+GuestRegionMmap+TableIommu+ExclusiveBitmap.make_region.Goals as goal

pub invariant_of-self : goal.invariant_of-self
invariant_of-self c =
    let host = c.self.inside.host in
    let place : IsHeld (shape_of host) (Place c.in-Some.mapping.block 0 c.in-Some.mapping.size) = c.in-Some.ensures.held.0 in
    let old = map mmap_region (regions_of c.self.inside.regions) in
    let region = mmap_region c.in-Some-new.region in
    let held = c.self.invariant in
    elim c.match-add.branch [
      | in-Ok w ↦ record {
        pool = rw (w.in-Ok.ensures.ok, map-append) (rw flat_map-append (Holds-append (shape_of host)
            (flat_map region_names old) (region_names region) held.pool (rw c.in-Some-new.ensures.value.1 (place, tt))));
        tables = held.tables;
        layouts = held.layouts;
        memories = held.memories;
        laid_out = held.laid_out;
        memories_laid_out = held.memories_laid_out;
      }
      | in-Err w ↦ record {
        pool = rw w.in-Err.ensures.err held.pool;
        tables = held.tables;
        layouts = held.layouts;
        memories = held.memories;
        laid_out = held.laid_out;
        memories_laid_out = held.memories_laid_out;
      }
    ]

pub returns : goal.returns
returns c =
    let inside = c.self.inside in
    let region = c.in-Some-new.region in
    let is = c.in-Some-new.ensures.value in
    let count : c.len-number.result ≡ length (regions_of inside.regions) = grind (arith, common_steps) in
    let whole : IsWhole inside.host c.args.block c.args.addr region = record {
      there = sym c.in-Some.ensures.there;
      start = is.0;
      block_is = ap (λ (m : WholeBlock). m.block) is.1 ∙ c.in-Some.ensures.block;
      size = ap (λ (m : WholeBlock). m.size) is.1 ∙ c.in-Some.ensures.size;
    } in
    rw (← c.self.view_is) (elim c.match-add.branch [
      | in-Ok w ↦
          rw w.result-is
          (region_added (parts_of inside) _ c.args.block c.args.addr region _ whole count w.in-Ok.ensures.ok)
      | in-Err w ↦
          rw w.result-is
          (region_refused (parts_of inside) _ c.args.block c.args.addr region whole w.in-Err.ensures.err)
    ])
