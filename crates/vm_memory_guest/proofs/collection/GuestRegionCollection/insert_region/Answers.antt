use Rattle.std.proofs.Common.{List, ap, ◌∙◌}
use Rattle.vm_memory_guest.specs.Collection.{regions_of}
use Rattle.vm_memory_guest.specs.Layout.{inserted}
use Rattle.vm_memory_guest.proofs.LayoutLemmas.{insert-place, as_told}
use Rattle.vm_memory_guest.proofs.RegionLaws.{starts-ascend}
use Rattle.vm_memory_guest.proofs.collection.GuestRegionCollection.insert_region.Goals as goal

pub first_above-place-requires : goal.first_above-place-requires
first_above-place-requires g c =
    let xs = regions_of c.self.inside.regions in
    starts-ascend g.R.GuestMemoryRegion.region g.met.R.GuestMemoryRegion.fits xs
    c.as_slice.result.now (rw c.as_slice.ensures.value c.self.invariant)

pub returns : goal.returns
returns g c =
    let region = g.R.GuestMemoryRegion.region in
    let xs = regions_of c.self.inside.regions in
    let told = c.first_above-place.ensures in
    let new = c.args.region.value in
    let start = c.start_addr.ensures ∙ ap (λ (r : g.row.R.Denot). (region r).start) c.deref.ensures in
    let place = insert-place region g.met.R.GuestMemoryRegion.fits xs c.as_slice.result.now
    (rw c.as_slice.ensures.value c.self.invariant) c.start_addr.result.0 c.first_above-place.result.0
    told.within told.below told.above new start in
    as_told region (regions_of c.in-Ok.regions) (inserted region c.args.self.now new)
    (c.in-Ok.ensures ∙ place ∙ ap (λ (rs : List g.row.R.Denot). inserted region rs new) c.self.view_is)
    c.from_arc_regions.result c.from_arc_regions.ensures
