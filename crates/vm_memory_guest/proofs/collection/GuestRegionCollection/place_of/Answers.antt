use Rattle.std.proofs.Common.{◌≡◌, ◌-◌, ◌<◌, List, Some, None, map, length, get_or, remove, slice_get}
use Rattle.std.proofs.Common.{refl, sym, ap, subst, ◌∙◌, inl, inr, arith}
use Rattle.std.proofs.lemmas.List.{length-map}
use Rattle.std.proofs.lemmas.Option.{slice_get_read}
use Rattle.std.specs.declared.sync.Arc.{Arc}
use Rattle.std.specs.declared.alloc.Global.{Global}
use Rattle.vm_memory_guest.specs.Collection.{regions_of, IsIndexed}
use Rattle.vm_memory_guest.specs.Layout.{removed}
use Rattle.vm_memory_guest.proofs.LayoutLaws.{is_exactly-both}
use Rattle.vm_memory_guest.proofs.LayoutLemmas.{is_exactly-len, value-at}
use Rattle.vm_memory_guest.proofs.LayoutLemmas.{removed-nowhere, removed-other, removed-here}
use Rattle.vm_memory_guest.proofs.RegionLaws.{starts-ascend, start-at, length-starts}
use Rattle.vm_memory_guest.proofs.collection.GuestRegionCollection.place_of.Given.{Over}
use Rattle.vm_memory_guest.proofs.collection.GuestRegionCollection.place_of.Goals as goal
use Rattle.vm_memory_guest.proofs.collection.GuestRegionCollection.place_of.Goals.{After-len}

-- the region that is read is the one at the place of the last start that is not above the address
indexed : (g : Over) (c : After-len g)
    → IsIndexed (map g.R.GuestMemoryRegion.region (regions_of c.self.inside.regions)) c.as_slice.result.now
indexed g c = rw c.as_slice.ensures.value c.self.invariant

some : (g : Over) (c : After-len g) → 0 < c.first_above-next.result.0
some g c = omega arith

inside : (g : Over) (c : After-len g) → c.first_above-next.result.0 - 1 < length (regions_of c.self.inside.regions)
inside g c =
    let same = length-starts g.R.GuestMemoryRegion.region g.met.R.GuestMemoryRegion.fits
    (regions_of c.self.inside.regions)
    c.as_slice.result.now (indexed g c) in
    omega (arith, c.first_above-next.ensures.within, same, some g c)

at : (g : Over) (c : After-len g) → let x = c.deref-region.result.now in
    x ≡ get_or (regions_of c.self.inside.regions) (c.first_above-next.result.0 - 1) x
at g c =
    let rs = c.self.inside.regions.items in
    let long = length-map rs (λ (r : Arc g.row.R.Denot Global). r.value) in
    value-at rs (c.first_above-next.result.0 - 1) c.index.result.now c.deref-region.result.now
    (omega (arith, inside g c, long)) c.index.ensures c.deref-region.ensures

pub first_above-next-requires : goal.first_above-next-requires
first_above-next-requires g c =
    let xs = regions_of c.self.inside.regions in
    starts-ascend g.R.GuestMemoryRegion.region g.met.R.GuestMemoryRegion.fits xs
    c.as_slice.result.now (rw c.as_slice.ensures.value c.self.invariant)

pub returns-then-next-eq0 : goal.returns-then-next-eq0
returns-then-next-eq0 g c =
    let region = g.R.GuestMemoryRegion.region in
    let told = c.first_above-next.ensures in
    let n = c.first_above-next.result.0 in
    let a = c.args.base.0 in
    let starts = c.as_slice.result.now in
    let other : 0 < n → get_or starts (n - 1) 0 ≡ a → ⊥ =
    elim c.then-next-eq0.either [
      | inl e ↦ λ some f. absurd (omega arith)
      | inr p ↦ λ some f. p.1 (told.start some ∙ f)
    ] in
    subst (λ (xs : List g.row.R.Denot). removed region xs a c.args.size ≡ None) c.self.view_is
    (removed-nowhere region g.met.R.GuestMemoryRegion.fits (regions_of c.self.inside.regions) starts
    (rw c.as_slice.ensures.value c.self.invariant) a n told.within told.below told.above c.args.size other)

pub returns-else-len-size : goal.returns-else-len-size
returns-else-len-size g c =
    let region = g.R.GuestMemoryRegion.region in
    let told = c.first_above-next.ensures in
    let a = c.args.base.0 in
    let x = c.deref-region.result.now in
    let here = (goal.at.returns-else-len-size g c).After-len in
    subst (λ (ys : List g.row.R.Denot). removed region ys a c.args.size ≡ None) c.self.view_is
    (removed-other region g.met.R.GuestMemoryRegion.fits (regions_of c.self.inside.regions) c.as_slice.result.now
    (indexed g here)
    a c.first_above-next.result.0 told.within told.below told.above c.args.size x (some g here) (at g here)
    (is_exactly-len a c.args.size (region x) (λ e. c.if-len-size.false (c.len.ensures ∙ e))))

pub returns-then-len-size : goal.returns-then-len-size
returns-then-len-size g c =
    let region = g.R.GuestMemoryRegion.region in
    let fits = g.met.R.GuestMemoryRegion.fits in
    let told = c.first_above-next.ensures in
    let n = c.first_above-next.result.0 in
    let a = c.args.base.0 in
    let starts = c.as_slice.result.now in
    let xs = regions_of c.self.inside.regions in
    let x = c.deref-region.result.now in
    let here = (goal.at.returns-then-len-size g c).After-len in
    let within = inside g here in
    let start = sym (told.start (some g here) ∙ start-at region fits xs starts (indexed g here) (n - 1) x within
    ∙ sym (ap (λ (y : g.row.R.Denot). (region y).start) (at g here))) in
    let found = removed-here region fits xs starts (indexed g here) a n told.within told.below told.above
    c.args.size x (some g here) (at g here)
    (is_exactly-both a c.args.size (region x) (start ∙ c.if-start-base.false)
    (sym c.len.ensures ∙ c.if-len-size.true)) in
    subst (λ (ys : List g.row.R.Denot). (y : g.row.R.Denot) × (n - 1 < length ys) × (slice_get ys (n - 1) ≡ Some y)
    × (removed region ys a c.args.size ≡ Some (remove ys (n - 1), y))) c.self.view_is
    (x, within, slice_get_read xs (length xs) (n - 1) x refl within (at g here), found)
