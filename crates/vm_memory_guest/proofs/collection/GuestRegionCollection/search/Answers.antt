use Rattle.std.proofs.Common.{◌≡◌, ℕ, ◌-◌, ◌<◌, ◌≤◌, List, Some, None, map, get_or}
use Rattle.std.proofs.Common.{sym, ap, subst, ◌∙◌, arith}
use Rattle.std.proofs.lemmas.List.{get_or-map, length-map}
use Rattle.std.specs.declared.alloc.Global.{Global}
use Rattle.std.specs.declared.sync.Arc.{Arc}
use Rattle.vm_memory_guest.specs.Collection.{regions_of, IsIndexed}
use Rattle.vm_memory_guest.specs.Region.{containing_in}
use Rattle.vm_memory_guest.proofs.RegionLaws.{length-starts, starts-ascend}
use Rattle.vm_memory_guest.proofs.RegionLaws.{containing_in-below, containing_in-before, containing_in-past, region-started}
use Rattle.vm_memory_guest.proofs.collection.GuestRegionCollection.search.Given.{Over}
use Rattle.vm_memory_guest.proofs.collection.GuestRegionCollection.search.Goals as goal
use Rattle.vm_memory_guest.proofs.collection.GuestRegionCollection.search.Goals.{After-deref-region}

-- what a search by the starts told: the region was read behind the last start that is not above the address
module _ (g : Over) (c : After-deref-region g) where
  abbrev values : List g.row.R.Denot
  values = regions_of c.self.inside.regions

  indexed : IsIndexed (map g.R.GuestMemoryRegion.region values) c.as_slice.result.now
  indexed = rw c.as_slice.ensures.value c.self.invariant

  some : 0 < c.first_above-next.result.0
  some = omega arith

  value_at : c.deref-region.result.now ≡ get_or values (c.first_above-next.result.0 - 1) c.deref-region.result.now
  value_at =
      let rs = c.self.inside.regions.items in
      let value = λ (q : Arc g.row.R.Denot Global). q.value in
      let n = c.first_above-next.result.0 in
      let same = length-starts g.R.GuestMemoryRegion.region g.met.R.GuestMemoryRegion.fits values
      c.as_slice.result.now indexed in
      let long = length-map rs value in
      let within = c.first_above-next.ensures.within in
      let first = some in
      c.deref-region.ensures ∙ ap value c.index.ensures
      ∙ sym (get_or-map value rs (n - 1) c.index.result.now c.deref-region.result.now (omega arith))

  low : c.first_above-next.result.1 ≤ c.args.addr.0
  low =
      let told = c.first_above-next.ensures in
      let h = told.below (c.first_above-next.result.0 - 1) (omega (arith, some)) in
      omega (arith, h, told.start some)

  started : (g.R.GuestMemoryRegion.region c.deref-region.result.now).start ≡ c.first_above-next.result.1
  started =
      let told = c.first_above-next.ensures in
      region-started g.R.GuestMemoryRegion.region g.met.R.GuestMemoryRegion.fits values c.as_slice.result.now indexed
      c.args.addr.0 c.first_above-next.result.0 told.above c.deref-region.result.now some told.within value_at
      c.first_above-next.result.1 (told.start some) low

  found : let r = g.R.GuestMemoryRegion.region c.deref-region.result.now in
      c.args.addr.0 - c.first_above-next.result.1 < r.len
      → containing_in g.R.GuestMemoryRegion.region c.args.self.now c.args.addr.0 ≡ Some c.deref-region.result.now
  found h =
      let told = c.first_above-next.ensures in
      let region = g.R.GuestMemoryRegion.region in
      sym (subst (λ (ys : List g.row.R.Denot). Some c.deref-region.result.now
      ≡ containing_in region ys c.args.addr.0) c.self.view_is
      (containing_in-before region g.met.R.GuestMemoryRegion.fits values c.as_slice.result.now indexed c.args.addr.0
      c.first_above-next.result.0 told.above c.deref-region.result.now some told.within value_at
      c.first_above-next.result.1
      (told.start some) low h))

  missed : let r = g.R.GuestMemoryRegion.region c.deref-region.result.now in
      r.len ≤ c.args.addr.0 - c.first_above-next.result.1
      → containing_in g.R.GuestMemoryRegion.region c.args.self.now c.args.addr.0 ≡ None
  missed h =
      let told = c.first_above-next.ensures in
      let region = g.R.GuestMemoryRegion.region in
      sym (subst (λ (ys : List g.row.R.Denot). None ≡ containing_in region ys c.args.addr.0) c.self.view_is
      (containing_in-past region g.met.R.GuestMemoryRegion.fits values c.as_slice.result.now indexed c.args.addr.0
      c.first_above-next.result.0 told.above c.deref-region.result.now some told.within value_at
      c.first_above-next.result.1
      (told.start some) low h))

pub first_above-next-requires : goal.first_above-next-requires
first_above-next-requires g c =
    let xs = regions_of c.self.inside.regions in
    starts-ascend g.R.GuestMemoryRegion.region g.met.R.GuestMemoryRegion.fits xs
    c.as_slice.result.now (rw c.as_slice.ensures.value c.self.invariant)

pub returns-then-next-eq0-clause-found : goal.returns-then-next-eq0-clause-found
returns-then-next-eq0-clause-found g c =
    let region = g.R.GuestMemoryRegion.region in
    let xs = regions_of c.self.inside.regions in
    let told = c.first_above-next.ensures in
    sym (subst (λ (ys : List g.row.R.Denot). None ≡ containing_in region ys c.args.addr.0) c.self.view_is
    (containing_in-below region g.met.R.GuestMemoryRegion.fits xs
    c.as_slice.result.now (rw c.as_slice.ensures.value c.self.invariant)
    c.args.addr.0 c.first_above-next.result.0 told.above c.if-next-eq0.true))

pub returns-then-offset-len-clause-found : goal.returns-then-offset-len-clause-found
returns-then-offset-len-clause-found g c =
    let here = (goal.at.returns-then-offset-len-clause-found g c).After-deref-region in
    (found g here (omega arith), ap (λ (n : ℕ). c.args.addr.0 - n) (sym (started g here)))

pub returns-else-offset-len-clause-found : goal.returns-else-offset-len-clause-found
returns-else-offset-len-clause-found g c =
    missed g (goal.at.returns-else-offset-len-clause-found g c).After-deref-region (omega arith)
