use Rattle.std.proofs.Common.{◌≡◌, ℕ, ◌+◌, ◌<◌, List, map, flat_map, length, get_or, Bool, false, IsTrue}
use Rattle.std.proofs.Common.{refl, sym, ap, ◌∙◌, subst, arith}
use Rattle.std.proofs.lemmas.Bool.{false≢true}
use Rattle.std.specs.declared.alloc.Global.{Global}
use Rattle.std.specs.declared.sync.Arc.{Arc}
use Rattle.vm_memory_guest.specs.Host.{Shape, Holds}
use Rattle.vm_memory_guest.specs.Region.{Region, region_names}
use Rattle.vm_memory_guest.proofs.RegionLaws.{regions, region-at, length-regions}
use Rattle.vm_memory_guest.proofs.HoldsLemmas.{AreHeldFrom, AreHeldFrom-more, AreHeldFrom-at}
use Rattle.vm_memory_guest.proofs.collection.GuestRegionCollection.each_held.Given.{Over}
use Rattle.vm_memory_guest.proofs.collection.GuestRegionCollection.each_held.Goals as goal
use Rattle.vm_memory_guest.proofs.collection.GuestRegionCollection.each_held.Goals.{After-held_by}

-- the region that was read, of those that a collection shares
module _ {X : Type 0} (region : X → Region) (shape : Shape) (rs : List (Arc X Global)) (xs : List X)
    (is : map (λ (q : Arc X Global). q.value) rs ≡ xs) (i : ℕ) (r : Arc X Global) (inside : i < length rs)
    (at : r ≡ get_or rs i r) (held : AreHeldFrom shape (map region xs) i) where
  same : regions region rs ≡ map region xs
  same = ap (map region) is

  before : AreHeldFrom shape (regions region rs) i
  before = subst (λ (qs : List Region). AreHeldFrom shape qs i) (sym same) held

  within : i < length (regions region rs)
  within = rw (length-regions region rs) inside

  read : get_or (regions region rs) i (region r.value) ≡ region r.value
  read = region-at region rs i r (region r.value) inside at

  one_more : Holds shape (region_names (region r.value)) → AreHeldFrom shape (map region xs) (i + 1)
  one_more one =
      subst (λ (qs : List Region). AreHeldFrom shape qs (i + 1)) same
      (AreHeldFrom-more shape (regions region rs) i (region r.value) within read one before)

  this_one : Holds shape (flat_map region_names (map region xs)) → Holds shape (region_names (region r.value))
  this_one all =
      AreHeldFrom-at shape (regions region rs) i (region r.value) within read before
      (subst (λ (qs : List Region). Holds shape (flat_map region_names qs)) (sym same) all)

is : (g : Over) (c : After-held_by g)
    → map (λ (q : Arc g.row.R.Denot Global). q.value) c.deref-region-items.result.now ≡ c.args.self.now
is g c = ap (map (λ q. q.value)) c.deref-region-items.ensures.value ∙ c.self.view_is

names : (g : Over) (c : After-held_by g)
    → g.R.Named.names c.deref.result.now ≡ region_names (g.R.GuestMemoryRegion.region c.region-item.result.value)
names g c =
    g.met.R.GuestMemoryRegion.names_place c.deref.result.now
    ∙ ap (λ v. region_names (g.R.GuestMemoryRegion.region v)) c.deref.ensures

pub returns-then-not-held_by : goal.returns-then-not-held_by
returns-then-not-held_by g c =
    let here = (goal.at.returns-then-not-held_by g c).After-held_by in
    let this = this_one g.R.GuestMemoryRegion.region c.args.shape.now c.deref-region-items.result.now c.args.self.now
    (is g here)
    c.loop-region.region-index c.region-item.result (omega arith) c.region-item.is c.loop-region.invariant in
    let test : IsTrue c.held_by.result → IsTrue false = subst (λ (b : Bool). IsTrue b) c.if-not-held_by.true in
    (λ h. absurd (false≢true h), λ h. test (c.held_by.ensures.1 (rw (names g here) (this h))))

pub loop-region-preserved : goal.loop-region-preserved
loop-region-preserved g c =
    let here = (goal.at.loop-region-preserved g c).After-held_by in
    let yes : IsTrue c.held_by.result = subst (λ (b : Bool). IsTrue b) (sym c.if-not-held_by.false) refl in
    one_more g.R.GuestMemoryRegion.region c.args.shape.now c.deref-region-items.result.now c.args.self.now (is g here)
    c.loop-region.region-index c.region-item.result (omega arith) c.region-item.is c.loop-region.invariant
    (rw (names g here) at (c.held_by.ensures.0 yes))
