use Rattle.std.proofs.Common.{◌≡◌, ℕ, ◌<◌, List, Some, map, length, get_or, slice_get, remove, refl, sym, ap, subst, ◌∙◌, arith}
use Rattle.std.proofs.lemmas.List.{get_or-map, length-map}
use Rattle.std.proofs.lemmas.Option.{slice_get_read}
use Rattle.std.specs.declared.alloc.Global.{Global}
use Rattle.std.specs.declared.sync.Arc.{Arc}
use Rattle.vm_memory_guest.specs.Collection.{regions_of, each_is_region}
use Rattle.vm_memory_guest.proofs.LayoutLemmas.{IsLayout-remove, map-remove}
use Rattle.vm_memory_guest.proofs.RegionLaws.{starts-regions}
use Rattle.vm_memory_guest.proofs.collection.GuestRegionCollection.without.Goals as goal

-- what is left of a copy of shared values is what is left of the values
module _ {X : Type 0} (copy new : List (Arc X Global)) (old : List X) (i : ℕ)
    (same : map (λ (q : Arc X Global). q.value) copy ≡ old) where
  abbrev values : List (Arc X Global) → List X
  values rs = map (λ (q : Arc X Global). q.value) rs

  left : new ≡ remove copy i → values new ≡ remove old i
  left is =
      ap values is ∙ map-remove (λ (q : Arc X Global). q.value) copy i
      ∙ ap (λ (xs : List X). remove xs i) same

  -- and the one taken out is the one that stood there
  taken : (r : Arc X Global) → i < length old → r ≡ get_or copy i r → slice_get old i ≡ Some r.value
  taken r l at =
      let value = λ (q : Arc X Global). q.value in
      let long = length-map copy value in
      let inside : i < length (values copy) = subst (λ (xs : List X). i < length xs) (sym same) l in
      slice_get_read old (length old) i r.value refl l
      (ap value at ∙ sym (get_or-map value copy i r r.value (omega arith))
      ∙ ap (λ (xs : List X). get_or xs i r.value) same)

pub invariant_of-result : goal.invariant_of-result
invariant_of-result g c =
    let inside = c.self.inside in
    let region = g.R.GuestMemoryRegion.region in
    let new = c.remove-region.new.self.items in
    let whole =
    ap (map region) (left c.in_ok-regions.regions.items new (regions_of inside.regions) c.args.place
    c.in_ok-regions.ensures c.remove-region.ensures.items)
    ∙ map-remove region (regions_of inside.regions) c.args.place in
    record {
      layout = rw whole (IsLayout-remove (map region (regions_of inside.regions)) c.args.place
          (each_is_region region g.met.R.GuestMemoryRegion.fits (regions_of inside.regions))
          c.self.invariant.layout);
      starts = c.in_ok-starts.ensures ∙ starts-regions region new;
    }

pub returns : goal.returns
returns g c =
    let copy = c.in_ok-regions.regions.items in
    let new = c.remove-region.new.self.items in
    let same = c.in_ok-regions.ensures ∙ c.self.view_is in (
      left copy new c.args.self.now c.args.place same c.remove-region.ensures.items,
      taken copy new c.args.self.now c.args.place same c.remove-region.result c.requires
          c.remove-region.ensures.value,
    )
