use Rattle.std.proofs.Common.{◌≡◌, ℕ, ◌-◌, ◌<◌, Bool, true, false, if◌then◌else◌, List, length, map, get_or, slice_get, Some, None, refl, sym, ap, subst, ◌∙◌, inl, inr}
use Rattle.std.proofs.lemmas.Bool.{cases_lt}
use Rattle.std.proofs.lemmas.Option.{none-some, same_Some, get_or_from_slice_get, slice_get_past}
use Rattle.vm_memory_base.specs.declared.address.MemoryRegionAddress.{MemoryRegionAddress}
use Rattle.vm_memory_guest.specs.Queries.{offset_of}
use Rattle.vm_memory_guest.specs.Region.{Region, IsRegion, IsLayout, containing_in, has_address}
use Rattle.vm_memory_guest.proofs.RegionLaws.{apart, containing_in-holds}
use Rattle.vm_memory_guest.proofs.collection.GuestRegionCollectionGuestMemoryBackend.find_near.Goals as goal

offset-told : (holds : Bool) (n : ℕ) (o : MemoryRegionAddress)
    → Some o ≡ (if holds then Some (record { 0 = n }) else None) → (holds ≡ true) × (o.0 ≡ n)
offset-told true n o is = (refl, ap (λ (p : MemoryRegionAddress). p.0) (same_Some o (record { 0 = n }) is))
offset-told false n o is = absurd (none-some o (sym is))

-- a region of a layout that holds an address is the only one
module _ {X : Type 0} (region : X → Region) (fits : (x : X) → IsRegion (region x)) (xs : List X) (i a : ℕ) (x : X)
    (o : MemoryRegionAddress) (layout : IsLayout (map region xs)) (at : Some x ≡ slice_get xs i)
    (is : Some o ≡ offset_of (region x) a) where
  same : get_or xs i x ≡ x
  same = get_or_from_slice_get xs i x x (sym at)

  within : i < length xs
  within = elim (cases_lt i (length xs)) [
    | inl l ↦ l
    | inr m ↦ absurd (none-some x (sym (slice_get_past xs i m) ∙ sym at))
  ]

  told : (has_address (region x) a ≡ true) × (o.0 ≡ a - (region x).start)
  told = offset-told (has_address (region x) a) (a - (region x).start) o is

  near : (containing_in region xs a ≡ Some x) × (o.0 ≡ a - (region x).start)
  near = (
    containing_in-holds region xs (apart region fits xs (map (λ (r : Region). r.start) (map region xs))
        (record { layout = layout; starts = refl })) i a x within
        (subst (λ (y : X). has_address (region y) a ≡ true) (sym same) told.0)
        ∙ ap (λ (y : X). Some y) same,
    told.1,
  )

pub returns-in-Some-to_region_addr-clause-found : goal.returns-in-Some-to_region_addr-clause-found
returns-in-Some-to_region_addr-clause-found g c =
    near g.R.GuestMemoryRegion.region g.met.R.GuestMemoryRegion.fits c.args.self.now c.args.hint c.args.addr.0
    c.in-Some.region.now c.in-Some-to_region_addr.offset c.recall_law.ensures c.in-Some.ensures
    c.in-Some-to_region_addr.ensures
