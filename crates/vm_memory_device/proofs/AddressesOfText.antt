-- The addresses of texts, and what calls reach of them.
use Rattle.std.proofs.Common.{◌≡◌, ◌∙◌, ℕ, zero, suc, ◌+◌, Bool, true, false, not, ◌&&◌, cond, List, [], ◌∷◌, ◌++◌, map, Some, refl, ap, slice_get}
use Rattle.std.specs.List.{flat_map}
use Rattle.std.proofs.lemmas.List.{map-append}
use Rattle.vm_memory_base.specs.Address.{numbers}
use Rattle.vm_memory_base.specs.declared.iotlb.Permissions.{Permissions}
use Rattle.vm_memory_guest.specs.Access.{AccessFault, Meets, Reached, Reaches, Stops, allowed, meets, onto, refusal}
use Rattle.vm_memory_guest.specs.Memory.{Route}
use Rattle.vm_memory_guest.specs.Region.{Region}
use Rattle.vm_memory_device.specs.Chain.{Entry, access_len, entries_from, meets_entry, text, text_path}
use Rattle.vm_memory_device.specs.declared.chain.Segment.{Segment}

-- the addresses of a segment
addresses-entries_from : (a n : ℕ) → map (λ (e : Entry). e.address) (entries_from a n) ≡ numbers a n
unfolding entries_from
addresses-entries_from a zero = refl
addresses-entries_from a (suc zero) = refl
addresses-entries_from a (suc (suc n)) = ap (λ (xs : List ℕ). a ∷ xs) (addresses-entries_from (a + 1) (suc n))

-- and those of a text
pub addresses-text : (ss : List Segment)
    → map (λ (e : Entry). e.address) (text ss) ≡ flat_map (λ (s : Segment). numbers s.addr.0 s.len) ss
addresses-text [] = refl
addresses-text (s ∷ ss) =
    map-append (λ (e : Entry). e.address) (entries_from s.addr.0 s.len) (text ss)
    ∙ ap (λ xs. xs ++ map (λ (e : Entry). e.address) (text ss)) (addresses-entries_from s.addr.0 s.len)
    ∙ ap (λ xs. numbers s.addr.0 s.len ++ xs) (addresses-text ss)

not_stopped : (b : Bool) (f : AccessFault) (m : Meets) (x : Reached) → cond b (Stops f) m ≡ Reaches x → m ≡ Reaches x
not_stopped true f m x h = absurd (cc)
not_stopped false f m x h = h

module _ (regions : List Region) (route : Route) (access : Permissions) where
  -- what is reached at a place of a text is what the address there leads to
  pub next_address : (begins : Bool) (es : List Entry) (i : ℕ) (x : Reached)
      → slice_get (text_path regions route access begins es) i ≡ Some x
      → (e : Entry) × (slice_get es i ≡ Some e) × (meets regions route e.address 0 ≡ Reaches x)
  unfolding text_path
  next_address begins [] i x h = absurd (cc)
  next_address begins (e ∷ es) i x h =
      go i (meets_entry regions route access begins e es) (λ k rest. next_address e.ends es k x rest) refl h
    where
      go : (k : ℕ) (y : Meets)
          → ((j : ℕ) → slice_get (text_path regions route access e.ends es) j ≡ Some x
          → (d : Entry) × (slice_get es j ≡ Some d) × (meets regions route d.address 0 ≡ Reaches x))
          → meets_entry regions route access begins e es ≡ y
          → slice_get (onto y (text_path regions route access e.ends es)) k ≡ Some x
          → (d : Entry) × (slice_get (e ∷ es) k ≡ Some d) × (meets regions route d.address 0 ≡ Reaches x)
      go k (Stops f) more met h = absurd (cc)
      go zero (Reaches r) more met h =
          let same : r ≡ x = cc in (
            e,
            refl,
            not_stopped (begins && not (allowed route e.address (access_len (e ∷ es)) access))
                (refusal route e.address (access_len (e ∷ es))) (meets regions route e.address 0) x
                (met ∙ ap (λ q. Reaches q) same),
          )
      go (suc k) (Reaches r) more met h = more k h
