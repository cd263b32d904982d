-- What layouts answer to questions about their addresses.
use Rattle.std.proofs.Common.{◌≡◌, ℕ, zero, suc, ◌+◌, ◌-◌, ◌<◌, ◌≤◌, List, [], ◌∷◌, map, drop, length, slice_get, Option, Some, None, MatchOption, refl, sym, ap, add-one, ◌∙◌, arith}
use Rattle.std.specs.Prelude.{is_none, ◌==◌}
use Rattle.std.proofs.lemmas.Bool.Decides.{nat_tests}
use Rattle.vm_memory_base.specs.declared.iotlb.Permissions.{Permissions}
use Rattle.vm_memory_guest.specs.Access.{AccessFault, access_of}
use Rattle.vm_memory_guest.specs.Memory.{Route}
use Rattle.vm_memory_guest.specs.Queries.{greatest_last, is_whole}
use Rattle.vm_memory_guest.specs.Region.{Region, IsRegion, IsLayout, last, containing_in}
use Rattle.vm_memory_guest.proofs.PathLaws.{access-ends}
use Rattle.vm_memory_guest.proofs.PathWalk.{is_within-bounds, containing_region-within}
use Rattle.vm_memory_guest.proofs.WalkLemmas.{containing_region-found}

module _ {R : Type 0} (region : R → Region) where
  -- the region that holds an address starts at it or below
  pub found-from : (rs : List R) (a : ℕ) (r : R) → Some r ≡ containing_in region rs a → (region r).start ≤ a
  found-from rs a r found =
      (is_within-bounds (region r).start (region r).len a
      (containing_region-within (map region rs) a (region r) (containing_region-found region rs a r found))).0

  -- and ends above it
  pub found-below : (rs : List R) (a : ℕ) (r : R) → Some r ≡ containing_in region rs a
      → a < (region r).start + (region r).len
  found-below rs a r found =
      (is_within-bounds (region r).start (region r).len a
      (containing_region-within (map region rs) a (region r) (containing_region-found region rs a r found))).1

  module _ (fits : (r : R) → IsRegion (region r)) where
    first-below : (r : R) (rs : List R) → last (region r) ≤ greatest_last (map region (r ∷ rs))
    first-below r rs = omega arith

    -- of a layout the last region ends highest
    pub last-greatest : (rs : List R) (n : ℕ) (r : R) → IsLayout (map region rs) → n ≡ length rs - 1
        → Some r ≡ slice_get rs n → last (region r) ≡ greatest_last (map region rs)
    last-greatest [] n r layout is at = absurd (cc)
    last-greatest (q ∷ []) zero r layout is at =
        let same : r ≡ q = cc in ap (λ x. last (region x)) same ∙ omega arith
    last-greatest (q ∷ []) (suc n) r layout is at = absurd (cc)
    last-greatest (p ∷ q ∷ rs) zero r layout is at = absurd (omega arith)
    last-greatest (p ∷ q ∷ rs) (suc n) r layout is at =
        let rest = last-greatest (q ∷ rs) n r layout.1 (omega arith) at in
        let below = first-below q rs in
        let apart = layout.0 in
        let some = (fits q).some in
        rest ∙ omega arith

    pub none-greatest : (rs : List R) (n : ℕ) → n ≡ length rs - 1 → None ≡ slice_get rs n
        → 0 ≡ greatest_last (map region rs)
    none-greatest [] n is at = refl
    none-greatest (q ∷ []) zero is at = absurd (cc)
    none-greatest (q ∷ []) (suc n) is at = absurd (omega arith)
    none-greatest (p ∷ q ∷ rs) zero is at = absurd (omega arith)
    none-greatest (p ∷ q ∷ rs) (suc n) is at = absurd (none (q ∷ rs) n (omega arith) at)
      where
        none : (rs : List R) (n : ℕ) → n < length rs → None ≡ slice_get rs n → ⊥
        none [] n inside at = absurd (omega arith)
        none (r ∷ rs) zero inside at = absurd (cc)
        none (r ∷ rs) (suc n) inside at = none rs n (omega arith) at

-- what is reached has all of n bytes where nothing stops it
whole-ends : (o : Option AccessFault) (len n : ℕ) → MatchOption o (len ≡ n) (λ fault. len < n) → is_none o ≡ (len == n)
whole-ends None len n h = grind (arith, nat_tests)
whole-ends (Some fault) len n h = grind (arith, nat_tests)

pub whole-access : (regions : List Region) (route : Route) (a n : ℕ) (access : Permissions)
    → let reached = access_of regions route a n access in is_none reached.fault ≡ is_whole reached.path n
whole-access regions route a n access =
    let reached = access_of regions route a n access in
    whole-ends reached.fault (length reached.path) n (access-ends regions route a n access)

-- the regions from the n-th on: the n-th, and those after it
pub drop-some : {X : Type 0} (xs : List X) (n : ℕ) (x : X) → Some x ≡ slice_get xs n
    → drop n xs ≡ x ∷ drop (n + 1) xs
drop-some xs n x at = behind xs n x at ∙ ap (λ m. x ∷ drop m xs) (sym (add-one n))
  where
    behind : {X : Type 0} (xs : List X) (n : ℕ) (x : X) → Some x ≡ slice_get xs n → drop n xs ≡ x ∷ drop (suc n) xs
    behind [] n x at = absurd (cc)
    behind (y ∷ xs) zero x at = let same : x ≡ y = cc in ap (λ z. z ∷ xs) (sym same)
    behind (y ∷ xs) (suc n) x at = behind xs n x at
