-- The walk through a backend, one call after the other.
use Rattle.std.proofs.Common.{◌≡◌, ℕ, ◌+◌, ◌-◌, ◌^◌, ◌<◌, ◌≤◌, min, List, [], ◌∷◌, length, Option, Some, None, map, option_map, Result, Ok, Err, sym, ap, ◌∙◌, arith}
use Rattle.std.proofs.lemmas.Bool.Decides.{nat_tests}
use Rattle.std.specs.Iterator.{MakesProgress, item_count}
use Rattle.vm_memory_base.specs.Address.{step}
use Rattle.vm_memory_guest.specs.Host.{Cell}
use Rattle.vm_memory_guest.specs.Region.{Region, IsRegion, IsLayout, containing_region, containing_in, slice_from, window_at}
use Rattle.vm_memory_guest.specs.Window.{Window}
use Rattle.vm_memory_guest.specs.declared.region.error.GuestMemoryError.{GuestMemoryError}
use Rattle.vm_memory_guest.specs.declared.region.error.GuestMemoryError.TheVariants.{InvalidGuestAddress}
use Rattle.vm_memory_guest.proofs.RegionLaws.{containing_in-map}
use Rattle.vm_memory_guest.proofs.PathWalk.{direct_items, walk-none, walk-hole, walk-bare, walk-in_region, containing_region-within, is_within-bounds, window_in, len_in}

-- an iterator that gave the first item of its list has fewer left
pub first_goes : {S A : Type 0} (rest : S → List A) (s t : S) (x : A) → rest s ≡ x ∷ rest t
    → MakesProgress (λ _. Unit {0}) (item_count rest) s (Some x) t
first_goes rest s t x gives =
    let fewer : length (rest t) < length (rest s) = rw gives (omega arith) in
    record { on = λ _. (tt, tt, fewer); keeps = tt; rests = λ _. tt }

-- where an address is found, and where it is not
pub containing_region-found : {R : Type 0} (region : R → Region) (rs : List R) (a : ℕ) (r : R)
    → Some r ≡ containing_in region rs a → containing_region (map region rs) a ≡ Some (region r)
containing_region-found region rs a r found = sym (containing_in-map region rs a) ∙ ap (option_map region) (sym found)

pub containing_region-missed : {R : Type 0} (region : R → Region) (rs : List R) (a : ℕ)
    → None ≡ containing_in region rs a → containing_region (map region rs) a ≡ None
containing_region-missed region rs a found = sym (containing_in-map region rs a) ∙ ap (option_map region) (sym found)

-- the error of an address that no region holds comes alone
pub walk-ends : (regions : List Region) (a n : ℕ) → a < 2 ^ 64 → containing_region regions a ≡ None → 0 < n
    → direct_items regions a n ≡ Err (InvalidGuestAddress (record { 0 = a })) ∷ direct_items regions a 0
walk-ends regions a n below hole more = rw (walk-none regions a) (walk-hole regions a n below hole more)

module _ (regions : List Region) (a n : ℕ) (r : Region) (layout : IsLayout regions)
    (found : containing_region regions a ≡ Some r) (is_region : IsRegion r) (more : 0 < n) (below : a < 2 ^ 64) where
  -- the window that a region gives of what of the access lies in it comes first, and the walk goes on after it
  pub walk-gives : (start len : ℕ) (w : Window) → start ≡ a - r.start → len ≡ min (r.len - start) n → (o : Option Cell)
      → r.place ≡ o → slice_from o r.len start len ≡ Ok w
      → direct_items regions a n ≡ Ok w ∷ direct_items regions (step a len) (n - len)
  walk-gives start len w s l None bare gives = absurd (cc)
  walk-gives start len w s l (Some first) some gives =
      let within = is_within-bounds r.start r.len a (containing_region-within regions a r found) in
      let fits : start + len ≤ r.len = omega (arith, within.0, within.1) in
      let window : window_at first start len ≡ w = grind (arith, nat_tests) in
      let count : len_in r a n ≡ len = sym (l ∙ ap (λ x. min (r.len - x) n) s) in
      walk-in_region regions a n r first layout found some is_region more
      ∙ (ap (λ k. Ok (window_in r first a k) ∷ direct_items regions (step a k) (n - k)) count
      ∙ (ap (λ x. Ok (window_at first x len) ∷ direct_items regions (step a len) (n - len)) (sym s)
      ∙ ap (λ v. Ok v ∷ direct_items regions (step a len) (n - len)) window))

  -- the error of a region without host bytes comes alone
  pub walk-refuses : (start len : ℕ) (e : GuestMemoryError) → start ≡ a - r.start → len ≡ min (r.len - start) n
      → (o : Option Cell) → r.place ≡ o → slice_from o r.len start len ≡ Err e
      → direct_items regions a n ≡ Err e ∷ direct_items regions a 0
  walk-refuses start len e s l None bare gives =
      rw (walk-none regions a)
      (walk-bare regions a n r below found bare more ∙ ap (λ (x : Result Window GuestMemoryError). x ∷ []) gives)
  walk-refuses start len e s l (Some first) some gives =
      let within = is_within-bounds r.start r.len a (containing_region-within regions a r found) in
      let fits : start + len ≤ r.len = omega (arith, within.0, within.1) in
      absurd (grind (arith, nat_tests))
