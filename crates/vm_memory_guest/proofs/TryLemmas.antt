-- Accesses by a callback, one call after the other.
use Rattle.std.proofs.Common.{◌≡◌, ℕ, ◌+◌, ◌-◌, min, List, Some, None, Result, Ok, Bor, refl, sym, ap, subst, subst₂, ◌∙◌}
use Rattle.std.specs.Fn.{Mut, Called}
use Rattle.vm_memory_base.specs.Address.{step}
use Rattle.vm_memory_base.specs.declared.address.MemoryRegionAddress.{MemoryRegionAddress}
use Rattle.vm_memory_guest.specs.Region.{Region, containing_in}
use Rattle.vm_memory_guest.specs.TryAccess.{CallsAt, CallsIn, Ends, GoesOn, after_call, answer_at_unmapped, TryAccess, Nowhere, Last, More}
use Rattle.vm_memory_guest.specs.declared.region.error.GuestMemoryError.{GuestMemoryError}

module _ {R F : Type 0} (region : R → Region) (rs : List R)
    (call : Mut F (ℕ × (ℕ × (MemoryRegionAddress × (Bor R × Unit {0})))) (Result ℕ GuestMemoryError))
    (start count : ℕ) where
  abbrev pub Access : F → ℕ → ℕ → Result ℕ GuestMemoryError → F → Type 0
  Access = TryAccess region rs (CallsAt call) start count

  -- a call that was made is one for what of the rest lies in the region
  module _ (f g : F) (shown : Bor R) (total a first size len : ℕ) (given : Result ℕ GuestMemoryError)
      (called : Called call f (total, (len, (record { 0 = a - first }, (shown, tt)))) given g)
      (first_is : first ≡ (region shown.now).start) (size_is : size ≡ (region shown.now).len)
      (len_is : len ≡ min (size - (a - first)) (count - total))
      (found : Some shown.now ≡ containing_in region rs a) where
    made : CallsIn region rs (CallsAt call) start count f total a shown.now given g
    made =
        let offset = ap (λ s. a - s) first_is in
        let rest = len_is ∙ ap (λ n. min (n - (a - first)) (count - total)) size_is
        ∙ ap (λ o. min ((region shown.now).len - o) (count - total)) offset in
        record {
          shown = shown;
          shows = refl;
          called = subst₂ (λ n o. Called call f
              (total, (n, (record { 0 = o }, (shown, tt)))) given g) rest offset called;
        }

    -- the access ends with its answer, or goes on after what was handled
    pub ends-here : (answer : Result ℕ GuestMemoryError) → after_call count total a given ≡ Ends answer
        → Access f total a answer g
    ends-here answer then = Last shown.now given (sym found) made then

    pub goes-on : (n b : ℕ) (answer : Result ℕ GuestMemoryError) (last : F) → given ≡ Ok n
        → after_call count total a (Ok n) ≡ GoesOn → b ≡ step a n
        → Access g (total + n) b answer last → Access f total a answer last
    goes-on n b answer last is then to rest =
        More shown.now n (sym found)
        (subst (λ x. CallsIn region rs (CallsAt call) start count f total a shown.now x g) is made) then
        (subst (λ x. Access g (total + n) x answer last) to rest)

  pub ends-nowhere : (f : F) (total a : ℕ) (answer : Result ℕ GuestMemoryError) → None ≡ containing_in region rs a
      → answer ≡ answer_at_unmapped start total → Access f total a answer f
  ends-nowhere f total a answer hole is = subst (λ x. Access f total a x f) (sym is) (Nowhere (sym hole))
