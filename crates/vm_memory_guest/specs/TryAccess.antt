-- Accesses by a callback, which is called for what of the rest lies in one region, and returns how many of its
-- bytes it handled.
use Rattle.std.specs.Prelude.{◌≡◌, ℕ, ◌+◌, ◌-◌, ◌^◌, min, nat_lt, ◌==◌, if◌then◌else◌, List, Some, None, Result, Ok, Err}
use Rattle.std.specs.Fn.{Mut, Called}
use denote.Ref.{Bor}
use Rattle.vm_memory_base.specs.Address.{step}
use Rattle.vm_memory_base.specs.declared.address.MemoryRegionAddress.{MemoryRegionAddress}
use Rattle.vm_memory_guest.specs.Region.{Region, containing_in}
use Rattle.vm_memory_guest.specs.declared.region.error.GuestMemoryError.{GuestMemoryError}
use Rattle.vm_memory_guest.specs.declared.region.error.GuestMemoryError.TheVariants.{InvalidGuestAddress, CallbackOutOfRange, GuestAddressOverflow}

-- a call of f with the total so far, the length, the offset and the region may return this and leave g
pub record CallsAt {F R : Type 0}
    (call : Mut F (ℕ × (ℕ × (MemoryRegionAddress × (Bor R × Unit {0})))) (Result ℕ GuestMemoryError))
    (f : F) (total len offset : ℕ) (r : R) (given : Result ℕ GuestMemoryError) (g : F) : Type 0 where
  pub shown : Bor R
  pub shows : shown.now ≡ r
  pub called : Called call f (total, (len, (record { 0 = offset }, (shown, tt)))) given g

-- what follows a result of the callback: the result of the call, or another call of the callback
pub data AfterCall : Type 0 where
  Ends : (answer : Result ℕ GuestMemoryError) → AfterCall
  GoesOn : AfterCall

-- after it was called at the address a, if total of count bytes were handled before
abbrev pub after_call : ℕ → ℕ → ℕ → Result ℕ GuestMemoryError → AfterCall
after_call count total a (Err e) = Ends (Err e)
after_call count total a (Ok n) = if n == 0 then Ends (Ok total)
    else (if nat_lt count (total + n) then Ends (Err CallbackOutOfRange)
    else (if total + n == count then Ends (Ok count)
    else (if nat_lt (2 ^ 64) (a + n) then Ends (Err GuestAddressOverflow) else GoesOn)))

-- the result at an address in no region
abbrev pub answer_at_unmapped : ℕ → ℕ → Result ℕ GuestMemoryError
answer_at_unmapped start total = if total == 0 then Err (InvalidGuestAddress (record { 0 = start })) else Ok total

module _ {R F : Type 0} (region : R → Region) (rs : List R)
    (Calls : F → ℕ → ℕ → ℕ → R → Result ℕ GuestMemoryError → F → Type 0) (start count : ℕ) where
  -- the callback is called at an address of a region, for what of the rest lies in the region
  abbrev pub CallsIn : F → ℕ → ℕ → R → Result ℕ GuestMemoryError → F → Type 0
  CallsIn f total a r given g =
      let offset = a - (region r).start in
      Calls f total (min ((region r).len - offset) (count - total)) offset r given g

  -- from the callback f, with total bytes handled, an access at a may return so and leave the callback g
  pub data TryAccess : F → ℕ → ℕ → Result ℕ GuestMemoryError → F → Type 0 where
    Nowhere : {f : F} {total a : ℕ} → containing_in region rs a ≡ None
        → TryAccess f total a (answer_at_unmapped start total) f
    Last : {f g : F} {total a : ℕ} {answer : Result ℕ GuestMemoryError} (r : R)
        (given : Result ℕ GuestMemoryError) → containing_in region rs a ≡ Some r → CallsIn f total a r given g
        → after_call count total a given ≡ Ends answer → TryAccess f total a answer g
    More : {f g h : F} {total a : ℕ} {answer : Result ℕ GuestMemoryError} (r : R) (n : ℕ)
        → containing_in region rs a ≡ Some r → CallsIn f total a r (Ok n) g → after_call count total a (Ok n) ≡ GoesOn
        → TryAccess g (total + n) (step a n) answer h → TryAccess f total a answer h
