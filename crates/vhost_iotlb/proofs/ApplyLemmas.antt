-- What was made for a message of the front end.
use Rattle.std.proofs.Common.{◌≡◌, cond, ℕ, ◌+◌, ◌-◌, ◌^◌, ◌<◌, List, [], ◌∷◌, Option, Some, None, Result, Ok, Err, IfErr, OnOk, Bool, true, false, refl, sym, ap, subst, ◌∙◌}
use Rattle.vm_memory_base.specs.Table as table
use Rattle.vm_memory_base.specs.Table.{TableEvent, overruns}
use Rattle.vm_memory_base.specs.declared.address.GuestAddress.{GuestAddress}
use Rattle.vm_memory_base.specs.declared.iotlb.Permissions.{Permissions}
use Rattle.vm_memory_guest.specs.Host.{Host}
use Rattle.vhost_iotlb.specs.Changes.{Applies, ChangesFor, LeftByRefused, Makes, MakesOfMalformed, MayWant, call_of, done_of, invalidate, invalidated, set_to}
use Rattle.vhost_message.specs.Regions.{guest_of}
use Rattle.vhost_message.specs.declared.refusal.Malformed.{Malformed}
use Rattle.vhost_message.specs.declared.refusal.Malformed.TheVariants as malformed
use Rattle.vhost_message.specs.declared.iotlb.IotlbMessage.{IotlbMessage}
use Rattle.vhost_message.specs.declared.iotlb.IotlbMessage.TheVariants.{Miss, Update, Invalidate, AccessFail}
use Rattle.vhost_iotlb.specs.declared.table.Refusal.{Refusal}
use Rattle.vhost_iotlb.specs.declared.table.Refusal.TheVariants as refusal
use Rattle.vhost_message.specs.declared.regions.MemoryRegion.{MemoryRegion}

-- an INVALIDATE is refused only if it is malformed
not_user : (iova : ℕ) (r : Result ℕ Malformed) → invalidate iova r ≡ Err refusal.UserAddress → ⊥
not_user iova (Ok len) is = absurd cc
not_user iova (Err e) is = absurd cc

-- ---- what no message is refused for

abbrev is_odd : Result TableEvent Refusal → Bool
is_odd (Err refusal.Memory) = true
is_odd (Err refusal.NoTable) = true
is_odd (Err refusal.UserAddress) = false
is_odd (Err (refusal.Malformed e)) = false
is_odd (Ok call) = false

none_odd : (b : Bool) (r : Result TableEvent Refusal) → is_odd r ≡ false
    → is_odd (cond b (Err (refusal.Malformed malformed.Range)) r) ≡ false
none_odd true r even = refl
none_odd false r even = even

set_even : (iova size : ℕ) (perm : Permissions) (to : Option GuestAddress) → is_odd (set_to iova size perm to) ≡ false
set_even iova size perm None = refl
set_even iova size perm (Some to) = refl

taken_even : (iova : ℕ) (r : Result ℕ Malformed) → is_odd (invalidate iova r) ≡ false
taken_even iova (Ok len) = refl
taken_even iova (Err e) = refl

even : (regions : List MemoryRegion) (m : IotlbMessage) → is_odd (call_of regions m) ≡ false
even regions (Update iova size user perm) =
    none_odd (overruns iova size) (set_to iova size perm (guest_of regions user size))
    (set_even iova size perm (guest_of regions user size))
even regions (Invalidate iova size) = taken_even iova (invalidated iova size)
even regions (Miss iova access) = refl
even regions (AccessFail iova access) = refl

never : (regions : List MemoryRegion) (m : IotlbMessage) (e : Refusal) → call_of regions m ≡ Err e
    → is_odd (Err e) ≡ true → ⊥
never regions m e is odd = let no = sym (even regions m) ∙ ap is_odd is ∙ odd in absurd cc

-- ---- what was made

module _ {B : Type 0} (number : ℕ) (regions : List MemoryRegion) (old new : Host B) where
  -- a call that was asked for
  made_by : (m : IotlbMessage) (wanted : TableEvent) → call_of regions m ≡ Ok wanted
      → ChangesFor number wanted old new
      → (calls : List TableEvent) × Makes number (call_of regions m) calls old new
  made_by m wanted is by = (
    by.0 ∷ [],
    record { wanted = wanted; call = by.0; is_asked = is; done_for = by.1; made = refl; changes = by.2 },
  )

  -- a change that was asked for, which an allocation may stop
  pub made_or_not : (m : IotlbMessage) (wanted : TableEvent) → call_of regions m ≡ Ok wanted → (r : Result ℕ Refusal)
      → OnOk r (ChangesFor number wanted old new)
      → IfErr r (λ e. (e ≡ refusal.Memory) × MayWant (Ok wanted) × (new ≡ old))
      → (calls : List TableEvent) × Applies number regions m (done_of r) calls old new
  made_or_not m wanted is (Ok n) made refused = made_by m wanted is made
  made_or_not m wanted is (Err e) made refused =
      let wants : MayWant (call_of regions m) = subst MayWant (sym is) refused.1 in (
        [],
        subst (λ (f : Refusal). Applies number regions m (Err f) [] old new) (sym refused.0)
            (wants, (refl, refused.2)),
      )

  malformed_by : (m : IotlbMessage) → LeftByRefused number m old new
      → (calls : List TableEvent) × MakesOfMalformed number m calls old new
  malformed_by (Invalidate iova size) left = (table.InvalidateAll ∷ [], (refl, left))
  malformed_by (Update iova size user perm) left = ([], (refl, left))
  malformed_by (Miss iova access) left = ([], (refl, left))
  malformed_by (AccessFail iova access) left = ([], (refl, left))

  user_by : (m : IotlbMessage) → call_of regions m ≡ Err refusal.UserAddress → LeftByRefused number m old new
      → new ≡ old
  user_by (Invalidate iova size) is left = absurd (not_user iova (invalidated iova size) is)
  user_by (Update iova size user perm) is left = left
  user_by (Miss iova access) is left = left
  user_by (AccessFail iova access) is left = left

  -- a message for which no call is asked
  pub refused_by : (m : IotlbMessage) (e : Refusal) → call_of regions m ≡ Err e → LeftByRefused number m old new
      → (calls : List TableEvent) × Applies number regions m (Err e) calls old new
  refused_by m (refusal.Malformed e) is left = let by = malformed_by m left in (by.0, (is, by.1))
  refused_by m refusal.UserAddress is left = ([], (is, (refl, user_by m is left)))
  refused_by m refusal.Memory is left = absurd (never regions m refusal.Memory is refl)
  refused_by m refusal.NoTable is left = absurd (never regions m refusal.NoTable is refl)
