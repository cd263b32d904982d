-- Replies to stores and loads of values.
use Rattle.std.proofs.Common.{◌≡◌, ◌⊎◌, ℕ, List, length, Result, Ok, Err, refl, ap, ◌∙◌, inl, inr, subst, sym}
use Rattle.vm_memory_base.specs.Pages.{PageSet}
use Rattle.vm_memory_base.specs.declared.iotlb.Permissions.TheVariants as permissions
use Rattle.vm_memory_guest.specs.Access.{Reached}
use Rattle.vm_memory_guest.specs.Answer.{Outcome}
use Rattle.vm_memory_guest.specs.Dirt.{after_write}
use Rattle.vm_memory_guest.specs.Host.{Host}
use Rattle.vm_memory_guest.specs.Memory as memories
use Rattle.vm_memory_guest.specs.Typed.{answered, path_given}
use Rattle.vm_memory_guest.specs.declared.region.error.GuestMemoryError.{GuestMemoryError}
use Rattle.vm_memory_guest.specs.declared.region.error.GuestMemoryError.TheVariants as errors
use Rattle.vm_memory.specs.Reply.{as_done, refusal_of, refused_as, replied, reply_of, reply_of_error}
use Rattle.vm_memory.specs.Typed.{stores_bytes, taken_by}
use Rattle.vm_memory.specs.declared.machine.command.Reply.{Reply}
use Rattle.vm_memory.specs.declared.machine.command.Reply.TheVariants.{Done}
use Rattle.vm_memory.specs.declared.machine.refusal.Refusal.TheVariants as refusal

-- one function after another
pub answered_then : {X Y Z E : Type 0} (f : X → Y) (g : Y → Z) (r : Result X E)
    → answered (λ x. g (f x)) r ≡ answered g (answered f r)
answered_then f g (Ok x) = refl
answered_then f g (Err e) = refl

-- what is told of a load's answer
pub load_is : {T : Type 0} (wants : Type 0) {given expected : Result T GuestMemoryError} → given ≡ expected
    → (r : Result T GuestMemoryError) → Outcome errors.Memory wants given (Unit {0}) (Unit {0}) r
    → (refused_as r ≡ refused_as expected) ⊎ ((refused_as r ≡ Err refusal.Memory) × wants)
load_is {T} wants same (Ok v) (is, u) = inl (ap (λ (x : Result T GuestMemoryError). refused_as x) (is ∙ same))
load_is wants same (Err e) (inl (is, want, u)) = inr (ap (λ (d : GuestMemoryError). Err (refusal_of d)) is, want)
load_is {T} wants same (Err e) (inr (is, u)) =
    inl (ap (λ (x : Result T GuestMemoryError). refused_as x) (is ∙ same))

error_told : {X Y : Type 0} (f : X → Y) (told : X → Reply) (r : Result X GuestMemoryError)
    (e : GuestMemoryError) → Err e ≡ answered f r → reply_of_error e ≡ reply_of told r
error_told f told (Ok x) e h = absurd (cc)
error_told f told (Err d) e h = let same : e ≡ d = cc in ap reply_of_error same

done_told : {X : Type 0} (u : Unit {0}) (r : Result X GuestMemoryError) → Ok u ≡ answered (λ x. tt {0}) r
    → Done ≡ reply_of (λ x. Done) r
done_told u (Ok x) e = refl
done_told u (Err d) e = absurd (cc)

-- the reply to a store, and what is left of it
module _ (m : memories.Memory) (host new : Host PageSet) (a n : ℕ) (bytes : List ℕ) (len : length bytes ≡ n) where
  abbrev taken : Result (List Reached) GuestMemoryError
  taken = taken_by m host.tables a n permissions.Write

  abbrev left : Type 0
  left = new ≡ after_write (path_given taken) bytes host

  stored : left → (u : Unit {0}) → Ok u ≡ answered (λ xs. tt {0}) taken → (Done, new) ≡ stores_bytes m host a bytes
  stored is u e = rw (len, is, ← done_told u taken e) refl

  not_stored : left → (e : GuestMemoryError) → Err e ≡ answered (λ xs. tt {0}) taken
      → (reply_of_error e, new) ≡ stores_bytes m host a bytes
  not_stored is e h = rw (len, is, ← error_told (λ xs. tt {0}) (λ xs. Done) taken e h) refl

  pub store_is : (Wants : ℕ → Type 0) {Stays Writes : Type 0} {expected : Result (Unit {0}) GuestMemoryError}
      → expected ≡ answered (λ xs. tt {0}) taken → (Writes → left) → (Stays → new ≡ host)
      → (r : Result (Unit {0}) GuestMemoryError) → Outcome errors.Memory (Wants n) expected Stays Writes r
      → ((replied as_done (refused_as r), new) ≡ stores_bytes m host a bytes)
      ⊎ ((refused_as r ≡ Err refusal.Memory) × Wants (length bytes) × (new ≡ host))
  store_is Wants told writes stays (Ok u) (is, effect) = inl (stored (writes effect) u (is ∙ told))
  store_is Wants told writes stays (Err e) (inl (is, wants, same)) =
      inr (ap (λ (d : GuestMemoryError). Err (refusal_of d)) is, subst Wants (sym len) wants, stays same)
  store_is Wants told writes stays (Err e) (inr (is, effect)) =
      inl (not_stored (writes effect) e (is ∙ told))
