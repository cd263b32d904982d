-- Replies that tell of no change, and that none was made then.
use Rattle.std.proofs.Common.{◌∙◌, ◌≡◌, ℕ, List, [], ◌∷◌, map, length, Bool, true, false, ◌==◌, cond, Option, Some, None, Result, Ok, Err, subst, refl, inl, inr, arith}
use Rattle.std.proofs.lemmas.Bool.{eqb-true, true≢false}
use Rattle.vm_memory_base.specs.Pages.{PageSet}
use Rattle.vm_memory_base.specs.Script.{next_of}
use Rattle.vm_memory_base.specs.declared.io.scripted.SourceStep.{SourceStep}
use Rattle.vm_memory_guest.specs.Access.{Reached, windows}
use Rattle.vm_memory_guest.specs.Dealt.{received}
use Rattle.vm_memory_guest.specs.Error.{of_window}
use Rattle.vm_memory_guest.specs.Host.{Host}
use Rattle.vm_memory_guest.specs.Transfer.{ended}
use Rattle.vm_memory_guest.specs.Typed.{path_given}
use Rattle.vm_memory_guest.specs.declared.region.error.GuestMemoryError.{GuestMemoryError}
use Rattle.vm_memory_guest.specs.declared.region.error.GuestMemoryError.TheVariants as errors
use Rattle.vm_memory.specs.Reply.{moved_as, reply_of, reply_of_error, is_partial}
use Rattle.vm_memory.proofs.TransferLemmas.{RefusedLaw, io_of_window, is_io, scripts_fail_so}
use Rattle.vm_memory.specs.declared.machine.command.Reply.{Reply}
use Rattle.vm_memory.specs.declared.machine.command.Reply.TheVariants as reply
use Rattle.vm_memory.specs.declared.machine.command.Fault.{Fault}
use Rattle.vm_memory.specs.declared.machine.command.Fault.TheVariants as fault

-- replies that tell of no change
abbrev pub IsStill : Reply → Type 0
IsStill (reply.Layout n) = ⊥
IsStill (reply.MemoryMade n) = ⊥
IsStill reply.Done = ⊥
IsStill (reply.Count n) = ⊥
IsStill (reply.Pages pages) = ⊥
IsStill (reply.Fault (fault.PartialBuffer expected completed)) = ⊥
IsStill (reply.Fault (fault.IOError kind)) = ⊥
IsStill r = Unit {0}

-- a call that moves bytes and replies no change was answered by an error
pub not_moved : (whole : Bool) (n : ℕ) (answer : Result ℕ GuestMemoryError) (r : Reply) → IsStill r
    → r ≡ moved_as whole n answer
    → (e : GuestMemoryError) × (answer ≡ Err e) × (r ≡ reply_of_error e)
not_moved false n (Ok total) r still is = absurd (subst IsStill is still)
not_moved false n (Err e) r still is = (e, refl, is)
not_moved true n (Err e) r still is = (e, refl, is)
not_moved true n (Ok total) r still is = go (total == n) is
  where
    go : (b : Bool) → r ≡ reply_of (λ (done : Unit {0}). reply.Done)
        (cond b (Ok tt) (Err (errors.PartialBuffer n total)))
        → (e : GuestMemoryError) × (Ok total ≡ Err e) × (r ≡ reply_of_error e)
    go true is = absurd (subst IsStill is still)
    go false is = absurd (subst IsStill is still)

-- an access that is answered by an error reached nothing
pub reached_none : (xs : List Reached) (fault : Option GuestMemoryError) (e : GuestMemoryError)
    → ended (length xs) fault ≡ Err e → xs ≡ []
reached_none [] fault e is = refl
reached_none (x ∷ xs) None e is = absurd (cc)
reached_none (x ∷ xs) (Some f) e is = go (length (x ∷ xs) == 0) refl is
  where
    go : (b : Bool) → (length (x ∷ xs) == 0) ≡ b → cond b (Err f) (Ok (length (x ∷ xs))) ≡ Err e → x ∷ xs ≡ []
    go true h is = absurd (omega (arith, eqb-true (length (x ∷ xs)) 0 h))
    go false h is = absurd (cc)

-- a store that does not reply that it is done took nothing
pub not_stored : (t : Result (List Reached) GuestMemoryError) (r : Reply) → IsStill r
    → r ≡ reply_of (λ xs. reply.Done) t → path_given t ≡ []
not_stored (Ok xs) r still e = absurd (subst IsStill e still)
not_stored (Err d) r still e = refl

-- a transfer in that replies no count and no failure of its source received nothing
module _ (refused : RefusedLaw) (fault : Option GuestMemoryError) (xs : List Reached) (source : List SourceStep)
    (host : Host PageSet) (r : Reply) (still : IsStill r) where
  not_received_by : (until_full : Bool) (x : GuestMemoryError)
      → (received of_window fault until_full (windows xs) 0 (map next_of source) host).answer ≡ Err x
      → r ≡ reply_of_error x → (received of_window fault until_full (windows xs) 0 (map next_of source) host).host
      ≡ host
  not_received_by until_full x same e =
      elim (refused is_io fault until_full xs (map next_of source) host x (scripts_fail_so source) same) [
        | inl failed ↦
            absurd (io_of_window failed.0 x (λ (y : GuestMemoryError). IsStill (reply_of_error y)) failed.1 failed.2
            (subst IsStill e still) (λ kind h. h))
        | inr kept ↦ kept.1
      ]

  pub not_received : (whole : Bool) (n : ℕ) (answer : Result ℕ GuestMemoryError)
      → (received of_window fault whole (windows xs) 0 (map next_of source) host).answer ≡ answer
      → r ≡ moved_as whole n answer
      → (received of_window fault whole (windows xs) 0 (map next_of source) host).host ≡ host
  not_received whole n answer same is =
      let e = not_moved whole n answer r still is in not_received_by whole e.0 (same ∙ e.1) e.2

-- a fault that is not told of an access in part is one
pub still-fault : (f : Fault) → is_partial f ≡ false → IsStill (reply.Fault f)
still-fault (fault.PartialBuffer expected completed) e = absurd (true≢false e)
still-fault (fault.InvalidGuestAddress addr) e = tt
still-fault (fault.IOError kind) e = absurd (true≢false e)
still-fault fault.InvalidBackendAddress e = tt
still-fault fault.HostAddressNotAvailable e = tt
still-fault fault.CallbackOutOfRange e = tt
still-fault fault.GuestAddressOverflow e = tt
still-fault (fault.IommuError d) e = tt
still-fault fault.NoMemoryRegion e = tt
still-fault fault.MemoryRegionOverlap e = tt
still-fault fault.UnsortedMemoryRegions e = tt
