-- Calls of a machine, as the steps of their commands.
use Rattle.std.proofs.Common.{◌≡◌, ◌⊎◌, ◌∙◌, refl, sym, ap, subst, inl, inr, ℕ, ◌<◌, List, length, map, slice_get, Option, Some, None, IsSome, IsSomeAnd, option_map, Result, Ok, Err}
use Rattle.std.proofs.lemmas.Option.{slice_get-map}
use Rattle.std.specs.Int as int
use Rattle.std.specs.Int.{byte_len, from_le_bytes, to_le_bytes}
use Rattle.vm_memory_base.specs.Pages.{PageSet}
use Rattle.vm_memory_base.specs.declared.address.GuestAddress.{GuestAddress}
use Rattle.vm_memory_base.specs.Table.{Table}
use Rattle.vm_memory_base.specs.declared.iotlb.Permissions.{Permissions}
use Rattle.vm_memory_base.specs.declared.iotlb.Permissions.TheVariants as permissions
use Rattle.vm_memory_guest.specs.Access.{Reached}
use Rattle.vm_memory_guest.specs.Dirt.{bytes_read}
use Rattle.vm_memory_guest.specs.Host.{Host}
use Rattle.vm_memory_guest.specs.Memory as guest
use Rattle.vm_memory_guest.specs.Memory.{route}
use Rattle.vm_memory_guest.specs.Typed.{answered}
use Rattle.vm_memory_guest.specs.Walk.{NeedsPieces}
use Rattle.vm_memory_guest.specs.declared.region.error.GuestMemoryError.{GuestMemoryError}
use Rattle.vm_memory_guest.proofs.PieceLemmas.{split-some}
use Rattle.vm_memory.specs.Calls.{AreIntegers, IsInteger, ReadsInto, SendsAs, SentBy, WritesOf, loaded}
use Rattle.vm_memory.specs.Commands.{MayTranslate, MayWant}
use Rattle.vm_memory.specs.Effect.{apply, if_there, leaves, Replies}
use Rattle.vm_memory.specs.Machine.{Step, outcome}
use Rattle.vm_memory.specs.Reply.{refused_as, replied, reply_of, reply_of_refusal}
use Rattle.vm_memory.specs.State.{State}
use Rattle.vm_memory.specs.Transfers.{beside_taken}
use Rattle.vm_memory.specs.Typed.{integer_of, loads, stores, stores_bytes, taken_by}
use Rattle.vm_memory.specs.declared.machine.command.Command.{Command}
use Rattle.vm_memory.specs.declared.machine.command.Command.TheVariants as command
use Rattle.vm_memory.specs.declared.machine.command.Reply.{Reply}
use Rattle.vm_memory.specs.declared.machine.command.Reply.TheVariants as reply
use Rattle.vm_memory.specs.declared.machine.command.Width.{Width}
use Rattle.vm_memory.specs.declared.machine.command.Width.TheVariants.{One, Two, Four, Eight}
use Rattle.vm_memory.specs.declared.machine.refusal.Refusal.{Refusal}
use Rattle.vm_memory.specs.declared.machine.refusal.Refusal.TheVariants as refusal

-- what stands at a number means the same there
pub there_meant : {X Y : Type 0} (f : X → Y) (xs : List X) (i : ℕ) (x : X) → slice_get xs i ≡ Some x
    → slice_get (map f xs) i ≡ Some (f x)
there_meant {X} f xs i x is = slice_get-map f xs i ∙ ap (λ (o : Option X). option_map f o) is

-- a call that changes the host by a memory that is there
pub changes_are_step : (old : State) (memory : ℕ) (m : guest.Memory) → slice_get old.memories memory ≡ Some m
    → (a n : ℕ)
    (does : guest.Memory → Host PageSet → Reply × Host PageSet) {T : Type 0} (told : T → Reply)
    (result : Result T Refusal) (after : Host PageSet)
    → ((replied told result, after) ≡ does m old.host)
    ⊎ ((result ≡ Err refusal.Memory) × NeedsPieces m old.host.tables a n permissions.Write × (after ≡ old.host))
    → WritesOf old memory a n does (replied told result) (record old { host = after })
changes_are_step old memory m there a n does told result after (inl is) =
    inl (rw there (ap (λ (p : Reply × Host PageSet). (p.0, record old { host = p.1 })) is))
changes_are_step old memory m there a n does {T} told result after (inr (is, wants, same)) = inr (
  ap (λ (r : Result T Refusal). replied told r) is,
  rw there wants,
  ap (λ (h : Host PageSet). record old { host = h }) same,
)

-- a call that sends the bytes of a memory that is there
pub sends_are_step : (now : State) (wants : Type 0) (c : Command) (expected : Reply)
    → outcome now c ≡ (expected, now) → (wants → MayWant now c) → (taken : Option (List ℕ)) (r : Reply)
    → SentBy expected wants taken r → SendsAs now c taken r
sends_are_step now wants c expected out may taken r (bytes, took, inl is) =
    (bytes, took, inl (ap (λ (x : Reply). (x, now)) is ∙ sym out))
sends_are_step now wants c expected out may taken r (bytes, took, inr (is, want)) =
    (bytes, took, inr (ap (λ (x : Reply). beside_taken bytes x) is, may want, refl))

-- a memory whose access takes the pieces of a translation is there, and the access is of some bytes
translated : (m : Option guest.Memory) (tables : List Table) (a n : ℕ) (access : Permissions)
    → IsSomeAnd m (λ x. NeedsPieces x tables a n access) → IsSome m × (0 < n)
translated None tables a n access h = absurd h
translated (Some m) tables a n access h = (refl, split-some (route m tables) a n h.1)

-- a read that is refused is a step of its command, which may want memory for the bytes
pub refused_read_is_step : {T : Type 0} (now : State) (memory a count : ℕ) (c : ℕ → Command) (told : T → Reply)
    (buffer new : List ℕ) (e : Refusal) (r : Reply)
    → (IsSome (slice_get now.memories memory) × (0 < count) → MayWant now (c count)) → length buffer ≡ count
    → ReadsInto now memory a (c (length buffer)) told buffer (Err e) new → r ≡ reply_of_refusal e
    → Step now (c count) r now
refused_read_is_step now memory a count c told buffer new e r may size (inl read) is =
    inl (ap (λ (x : Reply). (x, now)) is ∙ read.0 ∙ ap (λ (k : ℕ). outcome now (c k)) size)
refused_read_is_step {T} now memory a count c told buffer new e r may size (inr (wanted, pieces, same)) is =
    let there = translated (slice_get now.memories memory) now.host.tables a (length buffer) permissions.Read pieces in
    inr (
      is ∙ ap (λ (x : Result T Refusal). replied told x) wanted,
      may (there.0, subst (λ (k : ℕ). 0 < k) size there.1),
      refl,
    )

-- a number is stored in the bytes of its width
spelled : (width : Width) (number : ℕ)
    → length (to_le_bytes (integer_of width) number) ≡ byte_len (integer_of width)
spelled One number = refl
spelled Two number = refl
spelled Four number = refl
spelled Eight number = refl

-- a store of a number's bytes is the step of its command
pub stored_is_step : (old : State) (memory : ℕ) (addr : GuestAddress) (bytes : List ℕ) (r : Reply)
    (new : State) → WritesOf old memory addr.0 (length bytes) (λ m host. stores_bytes m host addr.0 bytes) r new
    → (width : Width) (number : ℕ) → IsInteger bytes width number
    → Step old (command.Store memory width addr number) r new
stored_is_step old memory addr bytes r new (inl is) width number (fits, same) =
    inl (is ∙ go (slice_get old.memories memory))
  where
    go : (m : Option guest.Memory) → apply old (if_there m (λ x. leaves (stores_bytes x old.host addr.0 bytes)))
        ≡ apply old (if_there m (λ x. leaves (stores x old.host addr.0 (integer_of width) number)))
    go None = refl
    go (Some x) = rw (same, fits) refl
stored_is_step old memory addr bytes r new (inr (is, may, kept)) width number (fits, same) = inr (
  is,
  (subst (λ k. MayTranslate old memory addr.0 k permissions.Write) (ap length same ∙ spelled width number) may, fits),
  kept,
)

-- a load of a number is the step of its command
pub loaded_is_step : {T : Type 0} (now : State) (memory : ℕ) (addr : GuestAddress) (value : List ℕ → T) (n : ℕ)
    (result : Result T Refusal)
    → (result ≡ loaded value (slice_get now.memories memory) now.host addr.0 n)
    ⊎ ((result ≡ Err refusal.Memory) × MayTranslate now memory addr.0 n permissions.Read)
    → (width : Width) (number : T → ℕ) → AreIntegers n value width number
    → Step now (command.Load memory width addr) (replied (λ v. reply.Value (number v)) result) now
loaded_is_step {T} now memory addr value n result (inl is) width number (size, numbers) =
    inl (ap (λ (r : Result T Refusal). (replied (λ v. reply.Value (number v)) r, now)) is
    ∙ go (slice_get now.memories memory))
  where
    w : int.Width
    w = integer_of width

    told_so : (xs : Result (List Reached) GuestMemoryError)
        → replied (λ v. reply.Value (number v)) (refused_as (answered (λ ys. value (bytes_read ys now.host)) xs))
        ≡ reply_of (λ ys. reply.Value (from_le_bytes w (bytes_read ys now.host))) xs
    told_so (Ok ys) = ap (λ (v : ℕ). reply.Value v) (numbers (bytes_read ys now.host))
    told_so (Err e) = refl

    go : (m : Option guest.Memory)
        → (replied (λ v. reply.Value (number v)) (loaded value m now.host addr.0 n), now)
        ≡ apply now (if_there m (λ x. Replies (loads x now.host addr.0 w)))
    go None = refl
    go (Some x) =
        ap (λ (r : Reply). (r, now))
        (told_so (taken_by x now.host.tables addr.0 n permissions.Read)
        ∙ ap (λ (k : ℕ). reply_of (λ ys. reply.Value (from_le_bytes w (bytes_read ys now.host)))
        (taken_by x now.host.tables addr.0 k permissions.Read)) size)
loaded_is_step {T} now memory addr value n result (inr (is, may)) width number (size, numbers) = inr (
  ap (λ (r : Result T Refusal). replied (λ v. reply.Value (number v)) r) is,
  subst (λ k. MayTranslate now memory addr.0 k permissions.Read) size may,
  refl,
)
