-- Transfers of a machine: what they reply, and where they leave the host.
use Rattle.std.proofs.Common.{◌≡◌, ◌⊎◌, ℕ, ◌+◌, Bool, true, false, List, [], ◌∷◌, ◌++◌, map, take, Option, Some, Result, Ok, Err, inl, inr, All, refl, ap, ap₂, subst, ◌∙◌, sym, zero-add}
use Rattle.std.proofs.lemmas.Bool.{true≢false}
use Rattle.std.proofs.lemmas.List.Elements.{All-nil, All-cons}
use Rattle.vm_memory_base.specs.Pages.{PageSet}
use Rattle.vm_memory_base.specs.Script.{next_of}
use Rattle.vm_memory_base.specs.Transfer.{Next}
use Rattle.vm_memory_base.specs.declared.io.VolatileMemoryError.{VolatileMemoryError}
use Rattle.vm_memory_base.specs.declared.io.VolatileMemoryError.TheVariants.{OutOfBounds, Overflow, TooBig, Misaligned, IOError, PartialBuffer}
use Rattle.vm_memory_base.specs.declared.io.VolatileMemoryError.TheVariants as window_errors
use Rattle.vm_memory_base.specs.declared.io.scripted.SinkStep.{SinkStep}
use Rattle.vm_memory_base.specs.declared.io.scripted.SourceStep.{SourceStep}
use Rattle.vm_memory_base.specs.declared.io.scripted.SourceStep.TheVariants.{Give, Interrupted, Fail}
use Rattle.vm_memory_base.specs.declared.iotlb.Permissions.TheVariants as permissions
use Rattle.vm_memory_guest.specs.Access.{Reached, windows}
use Rattle.vm_memory_guest.specs.Dealt.{received}
use Rattle.vm_memory_guest.specs.Dirt.{bytes_read}
use Rattle.vm_memory_guest.specs.Error.{of_window}
use Rattle.vm_memory_guest.specs.Host.{Cell, Host, bytes_at}
use Rattle.vm_memory_guest.specs.Lent.{fails_as}
use Rattle.vm_memory_guest.specs.Memory.{Memory, route}
use Rattle.vm_memory_guest.specs.Walk.{NeedsPieces}
use Rattle.vm_memory_guest.specs.Region.{IsRegion}
use Rattle.vm_memory_guest.specs.Window.{cells}
use Rattle.vm_memory_guest.specs.declared.region.error.GuestMemoryError.{GuestMemoryError}
use Rattle.vm_memory_guest.specs.declared.region.error.GuestMemoryError.TheVariants as errors
use Rattle.vm_memory_guest.proofs.AccessLaws.{cells-access}
use Rattle.vm_memory.specs.Calls.{SentBy}
use Rattle.vm_memory_device.specs.Reach.{reached_by}
use Rattle.vm_memory.specs.Reply.{all_moved, as_done, moved_as, refused_as, replied, reply_of}
use Rattle.vm_memory.specs.Transfers.{beside_taken, dealt_to, given_by, receives, sends}
use Rattle.vm_memory.specs.declared.machine.command.Reply.{Reply}
use Rattle.vm_memory.specs.declared.machine.command.Reply.TheVariants.{Count, Done}
use Rattle.vm_memory.specs.declared.machine.refusal.Refusal.TheVariants as refusal

-- whether a source or a sink failed
abbrev pub is_io : VolatileMemoryError → Bool
is_io (IOError kind) = true
is_io e = false

-- a script fails in no other way
pub scripts_fail_so : (source : List SourceStep) → All (λ (n : Next). fails_as is_io n ≡ true) (map next_of source)
scripts_fail_so [] = All-nil (λ (n : Next). fails_as is_io n ≡ true)
scripts_fail_so (Give bytes ∷ ss) =
    All-cons (λ (n : Next). fails_as is_io n ≡ true) (next_of (Give bytes)) (map next_of ss) refl (scripts_fail_so ss)
scripts_fail_so (Interrupted bytes ∷ ss) =
    All-cons (λ (n : Next). fails_as is_io n ≡ true) (next_of (Interrupted bytes)) (map next_of ss) refl
    (scripts_fail_so ss)
scripts_fail_so (Fail bytes ∷ ss) =
    All-cons (λ (n : Next). fails_as is_io n ≡ true) (next_of (Fail bytes)) (map next_of ss) refl (scripts_fail_so ss)

-- what is taken from the laws of transfers
abbrev pub RefusedLaw : Type 0
RefusedLaw = (test : VolatileMemoryError → Bool) (fault : Option GuestMemoryError) (until_full : Bool)
    (xs : List Reached)
    (next : List Next) (host : Host PageSet) (e : GuestMemoryError)
    → All (λ (n : Next). fails_as test n ≡ true) next
    → (received of_window fault until_full (windows xs) 0 next host).answer ≡ Err e
    → ((v : VolatileMemoryError) × (test v ≡ true) × (e ≡ of_window v))
    ⊎ ((fault ≡ Some e) × ((received of_window fault until_full (windows xs) 0 next host).host ≡ host))

-- a failure of a source or a sink keeps its kind
pub io_of_window : (v : VolatileMemoryError) (e : GuestMemoryError) (P : GuestMemoryError → Type 0) → is_io v ≡ true
    → e ≡ of_window v → P e → ((kind : _) → P (errors.IOError kind) → ⊥) → ⊥
io_of_window (IOError kind) e P t same p none = none kind (subst P same p)
io_of_window (OutOfBounds addr) e P t same p none = absurd (true≢false (sym t))
io_of_window (Overflow base offset) e P t same p none = absurd (true≢false (sym t))
io_of_window (TooBig nelements size) e P t same p none = absurd (true≢false (sym t))
io_of_window (Misaligned addr alignment) e P t same p none = absurd (true≢false (sym t))
io_of_window (PartialBuffer expected completed) e P t same p none = absurd (true≢false (sym t))
io_of_window window_errors.Memory e P t same p none = absurd (true≢false (sym t))

-- a sink that took the first bytes of the windows of an access took those of its path
taken_is : (m : Memory) (host : Host PageSet) (a n : ℕ) → All IsRegion m.regions
    → (given count : ℕ) (taken : List ℕ) → given ≡ 0 + count
    → let xs = (reached_by m host.tables a n permissions.Read).path in
    Some taken ≡ Some ([] ++ take count (bytes_at host.blocks (cells (windows xs))))
    → taken ≡ take given (bytes_read xs host)
taken_is m host a n each given count taken counts so =
    let xs = (reached_by m host.tables a n permissions.Read).path in
    let is : taken ≡ take count (bytes_at host.blocks (cells (windows xs))) = cc in
    is
    ∙ ap (λ (cs : List Cell). take count (bytes_at host.blocks cs))
    (cells-access m.regions each a n (route m host.tables) permissions.Read)
    ∙ ap (λ (k : ℕ). take k (bytes_read xs host)) (sym (counts ∙ zero-add count))

-- what is told of a count that was moved, and of one that is all
pub counted_so : (n : ℕ) (r : Result ℕ GuestMemoryError) → replied (λ k. Count k) (refused_as r) ≡ moved_as false n r
counted_so n (Ok k) = refl
counted_so n (Err e) = refl

done_so : (r : Result (Unit {0}) GuestMemoryError)
    → replied as_done (refused_as r) ≡ reply_of (λ (done : Unit {0}). Done) r
done_so (Ok u) = refl
done_so (Err e) = refl

pub whole_so : (n : ℕ) (r : Result ℕ GuestMemoryError)
    → replied as_done (refused_as (all_moved n r)) ≡ moved_as true n r
whole_so n r = done_so (all_moved n r)

-- a transfer whose answer is told so of its count
module _ (whole : Bool) (m : Memory) (host : Host PageSet) (a n : ℕ) {T : Type 0}
    (told : Result ℕ GuestMemoryError → Result T GuestMemoryError) (reply : T → Reply)
    (so : (r : Result ℕ GuestMemoryError) → replied reply (refused_as (told r)) ≡ moved_as whole n r)
    (r : Result T GuestMemoryError) where
  wanted_so : r ≡ Err errors.Memory → refused_as r ≡ Err refusal.Memory
  wanted_so is = ap (λ (x : Result T GuestMemoryError). refused_as x) is

  replied_so : (total : Result ℕ GuestMemoryError) → r ≡ told total
      → replied reply (refused_as r) ≡ moved_as whole n total
  replied_so total is = ap (λ (x : Result T GuestMemoryError). replied reply (refused_as x)) is ∙ so total

  -- from a source that does what a script says
  pub received_is : (steps : List SourceStep) (after : Host PageSet)
      → let dealt = dealt_to whole m host a n steps in
      ((r ≡ Err errors.Memory) × NeedsPieces m host.tables a n permissions.Write × (after ≡ host))
      ⊎ ((total : Result ℕ GuestMemoryError) × (r ≡ told total) × (total ≡ dealt.answer) × (after ≡ dealt.host))
      → ((replied reply (refused_as r), after) ≡ receives whole m host a n steps)
      ⊎ ((refused_as r ≡ Err refusal.Memory) × NeedsPieces m host.tables a n permissions.Write × (after ≡ host))
  received_is steps after (inl (is, wants, same)) = inr (wanted_so is, wants, same)
  received_is steps after (inr (total, is, dealt, left)) =
      inl (ap₂ (λ (x : Reply) (h : Host PageSet). (x, h))
      (replied_so total is ∙ ap (λ (t : Result ℕ GuestMemoryError). moved_as whole n t) dealt) left)

  -- to a sink that does what a script says, and keeps what it takes
  pub sent_is : All IsRegion m.regions → (steps : List SinkStep) (taken : Option (List ℕ))
      → let reached = reached_by m host.tables a n permissions.Read in let given = given_by reached n steps in
      ((r ≡ Err errors.Memory) × NeedsPieces m host.tables a n permissions.Read × (taken ≡ Some []))
      ⊎ ((total : Result ℕ GuestMemoryError) × (r ≡ told total) × (total ≡ given.answer)
      × ((count : ℕ) × (given.taken ≡ 0 + count)
      × (taken ≡ Some ([] ++ take count (bytes_at host.blocks (cells (windows reached.path)))))))
      → SentBy (sends whole m host a n steps) (NeedsPieces m host.tables a n permissions.Read) taken
      (replied reply (refused_as r))
  sent_is each steps taken (inl (is, wants, none)) =
      ([], none, inr (ap (λ (x : Result T GuestMemoryError). replied reply (refused_as x)) is, wants))
  sent_is each steps taken (inr (total, is, answer, (count, counts, took))) =
      let reached = reached_by m host.tables a n permissions.Read in
      let given = given_by reached n steps in
      let bytes = [] ++ take count (bytes_at host.blocks (cells (windows reached.path))) in (
        bytes,
        took,
        inl (ap₂ (λ (xs : List ℕ) (x : Reply). beside_taken xs x)
            (taken_is m host a n each given.taken count bytes counts refl)
            (replied_so total is ∙ ap (λ (t : Result ℕ GuestMemoryError). moved_as whole n t) answer)),
      )
