-- Reads into the front of an output, and stores of values that are too wide.
use Rattle.std.proofs.Common.{◌≡◌, ◌∙◌, ◌⊎◌, ◌<◌, ◌≤◌, ℕ, ◌==◌, if◌then◌else◌, Bool, true, false, cond, option_map, is_ok, is_some, List, ◌++◌, length, take, drop, slice_get, Option, Some, None, IsSome, IsSomeAnd, Result, Ok, Err, IfOk, refl, sym, ap, subst, inl, inr, length-take-le, take-append-drop}
use Rattle.std.proofs.Math.Nat.{lt_irrefl}
use Rattle.std.proofs.lemmas.Bool.{false≢true}
use Rattle.std.specs.Int.{to_le_bytes}
use Rattle.vm_memory_base.specs.declared.address.GuestAddress.{GuestAddress}
use Rattle.vm_memory_base.specs.Table.{Table}
use Rattle.vm_memory_base.specs.declared.iotlb.Permissions.{Permissions}
use Rattle.vm_memory_base.specs.declared.iotlb.Permissions.TheVariants as permissions
use Rattle.vm_memory_guest.specs.Access.{AccessFault, NoRegion, NoHostBytes, Refused}
use Rattle.vm_memory_guest.specs.Dirt.{bytes_read}
use Rattle.vm_memory_guest.specs.Error.{error_of}
use Rattle.vm_memory_guest.specs.Memory.{Memory, route}
use Rattle.vm_memory_guest.specs.Transfer.{ended}
use Rattle.vm_memory_guest.specs.declared.region.error.GuestMemoryError.{GuestMemoryError}
use Rattle.vm_memory_guest.specs.declared.region.error.GuestMemoryError.TheVariants as errors
use Rattle.vm_memory_guest.proofs.PieceLemmas.{split-some}
use Rattle.vm_memory_device.specs.Reach.{reached_by}
use Rattle.vm_memory_guest.specs.Walk.{NeedsPieces}
use Rattle.vm_memory.specs.Calls.{ReadsInto, buffer_after}
use Rattle.vm_memory.specs.Machine.{Step, outcome}
use Rattle.vm_memory.specs.Commands.{MayWant}
use Rattle.vm_memory.specs.Effect.{apply, if_there, leaves, Replies}
use Rattle.vm_memory.specs.Reply.{all_moved, checks, reads, reads_whole, replied, reply_of, reply_of_error, reply_of_refusal}
use Rattle.vm_memory.specs.State.{State}
use Rattle.vm_memory.specs.Typed.{fits_width, integer_of, stores, stores_bytes}
use Rattle.vm_memory.specs.declared.machine.command.Width.{Width}
use Rattle.vm_memory.specs.declared.machine.command.Command as commands
use Rattle.vm_memory.specs.declared.machine.command.Command.TheVariants as command
use Rattle.vm_memory.specs.declared.machine.command.Reply.{Reply}
use Rattle.vm_memory.specs.declared.machine.command.Reply.TheVariants as reply
use Rattle.vm_memory.specs.declared.machine.refusal.Refusal.{Refusal}
use Rattle.vm_memory.specs.declared.machine.refusal.Refusal.TheVariants as refusal
use Rattle.vm_session.specs.Answers.{answer_of, counted}
use Rattle.vm_session.specs.Session.{Does, read_into}
use Rattle.vm_session.specs.declared.call.Answer.{Answer}

-- a memory that is translated for some bytes is there, and there are bytes
translated : (m : Option Memory) (tables : List Table) (a n : ℕ) (access : Permissions)
    → IsSomeAnd m (λ x. NeedsPieces x tables a n access) → IsSome m × (0 < n)
translated None tables a n access h = absurd h
translated (Some m) tables a n access h = (refl, split-some (route m tables) a n h.1)

counted_as : (result : Result ℕ Refusal) (buf : List ℕ) → IfOk result (λ count. count ≤ length buf)
    → answer_of (replied reply.Count result) ≡ answer_of (replied (λ count. reply.Bytes (take count buf)) result)
counted_as (Ok count) buf h = ap counted (sym (length-take-le count buf h))
counted_as (Err e) buf h = refl

-- ---- the reply that an allocation failed

abbrev is_memory : Reply → Bool
is_memory reply.Memory = true
is_memory r = false

abbrev is_wanting : GuestMemoryError → Bool
is_wanting errors.Memory = true
is_wanting e = false

-- it is that of no other error
told_wanting : (e : GuestMemoryError) → is_wanting e ≡ false → is_memory (reply_of_error e) ≡ false
told_wanting errors.Memory h = h
told_wanting e h = refl

fault_told : (f : AccessFault) → is_wanting (error_of f) ≡ false
fault_told (NoRegion a) = refl
fault_told NoHostBytes = refl
fault_told (Refused iova len reason) = refl

-- a read that reached so many bytes
module _ (told : ℕ → Reply) (done : Unit {0} → Reply) (tells : (n : ℕ) → is_memory (told n) ≡ false)
    (does : is_memory (done tt) ≡ false) (n count : ℕ) where
  told_if : (b : Bool) (f : AccessFault)
      → is_memory (reply_of told (if b then Err (error_of f) else Ok count)) ≡ false
  told_if true f = told_wanting (error_of f) (fault_told f)
  told_if false f = tells count

  told_some : (o : Option AccessFault) → is_memory (reply_of told (ended count (option_map error_of o))) ≡ false
  told_some None = tells count
  told_some (Some f) = told_if (count == 0) f

  whole_if : (b : Bool) (total : ℕ)
      → is_memory (reply_of done (if b then Ok tt else Err (errors.PartialBuffer n total))) ≡ false
  whole_if true total = does
  whole_if false total = refl

  done_if : (b : Bool) (f : AccessFault)
      → is_memory (reply_of done (all_moved n (if b then Err (error_of f) else Ok count))) ≡ false
  done_if true f = told_wanting (error_of f) (fault_told f)
  done_if false f = whole_if (count == n) count

  told_whole : (o : Option AccessFault)
      → is_memory (reply_of done (all_moved n (ended count (option_map error_of o)))) ≡ false
  told_whole None = whole_if (count == n) count
  told_whole (Some f) = done_if (count == 0) f

-- no read of the model replies it
read_replies : (now : State) (a n : ℕ) (o : Option Memory)
    → is_memory (apply now (if_there o (λ m. Replies (reads m now.host a n)))).0 ≡ false
read_replies now a n None = refl
read_replies now a n (Some m) =
    let reached = reached_by m now.host.tables a n permissions.Read in
    told_some (λ count. reply.Bytes (bytes_read reached.path now.host)) (λ done. reply.Done) (λ _. refl) refl n
    (length reached.path) reached.fault

fill_replies : (now : State) (a n : ℕ) (o : Option Memory)
    → is_memory (apply now (if_there o (λ m. Replies (reads_whole m now.host a n)))).0 ≡ false
fill_replies now a n None = refl
fill_replies now a n (Some m) =
    let reached = reached_by m now.host.tables a n permissions.Read in
    told_whole (λ count. reply.Done) (λ done. reply.Bytes (bytes_read reached.path now.host)) (λ _. refl) refl n
    (length reached.path) reached.fault

-- ---- reads

-- the output has what the buffer has: what the read reached, or, if an allocation failed, what it was
module _ (now : State) (memory a n : ℕ) (out buf : List ℕ) where
  abbrev Filled : Reply → Type 0
  Filled r = ((is_memory r ≡ false) × (buf ≡ buffer_after now memory a (take n out)))
      ⊎ ((is_memory r ≡ true) × (buf ≡ take n out))

  filled : (r : Reply) → Filled r → buf ++ drop n out ≡ read_into now memory a n r out
  filled reply.Memory (inl h) = absurd (false≢true (sym h.0))
  filled reply.Memory (inr h) = ap (λ b. b ++ drop n out) h.1 ∙ take-append-drop n out
  filled r (inl h) = ap (λ b. b ++ drop n out) h.1
  filled r (inr h) = absurd (false≢true h.0)

  -- what a call of a machine that reads into the buffer says of it
  read_fills : {T : Type 0} (c : commands.Command) (told : T → Reply) (result : Result T Refusal)
      → is_memory (outcome now c).0 ≡ false → ReadsInto now memory a c told (take n out) result buf
      → Filled (replied told result)
  read_fills c told result never (inl h) = inl (ap (λ (p : Reply × State). is_memory p.0) h.0 ∙ never, h.1)
  read_fills c told result never (inr h) = inr (ap (λ x. is_memory (replied told x)) h.0, h.2)

  -- its command is a step
  read_steps : {T : Type 0} (c : commands.Command) (told : T → Reply) (result : Result T Refusal)
      → (IsSome (slice_get now.memories memory) × (0 < length (take n out)) → MayWant now c)
      → ReadsInto now memory a c told (take n out) result buf → Step now c (replied told result) now
  read_steps c told result wants (inl h) = inl h.0
  read_steps c told result wants (inr h) =
      inr (
        ap (replied told) h.0,
        wants (translated (slice_get now.memories memory) now.host.tables a (length (take n out)) permissions.Read h.1),
        refl,
      )

pub read_does : (now : State) (memory : ℕ) (addr : GuestAddress) (n : ℕ) (out buf : List ℕ)
    (result : Result ℕ Refusal) (a : Answer) → n ≤ length out → length buf ≡ length (take n out)
    → ReadsInto now memory addr.0 (command.Read memory addr (length (take n out)))
    (λ count. reply.Bytes (take count buf)) (take n out) result buf
    → IfOk result (λ count. count ≤ length (take n out)) → a ≡ answer_of (replied reply.Count result)
    → Does now (Some (command.Read memory addr n)) out a (buf ++ drop n out) now
read_does now memory addr n out buf result a within same reads most told =
    let size : length (take n out) ≡ n = length-take-le n out within in
    let asked : ReadsInto now memory addr.0 (command.Read memory addr n) (λ count. reply.Bytes (take count buf))
    (take n out) result buf =
    subst (λ k. ReadsInto now memory addr.0 (command.Read memory addr k) (λ count. reply.Bytes (take count buf))
    (take n out) result buf) size reads in
    inl (
      replied (λ count. reply.Bytes (take count buf)) result,
      read_steps now memory addr.0 n out buf (command.Read memory addr n) (λ count. reply.Bytes (take count buf)) result
          (λ w. (w.0, subst (λ k. 0 < k) size w.1)) asked,
      told ∙ counted_as result buf (subst (λ k. IfOk result (λ count. count ≤ k)) (sym same) most),
      filled now memory addr.0 n out buf _
          (read_fills now memory addr.0 n out buf (command.Read memory addr n) (λ count. reply.Bytes (take count buf))
          result (read_replies now addr.0 n (slice_get now.memories memory)) asked),
      inl within,
    )

pub fill_does : (now : State) (memory : ℕ) (addr : GuestAddress) (n : ℕ) (out buf : List ℕ)
    (result : Result (Unit {0}) Refusal) (a : Answer) → n ≤ length out
    → ReadsInto now memory addr.0 (command.ReadSlice memory addr (length (take n out)))
    (λ (done : Unit {0}). reply.Bytes buf) (take n out) result buf
    → a ≡ answer_of (replied (λ (done : Unit {0}). reply.Bytes buf) result)
    → Does now (Some (command.ReadSlice memory addr n)) out a (buf ++ drop n out) now
fill_does now memory addr n out buf result a within reads told =
    let size : length (take n out) ≡ n = length-take-le n out within in
    let asked : ReadsInto now memory addr.0 (command.ReadSlice memory addr n) (λ (done : Unit {0}). reply.Bytes buf)
    (take n out) result buf =
    subst (λ k. ReadsInto now memory addr.0 (command.ReadSlice memory addr k) (λ (done : Unit {0}). reply.Bytes buf)
    (take n out) result buf) size reads in
    inl (
      replied (λ (done : Unit {0}). reply.Bytes buf) result,
      read_steps now memory addr.0 n out buf (command.ReadSlice memory addr n) (λ (done : Unit {0}). reply.Bytes buf)
          result (λ w. (w.0, subst (λ k. 0 < k) size w.1)) asked,
      told,
      filled now memory addr.0 n out buf _
          (read_fills now memory addr.0 n out buf (command.ReadSlice memory addr n)
          (λ (done : Unit {0}). reply.Bytes buf) result (fill_replies now addr.0 n (slice_get now.memories memory))
          asked),
      inl within,
    )

-- the answer of a read of all bytes that is done
pub fill_told : (buf out : List ℕ) (n : ℕ) → n ≤ length out → length buf ≡ length (take n out)
    → counted n ≡ answer_of (reply.Bytes buf)
fill_told buf out n within same = ap counted (sym (same ∙ length-take-le n out within))

-- a check of no bytes is answered where the memory is there
asked : (now : State) (addr : GuestAddress) (access : Permissions) (o : Option Memory) (result : Result Bool Refusal)
    → ((replied reply.Truth result, now)
    ≡ apply now (if_there o (λ m. Replies (checks m now.host addr.0 0 access))))
    ⊎ ((replied reply.Truth result ≡ reply.Memory)
    × IsSomeAnd o (λ m. NeedsPieces m now.host.tables addr.0 0 access) × (now ≡ now))
    → is_ok result ≡ is_some o
asked now addr access None (Ok b) (inl e) = absurd (never (ap (λ (p : Reply × State). p.0) e))
  where
    never : reply.Truth b ≡ reply.NoSuch → ⊥
    never x = cc
asked now addr access None (Ok b) (inr h) = absurd (h.1)
asked now addr access None (Err r) h = refl
asked now addr access (Some m) (Ok b) h = refl
asked now addr access (Some m) (Err r) (inl e) = absurd (never r (ap (λ (p : Reply × State). p.0) e))
  where
    never : (r : Refusal) {b : Bool} → reply_of_refusal r ≡ reply.Truth b → ⊥
    never refusal.NoSuch x = cc
    never refusal.BadRange x = cc
    never refusal.Memory x = cc
    never (refusal.Fault f) x = cc
asked now addr access (Some m) (Err r) (inr h) = absurd (lt_irrefl 0 (split-some (route m now.host.tables) addr.0 0 h.1.1))

pub check_asks : (now : State) (memory : ℕ) (addr : GuestAddress) (access : Permissions) (result : Result Bool Refusal)
    → Step now (command.CheckRange memory addr 0 access) (replied reply.Truth result) now
    → is_ok result ≡ is_some (slice_get now.memories memory)
check_asks now memory addr access result h = asked now addr access (slice_get now.memories memory) result h

-- what is replied to a store of a value that is too wide
too_wide : (now : State) (width : Width) (addr : GuestAddress) (value : ℕ) (o : Option Memory)
    → fits_width (integer_of width) value ≡ false
    → apply now (if_there o (λ m. leaves (stores m now.host addr.0 (integer_of width) value)))
    ≡ (cond (is_some o) reply.BadRange reply.NoSuch, now)
too_wide now width addr value None wide = refl
too_wide now width addr value (Some m) wide =
    ap (λ b. apply now (leaves (cond b (stores_bytes m now.host addr.0 (to_le_bytes (integer_of width) value))
    (reply.BadRange, now.host)))) wide

pub wide_stores : (now : State) (memory : ℕ) (width : Width) (addr : GuestAddress) (value : ℕ) (there : Bool)
    → fits_width (integer_of width) value ≡ false → there ≡ is_some (slice_get now.memories memory)
    → Step now (command.Store memory width addr value) (cond there reply.BadRange reply.NoSuch) now
wide_stores now memory width addr value there wide is =
    inl (ap (λ b. (cond b reply.BadRange reply.NoSuch, now)) is
    ∙ sym (too_wide now width addr value (slice_get now.memories memory) wide))
