-- Answers of accesses.
use Rattle.std.proofs.Common.{◌≡◌, ◌⊎◌, ◌≤◌, ◌∙◌, ◌++◌, sym, ap, inl, inr, arith, ℕ, List, length, take, drop, All, Some, option_map, Result, Ok, Err}
use Rattle.std.proofs.lemmas.List.{length-map, take_all}
use Rattle.vm_memory_base.specs.Pages.{PageSet}
use Rattle.vm_memory_base.specs.declared.iotlb.Permissions.TheVariants as permissions
use Rattle.vm_memory_guest.specs.Access.{Access, Reached, windows}
use Rattle.vm_memory_guest.specs.Answer.{Outcome, filled_buffer}
use Rattle.vm_memory_guest.specs.Dirt.{bytes_read}
use Rattle.vm_memory_guest.specs.Error.{error_of}
use Rattle.vm_memory_guest.specs.Host.{Cell, Host, bytes_at}
use Rattle.vm_memory_guest.specs.Memory.{Memory, route}
use Rattle.vm_memory_guest.specs.Walk.{NeedsPieces}
use Rattle.vm_memory_guest.specs.Region.{IsRegion}
use Rattle.vm_memory_guest.specs.Window.{cells}
use Rattle.vm_memory_guest.specs.declared.region.error.GuestMemoryError.{GuestMemoryError}
use Rattle.vm_memory_guest.specs.declared.region.error.GuestMemoryError.TheVariants as errors
use Rattle.vm_memory_guest.proofs.AccessLaws.{cells-access}
use Rattle.vm_memory_device.specs.Reach.{reached_by}
use Rattle.vm_memory_device.proofs.ReachLemmas.{ended_is, whole_is}
use Rattle.vm_memory.specs.Calls.{filled_from}
use Rattle.vm_memory_device.specs.Reach.{reached_by}
use Rattle.vm_memory.specs.Reply.{access_result, all_moved, reads, reads_whole, refusal_of, refused_as, replied, reply_of}
use Rattle.vm_memory.specs.declared.machine.command.Reply.{Reply}
use Rattle.vm_memory.specs.declared.machine.command.Reply.TheVariants.{Bytes}
use Rattle.vm_memory.specs.declared.machine.refusal.Refusal.TheVariants as refusal

-- a read of a buffer in a memory
module _ (m : Memory) (host : Host PageSet) (a : ℕ) (buffer : List ℕ) (each : All IsRegion m.regions) where
  abbrev reached : Access
  reached = reached_by m host.tables a (length buffer) permissions.Read

  abbrev after : List ℕ
  after = filled_buffer host.blocks (cells (windows reached.path)) buffer

  -- the bytes of its path come to the front
  filled : after ≡ filled_from (Some m) host a buffer
  filled =
      let xs = reached.path in
      ap (λ (cs : List Cell). bytes_at host.blocks cs ++ drop (length cs) buffer)
      (cells-access m.regions each a (length buffer) (route m host.tables) permissions.Read)
      ∙ ap (λ (k : ℕ). bytes_read xs host ++ drop k buffer) (length-map xs (λ (x : Reached). x.cell))

  -- what is told of its answer
  pub read_is : take (length reached.path) after ≡ bytes_read reached.path host → (new : List ℕ)
      → (r : Result ℕ GuestMemoryError)
      → Outcome errors.Memory (NeedsPieces m host.tables a (length buffer) permissions.Read)
      (access_result reached) (new ≡ buffer) (new ≡ after) r
      → ((replied (λ (count : ℕ). Bytes (take count new)) (refused_as r) ≡ reads m host a (length buffer))
      × (new ≡ filled_from (Some m) host a buffer))
      ⊎ ((refused_as r ≡ Err refusal.Memory) × NeedsPieces m host.tables a (length buffer) permissions.Read
      × (new ≡ buffer))
  read_is front new (Ok count) (is, effect) =
      let told : Result ℕ GuestMemoryError → Reply = reply_of (λ (n : ℕ). Bytes (bytes_read reached.path host)) in
      let all = ended_is (length reached.path) (option_map error_of reached.fault) count is in
      inl (
        ap (λ (bytes : List ℕ). Bytes bytes)
            (ap (λ (k : ℕ). take k new) all ∙ ap (λ (bytes : List ℕ). take (length reached.path) bytes) effect ∙ front)
            ∙ ap told is,
        effect ∙ filled,
      )
  read_is front new (Err e) (inl (is, wants, same)) =
      inr (ap (λ (d : GuestMemoryError). Err (refusal_of d)) is, wants, same)
  read_is front new (Err e) (inr (is, effect)) =
      let told : Result ℕ GuestMemoryError → Reply = reply_of (λ (n : ℕ). Bytes (bytes_read reached.path host)) in
      inl (ap told is, effect ∙ filled)

  pub fill_is : take (length reached.path) after ≡ bytes_read reached.path host → (new : List ℕ)
      → length new ≡ length buffer
      → (r : Result (Unit {0}) GuestMemoryError)
      → Outcome errors.Memory (NeedsPieces m host.tables a (length buffer) permissions.Read)
      (all_moved (length buffer) (access_result reached)) (new ≡ buffer) (new ≡ after) r
      → ((replied (λ (u : Unit {0}). Bytes new) (refused_as r) ≡ reads_whole m host a (length buffer))
      × (new ≡ filled_from (Some m) host a buffer))
      ⊎ ((refused_as r ≡ Err refusal.Memory) × NeedsPieces m host.tables a (length buffer) permissions.Read
      × (new ≡ buffer))
  fill_is front new len (Ok u) (is, effect) =
      let told : Result (Unit {0}) GuestMemoryError → Reply =
      reply_of (λ (v : Unit {0}). Bytes (bytes_read reached.path host)) in
      let partial : ℕ → ℕ → GuestMemoryError = λ expected completed. errors.PartialBuffer expected completed in
      let all = whole_is partial (length reached.path) (option_map error_of reached.fault) (length buffer) u is in
      let short : length new ≤ length reached.path = omega (arith, len, all) in
      inl (
        ap (λ (bytes : List ℕ). Bytes bytes)
            (sym (take_all (length reached.path) new short)
            ∙ ap (λ (bytes : List ℕ). take (length reached.path) bytes) effect ∙ front)
            ∙ ap told is,
        effect ∙ filled,
      )
  fill_is front new len (Err e) (inl (is, wants, same)) =
      inr (ap (λ (d : GuestMemoryError). Err (refusal_of d)) is, wants, same)
  fill_is front new len (Err e) (inr (is, effect)) =
      let told : Result (Unit {0}) GuestMemoryError → Reply =
      reply_of (λ (v : Unit {0}). Bytes (bytes_read reached.path host)) in
      inl (ap told is, effect ∙ filled)
