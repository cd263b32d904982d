-- Commands that make memories, as steps.
use Rattle.std.proofs.Common.{◌≡◌, ◌⊎◌, ◌++◌, ◌∷◌, [], ℕ, Bool, ◌<◌, List, length, map, Result, Ok, Err, Some, refl, sym, ap, ◌∙◌, inl, inr, arith, slice_get, slice_set}
use Rattle.std.proofs.lemmas.List.{length-map, map-append, map-set}
use Rattle.std.proofs.lemmas.Option.{slice_get-map, slice_get_cases}
use Rattle.vm_memory_base.specs.Pages.{PageSet}
use Rattle.vm_memory_guest.specs.Memory as guest
use Rattle.vm_memory_guest.specs.Region.{Region}
use Rattle.vm_memory_device.specs.Iommu.{Behind}
use Rattle.vm_memory.specs.Commands.{MayWant}
use Rattle.vm_memory.specs.Machine.{Step, outcome}
use Rattle.vm_memory.specs.Effect.{AddsMemory, apply}
use Rattle.vm_memory.proofs.BitmapLemmas.{set-same}
use Rattle.vm_memory_device.specs.Memories.{memory_meant}
use Rattle.vm_memory.specs.Memories.{turned_memory}
use Rattle.vm_memory.specs.Parts.{Parts, state_of}
use Rattle.vm_memory.specs.Reply.{replied}
use Rattle.vm_memory_device.specs.Iommu.{behind}
use Rattle.vm_memory_device.specs.Memories.{plain}
use Rattle.vm_memory.specs.State.{State}
use Rattle.vm_memory.specs.declared.machine.command.Command.{Command}
use Rattle.vm_memory.specs.declared.machine.command.Command.TheVariants as command
use Rattle.vm_memory.specs.declared.machine.command.Reply.{Reply}
use Rattle.vm_memory.specs.declared.machine.command.Reply.TheVariants as reply
use Rattle.vm_memory_device.specs.declared.machine_memory.MachineMemory.{MachineMemory}
use Rattle.vm_memory_device.specs.declared.machine_memory.MachineMemory.TheVariants.{Plain, Translated}
use Rattle.vm_memory.specs.declared.machine.refusal.Refusal.{Refusal}
use Rattle.vm_memory.specs.declared.machine.refusal.Refusal.TheVariants as refusal

module _ {R I B : Type 0} (region : R → Region) (number_of : I → ℕ) (pages : B → PageSet) (m : Parts R I B) where
  abbrev before : State
  before = state_of region number_of pages m

  abbrev with_memory : MachineMemory R I → Parts R I B
  with_memory x = record m { memories = m.memories ++ x ∷ [] }

  after-is : (x : MachineMemory R I)
      → (reply.MemoryMade (length m.memories), state_of region number_of pages (with_memory x))
      ≡ apply before (AddsMemory (memory_meant region number_of x))
  after-is x =
      ap (λ (n : ℕ). (reply.MemoryMade n, state_of region number_of pages (with_memory x)))
      (sym (length-map m.memories (memory_meant region number_of)))
      ∙ ap (λ (ms : List guest.Memory). (reply.MemoryMade (length before.memories), record before { memories = ms }))
      (map-append (memory_meant region number_of) m.memories (x ∷ []))

  -- a memory was added, or there was no memory for it
  abbrev pub Added : MachineMemory R I → Result ℕ Refusal → Parts R I B → Type 0
  Added x r new = ((r ≡ Ok (length m.memories)) × (new ≡ with_memory x)) ⊎ ((r ≡ Err refusal.Memory) × (new ≡ m))

  abbrev made_as : Result ℕ Refusal → Reply
  made_as r = replied (λ number. reply.MemoryMade number) r

  step-added : (cmd : Command) (x : MachineMemory R I) (r : Result ℕ Refusal) (new : Parts R I B)
      → outcome before cmd ≡ apply before (AddsMemory (memory_meant region number_of x)) → MayWant before cmd
      → Added x r new → Step before cmd (made_as r) (state_of region number_of pages new)
  step-added cmd x r new is want added = elim added [
    | inl p ↦
        inl (ap (λ (q : Result ℕ Refusal). (made_as q, state_of region number_of pages new)) p.0
        ∙ ap (λ (n : Parts R I B). (reply.MemoryMade (length m.memories), state_of region number_of pages n)) p.1
        ∙ after-is x ∙ sym is)
    | inr q ↦ inr (ap (λ (x : Result ℕ Refusal). made_as x) q.0, want, ap (state_of region number_of pages) q.1)
  ]

  module _ (place : ℕ) (rs : List R) (there : slice_get m.layouts place ≡ Some rs) where
    layout-there : slice_get before.layouts place ≡ Some (map region rs)
    layout-there = rw (slice_get-map (map region) m.layouts place, there) refl

    pub plain-wants : MayWant before (command.Plain place)
    plain-wants = rw layout-there refl

    pub plain-step : (r : Result ℕ Refusal) (new : Parts R I B) → Added (Plain rs) r new
        → Step before (command.Plain place) (made_as r) (state_of region number_of pages new)
    plain-step r new added = step-added (command.Plain place) (Plain rs) r new (rw layout-there refl) plain-wants added

    module _ (translator space : ℕ) (on : Bool) (i : I)
        (translator-there : slice_get m.translators translator ≡ Some i) (below : space < length m.host.spaces) where
      abbrev made : Command
      made = command.NewMemory place translator space on

      table-there : slice_get before.translators translator ≡ Some (number_of i)
      table-there = rw (slice_get-map number_of m.translators translator, translator-there) refl

      pages-there : (s : PageSet) × (slice_get before.host.spaces space ≡ Some s)
      pages-there = elim (slice_get_cases before.host.spaces space).1 [
        | inl found ↦ (found.0, found.2)
        | inr past ↦ absurd (omega (arith, past.0, length-map m.host.spaces pages, below))
      ]

      pub made-wants : MayWant before made
      made-wants = rw (layout-there, table-there, pages-there.1) (refl, refl, refl)

      pub made-step : (r : Result ℕ Refusal) (new : Parts R I B)
          → Added (Translated (record { backend = rs; iommu = i; on = on; space = space })) r new
          → Step before made (made_as r) (state_of region number_of pages new)
      made-step r new added =
          step-added made (Translated (record { backend = rs; iommu = i; on = on; space = space })) r new
          (rw (layout-there, table-there, pages-there.1) refl) made-wants added

    module _ (number : ℕ) (x : Behind (List R) I)
        (memory-there : slice_get m.memories number ≡ Some (Translated x)) where
      abbrev replaced : Command
      replaced = command.ReplaceBackend number place

      it-there : slice_get before.memories number ≡ Some (memory_meant region number_of (Translated x))
      it-there = rw (slice_get-map (memory_meant region number_of) m.memories number, memory-there) refl

      pub replaced-wants : MayWant before replaced
      replaced-wants = rw (it-there, layout-there) (refl, refl)

      pub replaced-step : (r : Result ℕ Refusal) (new : Parts R I B)
          → Added (Translated (record x { backend = rs })) r new
          → Step before replaced (made_as r) (state_of region number_of pages new)
      replaced-step r new added =
          step-added replaced (Translated (record x { backend = rs })) r new (rw (it-there, layout-there) refl)
          replaced-wants added

  -- the memory of a number is turned
  pub enable-step : (memory : ℕ) (on : Bool) (x : MachineMemory R I) → slice_get m.memories memory ≡ Some x
      → (r : Reply) (y : MachineMemory R I) → (r, y) ≡ turned_memory x on
      → Step before (command.Enable memory on) r
      (state_of region number_of pages (record m { memories = slice_set m.memories memory y }))
  enable-step memory on (Plain rs) there r y is =
      let here : slice_get before.memories memory ≡ Some (plain (map region rs)) =
      rw (slice_get-map (memory_meant region number_of) m.memories memory, there) refl in
      let same : slice_set m.memories memory y ≡ m.memories =
      rw (ap (λ (p : Reply × MachineMemory R I). p.1) is) (set-same m.memories memory (Plain rs) there) in
      inl (rw (here, same, ap (λ (p : Reply × MachineMemory R I). p.0) is) refl)
  enable-step memory on (Translated b) there r y is =
      let here : slice_get before.memories memory
      ≡ Some (behind (map region b.backend) (number_of b.iommu) b.space b.on) =
      rw (slice_get-map (memory_meant region number_of) m.memories memory, there) refl in
      let turned : map (memory_meant region number_of) (slice_set m.memories memory y)
      ≡ slice_set before.memories memory (behind (map region b.backend) (number_of b.iommu) b.space on) =
      map-set (memory_meant region number_of) m.memories memory y
      ∙ ap (λ (p : Reply × MachineMemory R I). slice_set before.memories memory
      (memory_meant region number_of p.1)) is in
      inl (rw (here, turned, ap (λ (p : Reply × MachineMemory R I). p.0) is) refl)
