-- What commands do, in few kinds: what each replies, and what it changes.
use Rattle.std.specs.Prelude.{ℕ, List, [], ◌∷◌, ◌++◌, length, slice_get, slice_set, Option, Some, None}
use Rattle.vm_memory_base.specs.Pages.{PageSet}
use Rattle.vm_memory_guest.specs.Host.{Host}
use Rattle.vm_memory_guest.specs.Memory as guest
use Rattle.vm_memory_guest.specs.Region.{Region}
use Rattle.vm_memory_guest.specs.declared.region.error.GuestRegionCollectionError.{GuestRegionCollectionError}
use Rattle.vm_memory.specs.Reply.{reply_of_layout_error}
use Rattle.vm_memory.specs.State.{State}
use Rattle.vm_memory.specs.declared.machine.command.Fault.TheVariants.{NoMemoryRegion}
use Rattle.vm_memory.specs.declared.machine.command.Reply.{Reply}
use Rattle.vm_memory.specs.declared.machine.command.Reply.TheVariants.{Layout, MemoryMade, Done, Fault, NoSuch}

-- a command replies, and changes nothing. Or it adds a layout or a memory, changes a memory, or leaves another host
pub data Effect : Type 0 where
  Replies : Reply → Effect
  AddsLayout : List Region → Effect
  AddsMemory : guest.Memory → Effect
  SetsMemory : ℕ → guest.Memory → Effect
  Leaves : Reply → Host PageSet → Effect

-- the reply, and the state after it: all that is not named stays
abbrev pub apply : State → Effect → Reply × State
apply old (Replies r) = (r, old)
apply old (AddsLayout rs) = (Layout (length old.layouts), record old { layouts = old.layouts ++ rs ∷ [] })
apply old (AddsMemory m) = (MemoryMade (length old.memories), record old { memories = old.memories ++ m ∷ [] })
apply old (SetsMemory number m) = (Done, record old { memories = slice_set old.memories number m })
apply old (Leaves r host) = (r, record old { host = host })

-- a number that names nothing is reported
abbrev pub if_there : {X : Type 0} → Option X → (X → Effect) → Effect
if_there None does = Replies NoSuch
if_there (Some x) does = does x

-- these regions are a layout, unless there is an error in them
abbrev pub laid_out : List Region → Option GuestRegionCollectionError → Effect
laid_out rs None = AddsLayout rs
laid_out rs (Some e) = Replies (reply_of_layout_error e)

-- the regions that are left when one is taken out are a layout, unless none is
abbrev pub without : Option (List Region × Region) → Effect
without None = Replies (Fault NoMemoryRegion)
without (Some p) = AddsLayout p.0

-- the reply and the host that a call leaves
abbrev pub leaves : Reply × Host PageSet → Effect
leaves left = Leaves left.0 left.1

-- an access of a memory replies, or leaves another host
abbrev pub asks : State → ℕ → (guest.Memory → Host PageSet → Reply) → Effect
asks old memory answer = if_there (slice_get old.memories memory) (λ m. Replies (answer m old.host))

abbrev pub changes_by : State → ℕ → (guest.Memory → Host PageSet → Reply × Host PageSet) → Effect
changes_by old memory answer = if_there (slice_get old.memories memory) (λ m. leaves (answer m old.host))
