-- What the commands of a run made of I/O tables, and how an access goes through one.
use Rattle.std.specs.Prelude.{◌≡◌, ℕ, ◌+◌, ◌<◌, true, List, [], ◌∷◌, ◌++◌, Some}
use Rattle.std.specs.Prelude.{length, slice_get, slice_index_or}
use Rattle.vm_memory_base.specs.Table.{Table, TableEvent, says, says_after_all, events_of}
use Rattle.vm_memory_base.specs.declared.iotlb.Permissions.{Permissions}
use Rattle.vm_memory_guest.specs.Access.{Reached}
use Rattle.vm_memory_guest.specs.Memory.{Memory, Translation, behind_of}
use Rattle.vm_memory_guest.specs.Region.{Region, has_address}
use Rattle.vm_memory.specs.Commands.{table_call}
use Rattle.vm_memory.specs.Lawful.{IsLawful}
use Rattle.vm_memory.specs.Machine.{Step, Run}
use Rattle.vm_memory_device.specs.Reach.{GoesThrough, reached_by}
use Rattle.vm_memory.specs.State.{State}
use Rattle.vm_memory.specs.declared.machine.command.Command.{Command}
use Rattle.vm_memory.specs.declared.machine.command.Reply.{Reply}

-- a command of a run, between those before it and those after it: its reply, between theirs, and the states that
-- it was run in and left
pub record AnsweredIn (old : State) (before : List Command) (c : Command) (after : List Command) (rs : List Reply)
    (new : State) : Type 0 where
  pub earlier : List Reply
  pub reply : Reply
  pub later : List Reply
  pub replies : rs ≡ earlier ++ reply ∷ later
  pub mid : State
  pub next : State
  pub ran : Run old before earlier mid
  pub stepped : Step mid c reply next
  pub goes_on : Run next after later new

-- and those that commands made, in order
abbrev pub table_calls : ℕ → List Command → List Reply → List TableEvent
table_calls number (c ∷ cs) (r ∷ rs) = table_call number c r ++ table_calls number cs rs
table_calls number cs rs = []

-- what befell the table of a number, which was this one before: the calls that commands made of it, and the evictions
-- that these led to
abbrev pub table_events : ℕ → Table → List Command → List Reply → List TableEvent
table_events number table cs rs = events_of (table_calls number cs rs) table

-- at every state of a run this holds of the commands before it, of their replies, and of it
abbrev pub AtEachState : (List Command → List Reply → State → Type 0) → (old : State) (cs : List Command)
    (rs : List Reply) (new : State) → Run old cs rs new → Type 0
AtEachState P old (c ∷ cs) (r ∷ rs) new run =
    P [] [] old × AtEachState (λ ds qs s. P (c ∷ ds) (r ∷ qs) s) run.0 cs rs new run.2
AtEachState P old cs rs new run = P [] [] new

-- a state that commands with these replies left: its layouts are layouts, at most one region of a memory has an
-- address, and behind an IOMMU that is on each byte is reached through the mapping that was set last for its address
-- and not invalidated or evicted since
pub record AccessesFollowTables (old : State) (cs : List Command) (rs : List Reply) (now : State) : Type 0 where
  pub lawful : IsLawful now
  pub one_region : (m : Memory) (memory a i j : ℕ) (d : Region) → slice_get now.memories memory ≡ Some m
      → i < length m.regions → j < length m.regions → has_address (slice_index_or m.regions i d) a ≡ true
      → has_address (slice_index_or m.regions j d) a ≡ true → i ≡ j
  pub set_last : (m : Memory) (b : Translation) (t : Table) (a n i : ℕ) (access : Permissions) (x : Reached)
      → behind_of m.iommu ≡ Some b → slice_get old.host.tables b.table ≡ Some t
      → slice_get (reached_by m now.host.tables a n access).path i ≡ Some x
      → GoesThrough m.regions (a + i) (says_after_all (table_events b.table t cs rs) (a + i) (says t (a + i))) access x
