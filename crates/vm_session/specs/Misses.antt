-- What an access misses in a table, as it is reported with the refusal of a call.
use Rattle.std.specs.Prelude.{◌≡◌, ◌==◌, ◌||◌, ◌+◌, ◌*◌, ℕ, Bool, if◌then◌else◌, List, [], ◌∷◌, Option, Some, None, option_map, slice_get, MatchBool, MatchOption}
use Rattle.vm_memory_base.specs.Table.{Range}
use Rattle.vm_memory_base.specs.declared.iotlb.Permissions.{Permissions}
use Rattle.vm_memory_base.specs.declared.iotlb.Permissions.TheVariants as permissions
use Rattle.vm_memory_guest.specs.Memory.{Memory}
use Rattle.virtio_queue.specs.declared.any.AnyQueue.{AnyQueue}
use Rattle.virtio_queue.specs.declared.any.AnyQueue.TheVariants.{Split, Packed}
use Rattle.vm_memory.specs.Machine.{Step}
use Rattle.vm_memory.specs.Memories.{table_of}
use Rattle.vm_memory.specs.State.{State}
use Rattle.vm_memory.specs.declared.machine.command.Command.TheVariants as command
use Rattle.vm_memory.specs.declared.machine.command.Reply as replies
use Rattle.vm_memory.specs.declared.machine.command.Reply.TheVariants as reply
use Rattle.vm_session.specs.Kinds.{is_work, kinds}
use Rattle.vm_session.specs.Requests.{address}
use Rattle.vm_session.specs.SessionState.{SessionState}
use Rattle.vm_session.specs.declared.call.Answer.{Answer}
use Rattle.vm_session.specs.declared.call.Call.{Call}
use Rattle.vm_session.specs.declared.call.Kind.{Kind}
use Rattle.vm_session.specs.declared.call.Kind.TheVariants as kind
use Rattle.vm_session.specs.declared.call.Miss.{Miss}

-- a table refused a call: it misses a mapping, forbids the access, or keeps too few ranges for the call
abbrev pub is_untranslated : Answer → Bool
is_untranslated a = (a.code == 42) || ((a.code == 43) || (a.code == 53))

-- where a queue is read that is to be notified: the driver's index, or the flags of the next slot
abbrev pub next_word : AnyQueue → ℕ
next_word (Split q) = q.state.avail_ring + 2
next_word (Packed q) = q.state.desc_ring + (16 * q.state.next_avail.slot + 14)

-- how an address is accessed to be notified: that is read, and what says when to notify is written
abbrev pub notified : SessionState → ℕ → ℕ → Option Permissions
notified s queue a = option_map (λ q. if a == next_word q.queue then permissions.Read else permissions.Write)
    (slice_get s.queues queue)

-- how a call of a kind accesses an address of its memory
abbrev pub access_of : SessionState → Kind → Call → ℕ → Option Permissions
access_of s kind.Read call a = Some permissions.Read
access_of s kind.ReadSlice call a = Some permissions.Read
access_of s kind.Load call a = Some permissions.Read
access_of s kind.WriteTo call a = Some permissions.Read
access_of s kind.WriteAllTo call a = Some permissions.Read
access_of s kind.Write call a = Some permissions.Write
access_of s kind.WriteSlice call a = Some permissions.Write
access_of s kind.Store call a = Some permissions.Write
access_of s kind.ReadFrom call a = Some permissions.Write
access_of s kind.ReadExactFrom call a = Some permissions.Write
access_of s kind.MarkReached call a = Some permissions.Write
access_of s kind.QueueIsValid call a = Some permissions.Read
access_of s kind.AvailIdx call a = Some permissions.Read
access_of s kind.UsedIdx call a = Some permissions.Read
access_of s kind.Pop call a = Some permissions.Read
access_of s kind.ReadChain call a = Some permissions.Read
access_of s kind.NeedsNotification call a = Some permissions.Read
access_of s kind.BeginRequest call a = Some permissions.Read
access_of s kind.WriteChain call a = Some permissions.Write
access_of s kind.AddUsed call a = Some permissions.Write
access_of s kind.CompleteChain call a = Some permissions.Write
access_of s kind.DisableNotification call a = Some permissions.Write
access_of s kind.FinishRequest call a = Some permissions.Write
access_of s kind.EnableNotification call a = notified s call.first a
access_of s k call a = None

-- the memory of a call
abbrev pub memory_of : Kind → Call → ℕ
memory_of kind call = if is_work kind then call.second else call.first

abbrev pub number_of : Permissions → ℕ
number_of permissions.No = 0
number_of permissions.Read = 1
number_of permissions.Write = 2
number_of permissions.ReadWrite = 3

-- nothing is missed
abbrev pub no_miss : Miss
no_miss = record { access = 0; address = 0; length = 0 }

abbrev pub miss_at : Permissions → Range → Miss
miss_at access r = record { access = number_of access; address = r.base; length = r.len }

-- the first addresses that are missed; if none are, the first that are forbidden
abbrev pub first_of : Permissions → List Range → List Range → Miss
first_of access (m ∷ ms) fs = miss_at access m
first_of access [] (f ∷ fs) = miss_at access f
first_of access [] [] = no_miss

abbrev pub miss_of : Permissions → replies.Reply → Miss
miss_of access (reply.Fails fails) = first_of access fails.misses fails.access_fails
miss_of access r = no_miss

-- the addresses that an answer names are looked up in the table of a memory, for the access that was refused
abbrev pub LooksUp : State → Answer → Permissions → ℕ → Miss → Type 0
LooksUp now a access table miss = (r : replies.Reply)
    × Step now (command.Lookup table (address a.address) a.value access) r now × (miss ≡ miss_of access r)

abbrev pub MissesIn : State → Answer → Permissions → Option Memory → Miss → Type 0
MissesIn now a access None miss = miss ≡ no_miss
MissesIn now a access (Some m) miss = MatchOption (table_of m) (miss ≡ no_miss)
    (λ table. LooksUp now a access table miss)

abbrev pub MissesFor : SessionState → Call → Answer → Kind → Miss → Type 0
MissesFor now call a kind miss = MatchOption (access_of now kind call a.address) (miss ≡ no_miss)
    (λ access. MissesIn now.machine a access (slice_get now.machine.memories (memory_of kind call)) miss)

-- what a call misses to which this was answered
abbrev pub Misses : SessionState → Call → Answer → Miss → Type 0
Misses now call a miss = MatchOption (slice_get kinds call.kind) (miss ≡ no_miss)
    (λ kind. MissesFor now call a kind miss)

-- what is missed is reported with the refusal of a table, and with other answers nothing is
abbrev pub MissesIf : SessionState → Call → Answer → Miss → Miss → Type 0
MissesIf now call a old new = MatchBool (is_untranslated a) (Misses now call a new) (new ≡ old)
