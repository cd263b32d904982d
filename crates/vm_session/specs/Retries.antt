-- What a session remembers of the call that missed a mapping last, so that a call that is made again after each mapping
-- came ends, whatever the limit of its table is: the table is emptied once for it, and then it needs no more ranges than
-- the table keeps, or is refused.
use Rattle.std.specs.Prelude.{◌≡◌, ◌==◌, ◌&&◌, ◌-◌, ◌++◌, ℕ, Bool, true, false, if◌then◌else◌, List, [], ◌∷◌, length, drop, Option, Some, None, option_map, slice_get, MatchBool}
use Rattle.std.specs.Option.{option_and_then}
use Rattle.vm_memory.specs.Machine.{Step}
use Rattle.vm_memory.specs.Memories.{table_of}
use Rattle.vm_memory.specs.Setup.{without_regions}
use Rattle.vm_memory.specs.State.{State}
use Rattle.vm_memory.specs.declared.machine.command.Command.TheVariants as command
use Rattle.vm_memory.specs.declared.machine.command.Reply.{Reply}
use Rattle.vhost_message.specs.declared.iotlb.IotlbMessage.{IotlbMessage}
use Rattle.vhost_message.specs.declared.iotlb.IotlbMessage.TheVariants as message
use Rattle.vhost_message.specs.declared.regions.MemoryRegion.{MemoryRegion}
use Rattle.vm_session.specs.MemorySteps.{Still, Steps, marks_pages}
use Rattle.vm_session.specs.Kinds.{is_message, is_table, kinds}
use Rattle.vm_session.specs.Messages.{is_announced, message_of, regions_in}
use Rattle.vm_session.specs.Misses.{memory_of}
use Rattle.vm_session.specs.Session.{AnswersBy, IsGivenBack, IsLent}
use Rattle.vm_session.specs.SessionState.{SessionState, no_session, with_machine}
use Rattle.vm_session.specs.declared.call.Answer.{Answer}
use Rattle.vm_session.specs.declared.call.Call.{Call}
use Rattle.vm_session.specs.declared.call.Kind.{Kind}
use Rattle.vm_session.specs.declared.call.Kind.TheVariants as kind
use Rattle.vm_session.specs.declared.retry.Retry.{Retry}
use Rattle.vm_session.specs.declared.retry.Stage.{Stage}
use Rattle.vm_session.specs.declared.retry.Stage.TheVariants as stage

-- a session: its machine and queues, the limit of each table, if it has one, and the call that missed last
pub record WholeSession : Type 0 where
  pub parts : SessionState
  pub limits : List (Option ℕ)
  pub retry : Option Retry

-- one that made nothing
abbrev pub new_session : WholeSession
new_session = record { parts = no_session; limits = []; retry = None }

-- ---- the limits

-- the limit of the table that a call makes
abbrev pub limit_made : Kind → Call → Option ℕ
limit_made kind.LimitedTable call = Some call.length
limit_made k call = None

-- a table that is made has the next number, and its limit is kept
abbrev pub limits_after : Option Kind → Call → Answer → List (Option ℕ) → List (Option ℕ)
limits_after None call a limits = limits
limits_after (Some k) call a limits =
    if is_table k && a.code == 0 then limits ++ limit_made k call ∷ [] else limits

abbrev pub limit_of : List (Option ℕ) → ℕ → Option ℕ
limit_of limits table = option_and_then (λ limit. limit) (slice_get limits table)

-- the table that the addresses of a call's memory go through
abbrev pub table_at : SessionState → Call → Option ℕ
table_at s call = option_and_then
    (λ k. option_and_then table_of (slice_get s.machine.memories (memory_of k call))) (slice_get kinds call.kind)

-- and its limit, if it has one
abbrev pub bound_of : WholeSession → Call → Option (ℕ × ℕ)
bound_of s call = option_and_then
    (λ table. option_map (λ limit. (table, limit)) (limit_of s.limits table)) (table_at s.parts call)

-- ---- misses

abbrev pub same_call : Call → Call → Bool
same_call a b = (a.kind == b.kind && (a.width == b.width && a.access == b.access))
    && ((a.first == b.first && (a.second == b.second && a.third == b.third))
    && ((a.address == b.address && (a.target == b.target && a.value == b.value))
    && (a.length == b.length && a.other_length == b.other_length)))

-- what is remembered is this call, with an input of this length
abbrev pub is_of : Retry → Call → ℕ → Bool
is_of r call len = same_call r.call call && r.input_len == len

abbrev pub first_miss : Call → ℕ → ℕ → ℕ → Retry
first_miss call len table limit = record {
  call = call;
  input_len = len;
  table = table;
  left = limit;
  stage = stage.Missed;
  is_updated = false;
}

-- a call that has a table to itself misses once more: what came took one range of its room
abbrev pub stage_after : Stage → Stage
stage_after stage.Missed = stage.Again
stage_after stage.Again = stage.Again
stage_after stage.Alone = stage.Alone

abbrev pub left_after : Stage → ℕ → ℕ
left_after stage.Missed left = left
left_after stage.Again left = left
left_after stage.Alone left = left - 1

-- a call misses again, which counts if an UPDATE was applied since it missed last
abbrev pub missed_again : Retry → Retry
missed_again r = if r.is_updated
    then record r { stage = stage_after r.stage; left = left_after r.stage r.left; is_updated = false } else r

-- what is remembered of a call that misses a mapping of a table with a limit
abbrev pub missed : Option Retry → Call → ℕ → ℕ → ℕ → Retry
missed None call len table limit = first_miss call len table limit
missed (Some r) call len table limit =
    if is_of r call len && r.table == table then missed_again r else first_miss call len table limit

-- a call that has a table to itself, and for which that has no room, is refused and forgotten
abbrev pub after_miss : Answer → Retry → Answer × Option Retry
after_miss a r = if r.left == 0 then (record a { code = 53 }, None) else (a, Some r)

-- a table without a limit has room for every call
abbrev pub after_missed_call : Option Retry → Call → ℕ → Answer → Option (ℕ × ℕ) → Answer × Option Retry
after_missed_call retry call len a None = (a, retry)
after_missed_call retry call len a (Some bound) = after_miss a (missed retry call len bound.0 bound.1)

-- a call that misses nothing is remembered no more, and others are
abbrev pub forgotten : Option Retry → Call → ℕ → Option Retry
forgotten None call len = None
forgotten (Some r) call len = if is_of r call len then None else Some r

-- what is answered to a call to which its parts answered this, and what is remembered then
abbrev pub after_call : WholeSession → Call → ℕ → Answer → Answer × Option Retry
after_call s call len a = if a.code == 42 then after_missed_call s.retry call len a (bound_of s call)
    else (a, forgotten s.retry call len)

-- ---- messages

abbrev pub is_sent : Option Kind → Bool
is_sent None = false
is_sent (Some k) = is_message k

-- the message of a call and the table that it is to, if there are both
abbrev pub message_at : State → Call → List ℕ → Option (ℕ × IotlbMessage)
message_at s call input = if is_sent (slice_get kinds call.kind)
    then option_and_then (λ m. option_map (λ table. (table, m)) (option_and_then table_of
    (slice_get s.memories call.first))) (message_of input)
    else None

abbrev pub is_again : Stage → Bool
is_again stage.Missed = false
is_again stage.Again = true
is_again stage.Alone = false

-- this is the table of a call that missed again
abbrev pub must_empty_table : Option Retry → ℕ → Bool
must_empty_table None table = false
must_empty_table (Some r) table = r.table == table && is_again r.stage

-- all addresses of a table are unmapped
abbrev pub Clears : ℕ → SessionState → SessionState → Type 0
Clears table old new = (r : Reply) × Step old.machine (command.InvalidateAll table) r new.machine
    × (new.queues ≡ old.queues)

-- it is emptied before it takes an UPDATE that maps announced memory
abbrev pub Readies : Option Retry → List MemoryRegion → Option (ℕ × IotlbMessage) → SessionState → SessionState → Type 0
Readies retry regions None old new = new ≡ old
Readies retry regions (Some p) old new =
    MatchBool (must_empty_table retry p.0 && is_announced regions p.1) (Clears p.0 old new) (new ≡ old)

abbrev pub emptied : Stage → Stage
emptied stage.Missed = stage.Missed
emptied stage.Again = stage.Alone
emptied stage.Alone = stage.Alone

-- an UPDATE that is applied counts
abbrev pub after_update : Retry → Answer → Retry
after_update r a = if a.code == 0 then record r { stage = emptied r.stage; is_updated = true } else r

-- an INVALIDATE of its table has a call forgotten
abbrev pub after_own_message : Retry → IotlbMessage → Answer → Option Retry
after_own_message r (message.Update iova size user permissions) a = Some (after_update r a)
after_own_message r (message.Invalidate iova size) a = None
after_own_message r (message.Miss iova access) a = Some r
after_own_message r (message.AccessFail iova access) a = Some r

abbrev pub after_message : Option Retry → ℕ → IotlbMessage → Answer → Option Retry
after_message None table m a = None
after_message (Some r) table m a = if r.table == table then after_own_message r m a else Some r

abbrev pub after_message_if : Option Retry → Option (ℕ × IotlbMessage) → Answer → Option Retry
after_message_if retry None a = retry
after_message_if retry (Some p) a = after_message retry p.0 p.1 a

-- ---- calls

module _ (steps : Steps) where
  -- the parts of a session answer a call
  abbrev pub IsServedBy : WholeSession → Call → List ℕ → List ℕ → Answer → List ℕ → WholeSession → Type 0
  IsServedBy old call input out a out' new = (ready : SessionState)
      × Readies old.retry (regions_in (drop 32 input)) (message_at old.parts.machine call input) old.parts ready
      × AnswersBy steps ready call input out a out' new.parts
      × (new.limits ≡ limits_after (slice_get kinds call.kind) call a old.limits)
      × (new.retry ≡ after_message_if old.retry (message_at old.parts.machine call input) a)

  -- what a session answers to a call with an input and an output, and leaves of the output
  abbrev pub AnswersCallBy : WholeSession → Call → List ℕ → List ℕ → Answer → List ℕ → WholeSession → Type 0
  AnswersCallBy old call input out a out' new = (told : Answer) × (served : WholeSession)
      × IsServedBy old call input out told out' served
      × ((a, new.retry) ≡ after_call served call (length input) told) × (new ≡ record served { retry = new.retry })

-- the same, if nobody else writes memory meanwhile
abbrev pub IsServed : WholeSession → Call → List ℕ → List ℕ → Answer → List ℕ → WholeSession → Type 0
IsServed = IsServedBy (Still marks_pages)

abbrev pub AnswersCall : WholeSession → Call → List ℕ → List ℕ → Answer → List ℕ → WholeSession → Type 0
AnswersCall = AnswersCallBy (Still marks_pages)

-- what a session answers if these bytes are lent as a block, with pages of a size
abbrev pub AnswersLent : WholeSession → List ℕ → ℕ → Answer → WholeSession → Type 0
AnswersLent old bytes page a new = IsLent old.parts.machine bytes page a new.parts.machine
    × (new.parts.queues ≡ old.parts.queues) × (new ≡ record old { parts = new.parts })

-- what a session answers if a block is given back
abbrev pub AnswersGivenBack : WholeSession → ℕ → Answer → WholeSession → Type 0
AnswersGivenBack old block a new = IsGivenBack old.parts.machine block a new.parts.machine
    × (new.parts.queues ≡ old.parts.queues) × (new ≡ record old { parts = new.parts })

-- a session without regions, layouts and memories, which waits for no mapping
abbrev pub without_memories : WholeSession → WholeSession
without_memories old =
    record old { parts = with_machine old.parts (without_regions old.parts.machine); retry = None }
