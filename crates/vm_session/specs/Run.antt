-- What happens to a session, one after another: calls, and steps of a guest that has blocks in common with it.
use Rattle.std.specs.Prelude.{◌≡◌, ◌==◌, ◌⊎◌, ◌<◌, ℕ, Bool, true, false, List, [], ◌∷◌, IsTrue, Option, Some, None, Result, drop, length, slice_get}
use Rattle.std.specs.Option.{option_and_then}
use Rattle.vm_memory.specs.Machine.{Step}
use Rattle.vm_memory_device.specs.declared.chain.Segment.{Segment}
use Rattle.vm_memory.specs.Setup.{GivesBack, MakesBlockAt, SetsUp, without_regions}
use Rattle.vm_memory.specs.State.{State}
use Rattle.vm_memory.specs.declared.machine.command.Command as commands
use Rattle.vm_memory.specs.declared.machine.command.Reply.{Reply}
use Rattle.vm_memory.specs.declared.machine.setup.GiveBackError.{GiveBackError}
use Rattle.vm_memory.specs.declared.machine.setup.Setup as setups
use Rattle.vm_memory.specs.declared.machine.setup.SetupReply.{SetupReply}
use Rattle.vm_session.specs.Answers.{answer_of, answer_of_given_back, answer_of_setup}
use Rattle.vm_session.specs.Codes.{bad_call, no_memory, short_of}
use Rattle.vm_session.specs.MemorySteps.{GuestWrites, Races, Still, Steps, marks_pages}
use Rattle.vm_session.specs.Kinds.{is_command, is_message, is_queue, is_work, kinds, takes_list}
use Rattle.vm_session.specs.Messages.{AnswersMessage, regions_in}
use Rattle.vm_session.specs.Queues.{AnswersQueue, OnBothBy}
use Rattle.vm_session.specs.Requests.{IsSetup, command_at, is_without_size}
use Rattle.vm_session.specs.Retries.{AnswersCall, AnswersCallBy, AnswersGivenBack, AnswersLent, Readies, WholeSession, message_at, without_memories}
use Rattle.vm_session.specs.Session.{HasRoom, Marks, output_after, room_for}
use Rattle.vm_session.specs.SessionState.{SessionState, chain_of, with_machine}
use Rattle.vm_session.specs.declared.call.Answer.{Answer}
use Rattle.vm_session.specs.declared.call.Call.{Call}
use Rattle.vm_session.specs.declared.call.Kind.{Kind}
use Rattle.vm_session.specs.declared.call.Kind.TheVariants as kind
use Rattle.vm_session.specs.declared.retry.Retry.{Retry}

-- a call with its input and what its output was, and what was answered and left of the output
pub record Exchange : Type 0 where
  pub call : Call
  pub input : List ℕ
  pub before : List ℕ
  pub answer : Answer
  pub after : List ℕ

-- a call during which the guest does not write; one during which it writes before each look and each store of a queue and
-- of a block request; bytes that are lent as a block with pages of a size, or a block that is given back, and the answer;
-- or the regions, layouts and memories are forgotten; or a step of the guest, which leaves the blocks with these bytes
pub data Event : Type 0 where
  calls : Exchange → Event
  races : Exchange → Event
  lends : List ℕ → ℕ → Answer → Event
  gives_back : ℕ → Answer → Event
  forgets : Event
  writes : List (List ℕ) → Event

-- the blocks of a state, after the guest wrote
abbrev pub with_blocks : State → List (List ℕ) → State
with_blocks s blocks = record s { host = record s.host { blocks = blocks } }

-- the guest writes: it changes bytes of shared blocks, and nothing else of a session
abbrev pub WritesTo : List ℕ → SessionState → List (List ℕ) → SessionState → Type 0
WritesTo shared old blocks new = GuestWrites shared old.machine.host.blocks blocks
    × (new ≡ with_machine old (with_blocks old.machine blocks))

-- an event leads from a session to a session
abbrev pub Happens : List ℕ → WholeSession → Event → WholeSession → Type 0
Happens shared old (calls e) new = AnswersCall old e.call e.input e.before e.answer e.after new
Happens shared old (races e) new = AnswersCallBy (Races shared) old e.call e.input e.before e.answer e.after new
Happens shared old (lends bytes page a) new = AnswersLent old bytes page a new
Happens shared old (gives_back block a) new = AnswersGivenBack old block a new
Happens shared old forgets new = new ≡ without_memories old
Happens shared old (writes blocks) new =
    WritesTo shared old.parts blocks new.parts × (new ≡ record old { parts = new.parts })

-- events one after another
abbrev pub HappenAll : List ℕ → WholeSession → List Event → WholeSession → Type 0
HappenAll shared old [] new = new ≡ old
HappenAll shared old (e ∷ es) new = (mid : WholeSession) × Happens shared old e mid × HappenAll shared mid es new

-- a step of the model: nothing, something is made, a block is lent or given back, what names blocks is forgotten, a
-- command runs, pages are marked, a table takes a message, a queue is made or changed, a device works with a queue and a
-- memory, or the guest writes
pub data Deed : Type 0 where
  nothing : Deed
  made : setups.Setup → SetupReply → Deed
  lent : SetupReply → Deed
  gave_back : Result (Unit {0}) GiveBackError → Deed
  forgot : Deed
  ran : commands.Command → Reply → Deed
  marked : Reply → Deed
  messaged : Deed
  queued : Kind → Deed
  worked : Kind → Deed
  wrote : List (List ℕ) → Deed

-- a call of a kind stands for nothing: a size of what it sets up is 0, or it means no command
abbrev pub MeansNothing : Kind → Call → List ℕ → Type 0
MeansNothing kind call input =
    IsTrue (is_without_size kind call) ⊎ (IsTrue (is_command kind) × (command_at kind call input ≡ None))

-- the output of a call is too short for its command
abbrev pub IsTooShort : SessionState → Kind → Exchange → Type 0
IsTooShort old kind e = (c : commands.Command) × (command_at kind e.call e.input ≡ Some c)
    × (length e.before < room_for old.machine c) × (e.answer ≡ short_of (room_for old.machine c))

-- why a call did nothing: it stands for nothing, the allocation of the list that it brings failed, or its output is too
-- short
abbrev pub IsRefused : SessionState → Exchange → Option Kind → Type 0
IsRefused old e None = e.answer ≡ bad_call
IsRefused old e (Some kind) = ((e.answer ≡ bad_call) × MeansNothing kind e.call e.input)
    ⊎ (((e.answer ≡ no_memory) × IsTrue (takes_list kind)) ⊎ IsTooShort old kind e)

-- the table that takes a message may be emptied for a call that is made again
abbrev pub MayReady : SessionState → Exchange → SessionState → Type 0
MayReady old e ready = (retry : Option Retry)
    × Readies retry (regions_in (drop 32 e.input)) (message_at old.machine e.call e.input) old ready

-- a call asks for it, and its answer and its output are those of the reply. A call on a queue does what the queue's own
-- call does, if this is known of that
abbrev pub Does : Steps → SessionState → Exchange → Deed → SessionState → Type 0
Does steps old e nothing new = IsRefused old e (slice_get kinds e.call.kind) × (e.after ≡ e.before) × (new ≡ old)
Does steps old e (made s r) new = (kind : Kind) × (slice_get kinds e.call.kind ≡ Some kind) × IsSetup kind e.call s
    × SetsUp old.machine s r new.machine × (new.queues ≡ old.queues) × (e.answer ≡ answer_of_setup r)
    × (e.after ≡ e.before)
Does steps old e (lent r) new = ⊥
Does steps old e (gave_back r) new = ⊥
Does steps old e forgot new = ⊥
Does steps old e (ran c r) new = (kind : Kind) × (slice_get kinds e.call.kind ≡ Some kind)
    × (command_at kind e.call e.input ≡ Some c) × Step old.machine c r new.machine × (new.queues ≡ old.queues)
    × (e.answer ≡ answer_of r) × (e.after ≡ output_after old.machine c r e.before) × HasRoom old.machine c r e.before
Does steps old e (marked r) new = (kind : Kind) × (slice_get kinds e.call.kind ≡ Some kind)
    × Marks kind old.machine e.call r new.machine × (new.queues ≡ old.queues) × (e.answer ≡ answer_of r)
    × (e.after ≡ e.before)
Does steps old e messaged new = (kind : Kind) × (slice_get kinds e.call.kind ≡ Some kind) × IsTrue (is_message kind)
    × ((ready : SessionState) × MayReady old e ready
    × AnswersMessage ready.machine e.call e.input e.answer new.machine) × (new.queues ≡ old.queues)
    × (e.after ≡ e.before)
Does steps old e (queued kind) new = (slice_get kinds e.call.kind ≡ Some kind) × IsTrue (is_queue kind)
    × AnswersQueue kind old e.call e.input e.before e.answer new e.after
Does steps old e (worked kind) new = (slice_get kinds e.call.kind ≡ Some kind) × IsTrue (is_work kind)
    × OnBothBy steps kind old e.call e.input e.before e.answer new e.after
Does steps old e (wrote blocks) new = ⊥

-- a call is answered so, or instead of a miss that its table is too small
abbrev pub IsToldAs : Answer → Answer → Type 0
IsToldAs told a = (a ≡ told) ⊎ ((told.code ≡ 42) × (a ≡ record told { code = 53 }))

-- bytes are lent as a block, or the size of its pages is 0
abbrev pub IsLentAs : SessionState → List ℕ → ℕ → Answer → Deed → SessionState → Type 0
IsLentAs old bytes page a (lent r) new = MakesBlockAt old.machine bytes page r new.machine
    × (new.queues ≡ old.queues) × (a ≡ answer_of_setup r)
IsLentAs old bytes page a nothing new = (a ≡ bad_call) × (page ≡ 0) × (new ≡ old)
IsLentAs old bytes page a d new = ⊥

-- a block is given back
abbrev pub IsGivenBackAs : SessionState → ℕ → Answer → Deed → SessionState → Type 0
IsGivenBackAs old block a (gave_back r) new = GivesBack old.machine block r new.machine
    × (new.queues ≡ old.queues) × (a ≡ answer_of_given_back r)
IsGivenBackAs old block a d new = ⊥

-- an event is this step of the model
abbrev pub IsDeed : List ℕ → SessionState → Event → Deed → SessionState → Type 0
IsDeed shared old (calls e) d new =
    (told : Answer) × IsToldAs told e.answer × Does (Still marks_pages) old (record e { answer = told }) d new
IsDeed shared old (races e) d new =
    (told : Answer) × IsToldAs told e.answer × Does (Races shared) old (record e { answer = told }) d new
IsDeed shared old (lends bytes page a) d new = IsLentAs old bytes page a d new
IsDeed shared old (gives_back block a) d new = IsGivenBackAs old block a d new
IsDeed shared old forgets d new = (d ≡ forgot) × (new ≡ with_machine old (without_regions old.machine))
IsDeed shared old (writes blocks) d new = (d ≡ wrote blocks) × WritesTo shared old blocks new

-- events are these steps, one after another
abbrev pub AreDeeds : List ℕ → SessionState → List Event → List Deed → SessionState → Type 0
AreDeeds shared old [] [] new = new ≡ old
AreDeeds shared old (e ∷ es) (d ∷ ds) new =
    (mid : SessionState) × IsDeed shared old e d mid × AreDeeds shared mid es ds new
AreDeeds shared old [] (d ∷ ds) new = ⊥
AreDeeds shared old (e ∷ es) [] new = ⊥

-- commands and their replies, as steps
abbrev pub all_ran : List commands.Command → List Reply → List Deed
all_ran (c ∷ cs) (r ∷ rs) = ran c r ∷ all_ran cs rs
all_ran cs rs = []

-- ---- chains in flight

-- the chain of a head of the queue of this number that is in flight
abbrev pub chain_at : SessionState → ℕ → ℕ → Option (List Segment)
chain_at s number head = option_and_then (λ q. chain_of q head) (slice_get s.queues number)

-- a call of a kind ends the flight of a chain of this head
abbrev pub ends_flight : Kind → ℕ → ℕ → Bool
ends_flight kind.AddUsed third head = third == head
ends_flight kind.CompleteChain third head = third == head
ends_flight kind.Forget third head = third == head
ends_flight kind.ResetQueue third head = true
ends_flight k third head = false

abbrev pub EndsIf : Option Kind → ℕ → ℕ → Type 0
EndsIf None third head = ⊥
EndsIf (Some k) third head = IsTrue (ends_flight k third head)

-- an event ends the flight of a chain: a call that is done, and returns it, forgets it, or makes its queue what it was
abbrev pub EndsFlight : ℕ → ℕ → Event → Type 0
EndsFlight number head (calls e) = (e.answer.code ≡ 0) × (e.call.first ≡ number)
    × EndsIf (slice_get kinds e.call.kind) e.call.third head
EndsFlight number head (races e) = (e.answer.code ≡ 0) × (e.call.first ≡ number)
    × EndsIf (slice_get kinds e.call.kind) e.call.third head
EndsFlight number head (lends bytes page a) = ⊥
EndsFlight number head (gives_back block a) = ⊥
EndsFlight number head forgets = ⊥
EndsFlight number head (writes blocks) = ⊥
