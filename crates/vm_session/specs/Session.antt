-- What a session answers to calls, and what it leaves.
use Rattle.std.specs.Prelude.{◌≡◌, ◌⊎◌, ◌<◌, ◌≤◌, ◌++◌, ℕ, Bool, true, false, IsTrue, List, length, take, drop, Option, Some, None, Result, slice_get}
use Rattle.vm_memory.specs.Calls.{WritesOf, buffer_after}
use Rattle.vm_memory.specs.Effect.{apply, leaves}
use Rattle.vm_memory.specs.Machine.{Step, outcome}
use Rattle.vm_memory.specs.Marks.{marks_range, marks_reached}
use Rattle.vm_memory.specs.Setup.{GivesBack, MakesBlockAt, SetsUp}
use Rattle.vm_memory.specs.State.{State}
use Rattle.vm_memory.specs.declared.machine.command.BlockRange.{BlockRange}
use Rattle.vm_memory.specs.declared.machine.command.Command as commands
use Rattle.vm_memory.specs.declared.machine.command.Command.TheVariants as command
use Rattle.vm_memory.specs.declared.machine.command.Reply as replies
use Rattle.vm_memory.specs.declared.machine.command.Reply.TheVariants as reply
use Rattle.vm_memory.specs.declared.machine.command.Width.{Width}
use Rattle.vm_memory.specs.declared.machine.setup.GiveBackError.{GiveBackError}
use Rattle.vm_memory.specs.declared.machine.setup.Setup as setups
use Rattle.vm_memory.specs.declared.machine.setup.SetupReply.{SetupReply}
use Rattle.vm_session.specs.Answers.{answer_of, answer_of_given_back, answer_of_setup, bytes_of}
use Rattle.vm_session.specs.Codes.{bad_call, no_memory, short_of}
use Rattle.vm_session.specs.Kinds.{is_message, is_queue, is_work, kinds, marks, sets_up, takes_list}
use Rattle.vm_session.specs.Messages.{AnswersMessage}
use Rattle.vm_session.specs.MemorySteps.{Still, Steps, marks_pages}
use Rattle.vm_session.specs.Queues.{AnswersQueue, OnBothBy}
use Rattle.vm_session.specs.Requests.{IsSetup, address, command_at, is_without_size}
use Rattle.vm_session.specs.SessionState.{SessionState}
use Rattle.vm_session.specs.declared.call.Answer.{Answer}
use Rattle.vm_session.specs.declared.call.Call.{Call}
use Rattle.vm_session.specs.declared.call.Kind.{Kind}
use Rattle.vm_session.specs.declared.call.Kind.TheVariants as kind

-- how many bytes of output a command wants: as many as are asked for, or those of the list that it replies
abbrev pub room_for : State → commands.Command → ℕ
room_for old (command.Read memory addr n) = n
room_for old (command.ReadSlice memory addr n) = n
room_for old (command.WriteTo memory addr n sink) = n
room_for old (command.WriteAllTo memory addr n sink) = n
room_for old (command.Dirty id) = length (bytes_of (outcome old (command.Dirty id)).0)
room_for old (command.Harvest id) = length (bytes_of (outcome old (command.Harvest id)).0)
room_for old (command.Lookup table iova n access) =
    length (bytes_of (outcome old (command.Lookup table iova n access)).0)
room_for old c = 0

-- an output after a read of n bytes that replies so: the bytes that the read reaches are its front, and the others
-- stay. If an allocation failed, all stay
abbrev pub read_into : State → ℕ → ℕ → ℕ → replies.Reply → List ℕ → List ℕ
read_into old memory a n reply.Memory out = out
read_into old memory a n r out = buffer_after old memory a (take n out) ++ drop n out

-- the output has bytes at its front, as many of them as it has room for
abbrev pub begins_with : List ℕ → List ℕ → List ℕ
begins_with bytes out = take (length out) bytes ++ drop (length bytes) out

-- an output after a command that replies so: the bytes of the reply are its front, and the others stay
abbrev pub output_after : State → commands.Command → replies.Reply → List ℕ → List ℕ
output_after old (command.Read memory addr n) r out = read_into old memory addr.0 n r out
output_after old (command.ReadSlice memory addr n) r out = read_into old memory addr.0 n r out
output_after old (command.WriteTo memory addr n sink) r out = begins_with (bytes_of r) out
output_after old (command.WriteAllTo memory addr n sink) r out = begins_with (bytes_of r) out
output_after old (command.Dirty id) r out = begins_with (bytes_of r) out
output_after old (command.Harvest id) r out = begins_with (bytes_of r) out
output_after old (command.Lookup table iova n access) r out = begins_with (bytes_of r) out
output_after old c r out = out

-- the output has room for what a command puts there, or an allocation failed, and nothing is put there
abbrev pub HasRoom : State → commands.Command → replies.Reply → List ℕ → Type 0
HasRoom old c r out = (room_for old c ≤ length out) ⊎ (r ≡ reply.Memory)

-- the command runs, and the answer is its reply, if the output has room. Or an allocation fails, and nothing changes
abbrev pub Runs : State → commands.Command → List ℕ → Answer → List ℕ → State → Type 0
Runs old c out a out' new = (r : replies.Reply) × Step old c r new × (a ≡ answer_of r)
    × (out' ≡ output_after old c r out) × HasRoom old c r out

-- a command is refused before it runs, since its output is too short
abbrev pub IsShort : State → commands.Command → List ℕ → Answer → List ℕ → State → Type 0
IsShort old c out a out' new = (length out < room_for old c) × (a ≡ short_of (room_for old c)) × (out' ≡ out)
    × (new ≡ old)

-- what is answered to a command that a call may mean
abbrev pub Does : State → Option commands.Command → List ℕ → Answer → List ℕ → State → Type 0
Does old None out a out' new = (a ≡ bad_call) × (out' ≡ out) × (new ≡ old)
Does old (Some c) out a out' new = Runs old c out a out' new ⊎ IsShort old c out a out' new

-- if the input is a list, its allocation may fail, and then nothing changes
abbrev pub DoesListed : State → Option commands.Command → List ℕ → Answer → List ℕ → State → Type 0
DoesListed old o out a out' new = Does old o out a out' new ⊎ ((a ≡ no_memory) × (out' ≡ out) × (new ≡ old))

abbrev pub DoesIf : Bool → State → Option commands.Command → List ℕ → Answer → List ℕ → State → Type 0
DoesIf true old o out a out' new = DoesListed old o out a out' new
DoesIf false old o out a out' new = Does old o out a out' new

-- what is answered to a call of a kind that is not one of setup
abbrev pub Served : State → Kind → Call → List ℕ → List ℕ → Answer → List ℕ → State → Type 0
Served old kind call input out a out' new =
    DoesIf (takes_list kind) old (command_at kind call input) out a out' new

-- what is answered to a store of a value of this width
abbrev pub Stores : State → Call → Width → Answer → State → Type 0
Stores old call width a new =
    (r : replies.Reply) × Step old (command.Store call.first width (address call.address) call.value) r new
    × (a ≡ answer_of r)

-- and to a load
abbrev pub Loads : State → Call → Width → Answer → Type 0
Loads now call width a =
    (r : replies.Reply) × Step now (command.Load call.first width (address call.address)) r now × (a ≡ answer_of r)

-- what is answered to a setup call
abbrev pub IsSetUp : State → Kind → Call → Answer → State → Type 0
IsSetUp old kind call a new =
    ((s : setups.Setup) × (r : SetupReply) × IsSetup kind call s × SetsUp old s r new × (a ≡ answer_of_setup r))
    ⊎ ((a ≡ bad_call) × IsTrue (is_without_size kind call) × (new ≡ old))

-- what is answered if these bytes are lent as a block, with pages of a size
abbrev pub IsLent : State → List ℕ → ℕ → Answer → State → Type 0
IsLent old bytes page a new =
    ((r : SetupReply) × MakesBlockAt old bytes page r new × (a ≡ answer_of_setup r))
    ⊎ ((a ≡ bad_call) × (page ≡ 0) × (new ≡ old))

-- what is answered if a block is given back
abbrev pub IsGivenBack : State → ℕ → Answer → State → Type 0
IsGivenBack old block a new =
    (r : Result (Unit {0}) GiveBackError) × GivesBack old block r new × (a ≡ answer_of_given_back r)

-- a call of a kind marks pages, with this reply
abbrev pub Marks : Kind → State → Call → replies.Reply → State → Type 0
Marks kind.MarkBlock old call r new =
    let range : BlockRange = record { block = call.first; offset = call.address; len = call.length } in
    (r, new) ≡ apply old (leaves (marks_range old.host range))
Marks kind.MarkReached old call r new =
    WritesOf old call.first call.address call.length (λ m host. marks_reached m host call.address call.length) r new
Marks k old call r new = ⊥

abbrev pub AnswersMarks : Kind → State → Call → Answer → State → Type 0
AnswersMarks kind old call a new = (r : replies.Reply) × Marks kind old call r new × (a ≡ answer_of r)

-- what is answered to a call that sets nothing up and marks nothing
abbrev pub AnswersSent : Bool → Kind → State → Call → List ℕ → List ℕ → Answer → List ℕ → State → Type 0
AnswersSent true kind old call input out a out' new = AnswersMessage old call input a new × (out' ≡ out)
AnswersSent false kind old call input out a out' new = Served old kind call input out a out' new

-- what is answered to a call that sets nothing up
abbrev pub AnswersMade : Bool → Kind → State → Call → List ℕ → List ℕ → Answer → List ℕ → State → Type 0
AnswersMade true kind old call input out a out' new = AnswersMarks kind old call a new × (out' ≡ out)
AnswersMade false kind old call input out a out' new =
    AnswersSent (is_message kind) kind old call input out a out' new

-- what is answered to a call of a kind
abbrev pub AnswersKind : Bool → Kind → State → Call → List ℕ → List ℕ → Answer → List ℕ → State → Type 0
AnswersKind true kind old call input out a out' new = IsSetUp old kind call a new × (out' ≡ out)
AnswersKind false kind old call input out a out' new = AnswersMade (marks kind) kind old call input out a out' new

-- what is answered to a call of a kind that is one on queues, or on the machine alone
abbrev pub AnswersOther : Bool → Kind → SessionState → Call → List ℕ → List ℕ → Answer → List ℕ → SessionState → Type 0
AnswersOther true kind old call input out a out' new = AnswersQueue kind old call input out a new out'
AnswersOther false kind old call input out a out' new =
    AnswersKind (sets_up kind) kind old.machine call input out a out' new.machine × (new.queues ≡ old.queues)

-- what a session answers to a call with an input and an output, and leaves of the output, if this is known of a device's
-- steps
module _ (steps : Steps) where
  abbrev pub AnswersOf : Bool → Kind → SessionState → Call → List ℕ → List ℕ → Answer → List ℕ → SessionState → Type 0
  AnswersOf true kind old call input out a out' new = OnBothBy steps kind old call input out a new out'
  AnswersOf false kind old call input out a out' new = AnswersOther (is_queue kind) kind old call input out a out' new

  abbrev pub AnswersIf : Option Kind → SessionState → Call → List ℕ → List ℕ → Answer → List ℕ → SessionState → Type 0
  AnswersIf None old call input out a out' new = (a ≡ bad_call) × (out' ≡ out) × (new ≡ old)
  AnswersIf (Some kind) old call input out a out' new = AnswersOf (is_work kind) kind old call input out a out' new

  abbrev pub AnswersBy : SessionState → Call → List ℕ → List ℕ → Answer → List ℕ → SessionState → Type 0
  AnswersBy old call input out a out' new = AnswersIf (slice_get kinds call.kind) old call input out a out' new

-- the same, if nobody else writes memory meanwhile
abbrev pub Answers : SessionState → Call → List ℕ → List ℕ → Answer → List ℕ → SessionState → Type 0
Answers = AnswersBy (Still marks_pages)
