-- What a journal is: a machine, and what it served. And what a call of a machine that threads share returns.
use Rattle.std.specs.Prelude.{◌≡◌, ℕ, List, [], ◌∷◌, ◌++◌, length, slice_get, Some}
use Rattle.vm_memory.specs.Machine.{Step, Run}
use Rattle.vm_memory.specs.Parts.{Parts}
use Rattle.vm_memory.specs.State.{State}
use Rattle.vm_memory.specs.declared.machine.command.Command.{Command}
use Rattle.vm_memory.specs.declared.machine.command.Reply.{Reply}
use Rattle.vm_memory.specs.declared.machine.journal.CallError.{CallError}
use Rattle.vm_memory.specs.declared.machine.journal.CallError.TheVariants.{Memory, Ran}

-- the parts of a machine, the commands that it served, in order, and its replies to them
pub record Served (R I B : Type 0) : Type 0 where
  pub machine : Parts R I B
  pub commands : List Command
  pub replies : List Reply

-- some state led by these commands and replies, as a run of the model, to the state now
abbrev pub IsLed : State → List Command → List Reply → Type 0
IsLed now commands replies = (opening : State) × Run opening commands replies now

-- the reply of entry number n of some run of the model, whose command is this one
pub record IsEntry (n : ℕ) (command : Command) (reply : Reply) : Type 0 where
  pub opening : State
  pub commands : List Command
  pub replies : List Reply
  pub now : State
  pub ran : Run opening commands replies now
  pub has_command : slice_get commands n ≡ Some command
  pub has_reply : slice_get replies n ≡ Some reply

module _ {R I B : Type 0} (state : Parts R I B → State) where
  -- a command was served: it and its reply are the last entry, of this number, and the reply is a step of the model
  pub record Serves (old : Served R I B) (n : ℕ) (command : Command) (reply : Reply) (new : Served R I B) : Type 0 where
    pub after_commands : n ≡ length old.commands
    pub after_replies : n ≡ length old.replies
    pub commands : new.commands ≡ old.commands ++ command ∷ []
    pub replies : new.replies ≡ old.replies ++ reply ∷ []
    pub stepped : Step (state old.machine) command reply (state new.machine)

  -- a call that returns no reply: nothing ran, or the command was served as the entry of this number
  abbrev pub TellsNone : Served R I B → Command → CallError → Served R I B → Type 0
  TellsNone old command Memory new = new ≡ old
  TellsNone old command (Ran n) new = (reply : Reply) × Serves old n command reply new
