-- The setup lines and the commands of a script, apart from its text.
use Rattle.std.specs.Prelude.{◌≡◌, ◌++◌, ℕ, List, [], ◌∷◌}
use Rattle.vm_memory.specs.Setup.{SetsUp}
use Rattle.vm_memory.specs.State.{State}
use Rattle.vm_memory.specs.Texts.{text_of, text_of_setup}
use Rattle.vm_memory.specs.declared.machine.command.Command as commands
use Rattle.vm_memory.specs.declared.machine.command.Reply.{Reply}
use Rattle.vm_memory.specs.declared.script.line.Line.{Line}
use Rattle.vm_memory.specs.declared.script.line.Line.TheVariants.{Nothing, Setup, Command}
use Rattle.vm_memory.specs.declared.machine.setup.SetupReply.{SetupReply}
use Rattle.vm_memory.specs.declared.machine.setup.Setup as setups

-- the setup lines among lines of these meanings, and the commands
abbrev pub setups_of : List Line → List setups.Setup
setups_of [] = []
setups_of (Nothing ∷ meanings) = setups_of meanings
setups_of (Setup s ∷ meanings) = s ∷ setups_of meanings
setups_of (Command c ∷ meanings) = setups_of meanings

abbrev pub commands_of : List Line → List commands.Command
commands_of [] = []
commands_of (Nothing ∷ meanings) = commands_of meanings
commands_of (Setup s ∷ meanings) = commands_of meanings
commands_of (Command c ∷ meanings) = c ∷ commands_of meanings

-- setup lines that are made one after another
abbrev pub SetUpRun : State → List setups.Setup → List SetupReply → State → Type 0
SetUpRun old [] [] new = new ≡ old
SetUpRun old (s ∷ ss) (r ∷ rs) new = (mid : State) × SetsUp old s r mid × SetUpRun mid ss rs new
SetUpRun old [] (r ∷ rs) new = ⊥
SetUpRun old (s ∷ ss) [] new = ⊥

-- the lines of replies
abbrev pub setup_line : SetupReply → List ℕ
setup_line reply = text_of_setup reply ++ 10 ∷ []

abbrev pub reply_line : Reply → List ℕ
reply_line reply = text_of reply ++ 10 ∷ []
