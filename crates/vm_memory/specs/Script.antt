-- The replies of a script, line by line, and how it ends.
use Rattle.std.specs.Prelude.{◌≡◌, ◌⊎◌, ◌+◌, ◌++◌, ℕ, List, [], ◌∷◌, length, Result, Ok, Err, codes}
use Rattle.std.specs.Fmt.{decimal}
use Rattle.vm_memory.specs.Lines.{Means}
use Rattle.vm_memory.specs.Machine.{Step}
use Rattle.vm_memory.specs.ScriptMachine.{no_parts, state_made}
use Rattle.vm_memory.specs.Setup.{SetsUp}
use Rattle.vm_memory.specs.State.{State}
use Rattle.vm_memory.specs.Texts.{text_of, text_of_setup}
use Rattle.vm_memory.specs.Words.{parts_of}
use Rattle.vm_memory.specs.declared.machine.command.Reply.{Reply}
use Rattle.vm_memory.specs.declared.script.DriveFault.{DriveFault}
use Rattle.vm_memory.specs.declared.script.DriveFault.TheVariants as fault
use Rattle.vm_memory.specs.declared.script.line.Line.{Line}
use Rattle.vm_memory.specs.declared.script.line.Line.TheVariants.{Nothing, Setup, Command}
use Rattle.vm_memory.specs.declared.machine.setup.SetupReply.{SetupReply}
use Rattle.vm_memory.specs.declared.machine.setup.Setup as setups

-- the status that a program ends with if a script did not run to its end
abbrev pub status_of : DriveFault → ℕ
status_of (fault.BadLine number) = 1
status_of fault.Read = 2
status_of fault.Write = 2
status_of fault.Memory = 3

-- and the text that says why
abbrev pub text_of_drive_fault : DriveFault → List ℕ
text_of_drive_fault (fault.BadLine number) = codes "line " ++ decimal number ++ codes ": bad line"
text_of_drive_fault fault.Read = codes "read failed"
text_of_drive_fault fault.Write = codes "write failed"
text_of_drive_fault fault.Memory = codes "out of memory"

-- where a script stands: before its first command, or after it
pub data Stage : Type 0 where
  setting : State → Stage
  commanding : State → Stage

abbrev pub state_at : Stage → State
state_at (setting s) = s
state_at (commanding s) = s

-- nothing is made
abbrev pub beginning : Stage
beginning = setting (state_made no_parts)

-- what the reply to a line of this meaning may be: the text, and where the script stands then
abbrev pub Answer : Stage → Line → List ℕ → Stage → Type 0
Answer old Nothing text new = (text ≡ []) × (new ≡ old)
Answer (setting s) (Setup setup) text new =
    (reply : SetupReply) × (after : State) × SetsUp s setup reply after
    × (text ≡ text_of_setup reply ++ 10 ∷ []) × (new ≡ setting after)
Answer (commanding s) (Setup setup) text new = ⊥
Answer old (Command command) text new =
    (reply : Reply) × (after : State) × Step (state_at old) command reply after
    × (text ≡ text_of reply ++ 10 ∷ []) × (new ≡ commanding after)

abbrev pub AnswersLine : Stage → List ℕ → List ℕ → Stage → Type 0
AnswersLine old line text new = (meaning : Line) × Means line meaning × Answer old meaning text new

-- lines that get their replies one after another
abbrev pub Answers : Stage → List (List ℕ) → List ℕ → Stage → Type 0
Answers old [] text new = (text ≡ []) × (new ≡ old)
Answers old (line ∷ lines) text new =
    (first : List ℕ) × (others : List ℕ) × (mid : Stage) × AnswersLine old line first mid
    × Answers mid lines others new × (text ≡ first ++ others)

-- a line that sets up after a command
abbrev pub SetsUpLate : Stage → List ℕ → Type 0
SetsUpLate (setting s) line = ⊥
SetsUpLate (commanding s) line = (setup : setups.Setup) × Means line (Setup setup)

-- a line is bad that means nothing, or that sets up after a command
abbrev pub IsBad : Stage → List ℕ → Type 0
IsBad old line = ((meaning : Line) → ¬ (Means line meaning)) ⊎ SetsUpLate old line

-- what was written is the beginning of the replies to some of the lines, from the first on
abbrev pub BreaksOff : List (List ℕ) → List ℕ → Type 0
BreaksOff lines written = (done : List (List ℕ)) × (left : List (List ℕ)) × (text : List ℕ) × (rest : List ℕ)
    × (end : Stage) × (lines ≡ done ++ left) × Answers beginning done text end × (text ≡ written ++ rest)

-- how a script of these lines ends, and what it wrote
abbrev pub Ends : List (List ℕ) → Result (Unit {0}) DriveFault → List ℕ → Type 0
Ends lines (Ok done) written = (end : Stage) × Answers beginning lines written end
Ends lines (Err (fault.BadLine number)) written =
    (before : List (List ℕ)) × (line : List ℕ) × (left : List (List ℕ)) × (end : Stage)
    × (lines ≡ before ++ line ∷ left) × (number ≡ length before + 1)
    × Answers beginning before written end × IsBad end line
Ends lines (Err error) written = BreaksOff lines written

-- the script of a text, whose lines end with line feeds; the last may lack it
abbrev pub Drives : List ℕ → Result (Unit {0}) DriveFault → List ℕ → Type 0
Drives text ending written = Ends (parts_of 10 text) ending written
