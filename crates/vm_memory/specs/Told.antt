-- How the lines of a script get their replies, with what is not written yet. No public clause cites this module.
use Rattle.std.specs.Prelude.{◌≡◌, ◌++◌, ℕ, Bool, true, false, List, [], Option, Some, None, Result, Ok, Err}
use Rattle.std.specs.Borrow.{Bor}
use Rattle.std.specs.Io.KnownBytes.{Appends}
use Rattle.vm_memory.specs.ScriptMachine.{ScriptParts, state_made}
use Rattle.vm_memory.specs.Script.{Stage, setting, commanding, Answer, AnswersLine, IsBad, Ends}
use Rattle.vm_memory.specs.Lines.{Means}
use Rattle.vm_memory.specs.Words.{parts_of}
use Rattle.vm_memory.specs.declared.script.DriveFault.{DriveFault}
use Rattle.vm_memory.specs.declared.script.DriveFault.TheVariants as fault
use Rattle.vm_memory.specs.declared.script.line.Line.{Line}
use Rattle.vm_memory.specs.declared.script.line.Line.TheVariants.{Setup}

-- the lines that are left
abbrev pub lines_left : Option (Bor (List ℕ)) → List (List ℕ)
lines_left None = []
lines_left (Some text) = parts_of 10 text.now

-- where a session stands, by whether a command ran, and its machine
abbrev pub stage_of : Bool → ScriptParts → Stage
stage_of false machine = setting (state_made machine)
stage_of true machine = commanding (state_made machine)

-- a text was taken after what is not written yet, and what was sent of both is written
abbrev pub Puts : Option (List ℕ) → List ℕ → List ℕ → Bool → Option (List ℕ) → List ℕ → Type 0
Puts before pending text true after left =
    (sent : List ℕ) × Appends before after sent × (pending ++ text ≡ sent ++ left)
Puts before pending text false after left =
    (sent : List ℕ) × (rest : List ℕ) × Appends before after sent × (pending ++ text ≡ sent ++ rest)

-- nothing was sent
abbrev pub Waits : Option (List ℕ) → List ℕ → Option (List ℕ) → List ℕ → Type 0
Waits before pending after left = Appends before after [] × (left ≡ pending)

-- a setup line after a command
abbrev pub IsLate : Stage → Line → Type 0
IsLate (commanding s) (Setup setup) = Unit {0}
IsLate stage meaning = ⊥

-- the text of a reply was taken
abbrev pub TellsText : List ℕ → Result (Unit {0}) DriveFault → Option (List ℕ) → List ℕ → Option (List ℕ) → List ℕ
    → Type 0
TellsText text (Ok done) before pending after left = Puts before pending text true after left
TellsText text (Err fault.Write) before pending after left = Puts before pending text false after left
TellsText text (Err fault.Memory) before pending after left = Waits before pending after left
TellsText text (Err error) before pending after left = ⊥

-- the reply that a line of this meaning got
abbrev pub TellsMeaning : Stage → Line → ℕ → Result (Unit {0}) DriveFault → Stage → Option (List ℕ) → List ℕ
    → Option (List ℕ) → List ℕ → Type 0
TellsMeaning old meaning number (Ok done) new before pending after left =
    (text : List ℕ) × Answer old meaning text new × Puts before pending text true after left
TellsMeaning old meaning number (Err (fault.BadLine n)) new before pending after left =
    (n ≡ number) × IsLate old meaning × Waits before pending after left
TellsMeaning old meaning number (Err fault.Write) new before pending after left =
    (text : List ℕ) × (end : Stage) × Answer old meaning text end × Puts before pending text false after left
TellsMeaning old meaning number (Err error) new before pending after left = Waits before pending after left

-- the reply that one line got
abbrev pub Tells : Stage → List ℕ → ℕ → Result (Unit {0}) DriveFault → Stage → Option (List ℕ) → List ℕ
    → Option (List ℕ) → List ℕ → Type 0
Tells old line number (Ok done) new before pending after left =
    (text : List ℕ) × AnswersLine old line text new × Puts before pending text true after left
Tells old line number (Err (fault.BadLine n)) new before pending after left =
    (n ≡ number) × IsBad old line × Waits before pending after left
Tells old line number (Err fault.Write) new before pending after left =
    (text : List ℕ) × (end : Stage) × AnswersLine old line text end × Puts before pending text false after left
Tells old line number (Err error) new before pending after left = Waits before pending after left

-- what reading a line of this number gives if it has no meaning
abbrev pub Refuses : List ℕ → ℕ → DriveFault → Type 0
Refuses line number (fault.BadLine n) = (n ≡ number) × ((meaning : Line) → ¬ (Means line meaning))
Refuses line number fault.Memory = Unit {0}
Refuses line number error = ⊥

-- an error that is not a bad line
abbrev pub IsOutside : DriveFault → Type 0
IsOutside (fault.BadLine n) = ⊥
IsOutside error = Unit {0}

-- what is still to be written at the end of the lines
abbrev pub kept : Result (Unit {0}) DriveFault → List ℕ → List ℕ
kept (Err fault.Write) left = []
kept ending left = left

-- the replies that the lines got
abbrev pub TellsAll : List (List ℕ) → Result (Unit {0}) DriveFault → Option (List ℕ) → Option (List ℕ) → List ℕ → Type 0
TellsAll lines ending before after left =
    (sent : List ℕ) × Appends before after sent × Ends lines ending (sent ++ kept ending left)
