-- What a session answers to a line, by its meaning.
use Rattle.std.proofs.Common.{◌≡◌, ℕ, Bool, true, false, List, [], ◌∷◌, ◌++◌, Option, Result, Ok, Err, refl, sym, subst, inr}
use Rattle.std.proofs.lemmas.Bool.{false≢true}
use Rattle.vm_memory.specs.Lines.{Means}
use Rattle.vm_memory.specs.Machine.{Step}
use Rattle.vm_memory.specs.ScriptMachine.{ScriptParts, state_made}
use Rattle.vm_memory.specs.Script.{Stage, setting, commanding, state_at}
use Rattle.vm_memory.specs.Setup.{SetsUp}
use Rattle.vm_memory.specs.State.{State}
use Rattle.vm_memory.specs.Texts.{text_of, text_of_setup}
use Rattle.vm_memory.specs.Told.{Tells, TellsMeaning, TellsText, stage_of}
use Rattle.vm_memory.specs.declared.machine.command.Command as commands
use Rattle.vm_memory.specs.declared.machine.command.Reply.{Reply}
use Rattle.vm_memory.specs.declared.script.DriveFault.{DriveFault}
use Rattle.vm_memory.specs.declared.script.DriveFault.TheVariants as fault
use Rattle.vm_memory.specs.declared.script.line.Line.{Line}
use Rattle.vm_memory.specs.declared.script.line.Line.TheVariants.{Nothing, Setup, Command}
use Rattle.vm_memory.specs.declared.machine.setup.SetupReply.{SetupReply}
use Rattle.vm_memory.specs.declared.machine.setup.Setup as setups

-- the end of a line that was told, of some output and what waits
module _ (before : Option (List ℕ)) (pending : List ℕ) (after : Option (List ℕ)) (left : List ℕ) where
  pub setup-told : (old new : State) (s : setups.Setup) (reply : SetupReply) (n : ℕ)
      (r : Result (Unit {0}) DriveFault) → SetsUp old s reply new
      → TellsText (text_of_setup reply ++ 10 ∷ []) r before pending after left
      → TellsMeaning (setting old) (Setup s) n r (setting new) before pending after left
  setup-told old new s reply n (Ok done) h told = (_, (reply, new, h, refl, refl), told)
  setup-told old new s reply n (Err (fault.BadLine m)) h told = absurd told
  setup-told old new s reply n (Err fault.Read) h told = absurd told
  setup-told old new s reply n (Err fault.Write) h told = (_, setting new, (reply, new, h, refl, refl), told)
  setup-told old new s reply n (Err fault.Memory) h told = told

  command-answered : (old : Stage) (now new : State) (c : commands.Command) (reply : Reply) (n : ℕ)
      (r : Result (Unit {0}) DriveFault) → now ≡ state_at old → Step now c reply new
      → TellsText (text_of reply ++ 10 ∷ []) r before pending after left
      → TellsMeaning old (Command c) n r (commanding new) before pending after left
  command-answered (setting s) now new c reply n (Ok done) e h told =
      (_, (reply, new, subst (λ q. Step q c reply new) e h, refl, refl), told)
  command-answered (setting s) now new c reply n (Err (fault.BadLine m)) e h told = absurd told
  command-answered (setting s) now new c reply n (Err fault.Read) e h told = absurd told
  command-answered (setting s) now new c reply n (Err fault.Write) e h told =
      (_, commanding new, (reply, new, subst (λ q. Step q c reply new) e h, refl, refl), told)
  command-answered (setting s) now new c reply n (Err fault.Memory) e h told = told
  command-answered (commanding s) now new c reply n (Ok done) e h told =
      (_, (reply, new, subst (λ q. Step q c reply new) e h, refl, refl), told)
  command-answered (commanding s) now new c reply n (Err (fault.BadLine m)) e h told = absurd told
  command-answered (commanding s) now new c reply n (Err fault.Read) e h told = absurd told
  command-answered (commanding s) now new c reply n (Err fault.Write) e h told =
      (_, commanding new, (reply, new, subst (λ q. Step q c reply new) e h, refl, refl), told)
  command-answered (commanding s) now new c reply n (Err fault.Memory) e h told = told

  pub command-told : (old : Stage) (now new : State) (c : commands.Command) (reply : Reply) (n : ℕ)
      (r : Result (Unit {0}) DriveFault) → now ≡ state_at old → Step now c reply new
      → TellsText (text_of reply ++ 10 ∷ []) r before pending after left
      → TellsMeaning old (Command c) n r (commanding new) before pending after left
  command-told = command-answered

  -- a line is told by its meaning
  pub tells-meaning : (old new : Stage) (line : List ℕ) (m : Line) (n : ℕ) (r : Result (Unit {0}) DriveFault)
      → Means line m → TellsMeaning old m n r new before pending after left
      → Tells old line n r new before pending after left
  tells-meaning old new line m n (Ok done) h told = (told.0, (m, h, told.1), told.2)
  tells-meaning (setting s) new line m n (Err (fault.BadLine k)) h told = absurd told.1
  tells-meaning (commanding s) new line Nothing n (Err (fault.BadLine k)) h told = absurd told.1
  tells-meaning (commanding s) new line (Setup u) n (Err (fault.BadLine k)) h told = (told.0, inr (u, h), told.2)
  tells-meaning (commanding s) new line (Command c) n (Err (fault.BadLine k)) h told = absurd told.1
  tells-meaning old new line m n (Err fault.Read) h told = told
  tells-meaning old new line m n (Err fault.Write) h told = (told.0, told.1, (m, h, told.2), told.3)
  tells-meaning old new line m n (Err fault.Memory) h told = told

  -- before the first command
  pub not_commanded : (commanded : Bool) (old new : ScriptParts) (m : Line) (n : ℕ)
      (r : Result (Unit {0}) DriveFault) → commanded ≡ false
      → TellsMeaning (setting (state_made old)) m n r (setting (state_made new)) before pending after left
      → TellsMeaning (stage_of commanded old) m n r (stage_of commanded new) before pending after left
  not_commanded false old new m n r none told = told
  not_commanded true old new m n r none told = absurd (false≢true (sym none))

-- its state, wherever it stands
pub state_of_stage : (commanded : Bool) (machine : ScriptParts)
    → state_made machine ≡ state_at (stage_of commanded machine)
state_of_stage false machine = refl
state_of_stage true machine = refl
