-- A machine as a model: a step of it, and a run of steps.
use Rattle.std.specs.Prelude.{◌≡◌, ◌⊎◌, List, [], ◌∷◌}
use Rattle.vm_memory.specs.Commands.{effect, MayWant}
use Rattle.vm_memory.specs.Effect.{apply}
use Rattle.vm_memory.specs.State.{State}
use Rattle.vm_memory.specs.declared.machine.command.Command.{Command}
use Rattle.vm_memory.specs.declared.machine.command.Reply.{Reply}
use Rattle.vm_memory.specs.declared.machine.command.Reply.TheVariants.{Memory}

-- the reply to a command and what it leaves, if no allocation fails
abbrev pub outcome : State → Command → Reply × State
outcome old c = apply old (effect old c)

-- from old, a machine may reply so to a command and be in new then
abbrev pub Step : State → Command → Reply → State → Type 0
Step old c r new = ((r, new) ≡ outcome old c) ⊎ ((r ≡ Memory) × MayWant old c × (new ≡ old))

-- from old, a machine may reply so to these commands, one after another, and be in new then
abbrev pub Run : State → List Command → List Reply → State → Type 0
Run old [] [] new = new ≡ old
Run old (c ∷ cs) (r ∷ rs) new = (mid : State) × Step old c r mid × Run mid cs rs new
Run old [] (r ∷ rs) new = ⊥
Run old (c ∷ cs) [] new = ⊥
