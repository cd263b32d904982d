-- What the exported calls do with the handle of a session.
use Rattle.std.specs.Prelude.{◌≡◌, ◌⊎◌, ℕ, List, Option, Some, None}
use Rattle.vm_session.specs.Misses.{MissesIf}
use Rattle.vm_session.specs.Retries.{AnswersCall, AnswersGivenBack, AnswersLent, WholeSession, new_session}
use Rattle.vm_session.specs.declared.call.Answer.{Answer}
use Rattle.vm_session.specs.declared.call.Call.{Call}
use Rattle.vm_session.specs.declared.call.Miss.{Miss}

-- a session is opened, or an allocation fails and the handle stays
abbrev pub Opens : Option WholeSession → ℕ → Option WholeSession → Type 0
Opens old code new = ((code ≡ 0) × (new ≡ Some new_session)) ⊎ ((code ≡ 3) × (new ≡ old))

-- a call of an open session was made, and it stays open
abbrev pub CallsAt : Option WholeSession → Call → List ℕ → List ℕ → Answer → List ℕ → Option WholeSession → Type 0
CallsAt (Some old) call input out a out' (Some new) = AnswersCall old call input out a out' new
CallsAt old call input out a out' new = ⊥

-- bytes were lent to an open session as a block, and it stays open
abbrev pub LendsAt : Option WholeSession → List ℕ → ℕ → Answer → Option WholeSession → Type 0
LendsAt (Some old) bytes page a (Some new) = AnswersLent old bytes page a new
LendsAt old bytes page a new = ⊥

-- a block of an open session was given back, and it stays open: the code is that of the answer
abbrev pub GivesBackAt : Option WholeSession → ℕ → ℕ → Option WholeSession → Type 0
GivesBackAt (Some old) block code (Some new) = (a : Answer) × AnswersGivenBack old block a new × (code ≡ a.code)
GivesBackAt old block code new = ⊥

-- what the call missed is returned, if a table refused it
abbrev pub MissesAt : Option WholeSession → Call → Answer → Miss → Miss → Type 0
MissesAt (Some new) call a miss miss' = MissesIf new.parts call a miss miss'
MissesAt None call a miss miss' = ⊥
