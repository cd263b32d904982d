-- The codes of answers.
use Rattle.std.specs.Prelude.{ℕ}
use Rattle.vm_session.specs.declared.call.Answer.{Answer}

-- an answer that is no more than a code
abbrev pub coded : ℕ → Answer
coded code = record { code = code; count = 0; value = 0; address = 0 }

-- why a call is refused that no script can say: it means nothing, or its output is too short
abbrev pub bad_call : Answer
bad_call = coded 16

abbrev pub short_of : ℕ → Answer
short_of needed = record { code = 18; count = needed; value = 0; address = 0 }

-- an allocation failed
abbrev pub no_memory : Answer
no_memory = coded 3
