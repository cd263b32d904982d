-- Lists that go to an output, if it has room for them.
use Rattle.std.specs.Prelude.{◌≡◌, ◌⊎◌, ◌<◌, ◌≤◌, ℕ, List, length}
use Rattle.vm_memory.specs.declared.machine.command.Reply.{Reply}
use Rattle.vm_session.specs.Answers.{answer_of, bytes_of}
use Rattle.vm_session.specs.Codes.{short_of}
use Rattle.vm_session.specs.Session.{begins_with}
use Rattle.vm_session.specs.declared.call.Answer.{Answer}

abbrev pub ListsIf : Reply → List ℕ → Answer → List ℕ → Type 0
ListsIf r out a out' =
    ((length out < length (bytes_of r)) × (a ≡ short_of (length (bytes_of r))) × (out' ≡ out))
    ⊎ ((length (bytes_of r) ≤ length out) × (a ≡ answer_of r) × (out' ≡ begins_with (bytes_of r) out))
