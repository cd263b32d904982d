-- What the handle of a session owns.
use Rattle.std.specs.Prelude.{Option, Some, None}
use Rattle.std.specs.Box.Ownership.{box_owns}
use Rattle.libc.specs.Heap.{chunk}
use base.Fml.{Fml, ftrue}
use denote.RawPtr.{Ptr}
use Rattle.vm_session.specs.Retries.{WholeSession}
use Rattle.vm_session.specs.contracts.session.Session.{the_row}

-- an open one the session where it points to, and the right to free it; a closed one nothing
abbrev pub handle_owns : Ptr → Option WholeSession → Fml
handle_owns at None = ftrue
handle_owns at (Some state) = box_owns chunk the_row at state
