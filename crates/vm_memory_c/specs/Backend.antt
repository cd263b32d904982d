-- What the handle of a connection owns.
use Rattle.std.specs.Prelude.{Option, Some, None}
use Rattle.std.specs.Box.Ownership.{box_owns}
use Rattle.libc.specs.Heap.{chunk}
use base.Fml.{Fml, ftrue}
use denote.RawPtr.{Ptr}
use Rattle.vhost_user.specs.Connection.{Connection}
use Rattle.vhost_user.specs.contracts.backend_req_handler.BackendReqHandler.{the_row}

-- an open one the connection where it points to, and the right to free it; a closed one nothing
abbrev pub backend_owns : Ptr → Option Connection → Fml
backend_owns at None = ftrue
backend_owns at (Some state) = box_owns chunk the_row at state
