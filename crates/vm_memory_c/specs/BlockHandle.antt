-- What the handle of a block device's connection owns.
use Rattle.std.specs.Prelude.{Option, Some, None}
use Rattle.std.specs.Box.Ownership.{box_owns}
use Rattle.libc.specs.Heap.{chunk}
use base.Fml.{Fml, ftrue}
use denote.RawPtr.{Ptr}
use Rattle.vhost_backend.specs.declared.block_connection.BlockConnection.{BlockConnection}
use Rattle.vhost_backend.specs.contracts.block_connection.BlockConnection.{the_row}

-- an open one the connection where it points to, and the right to free it; a closed one nothing
abbrev pub block_owns : Ptr → Option BlockConnection → Fml
block_owns at None = ftrue
block_owns at (Some state) = box_owns chunk the_row at state
