-- What the exported calls do with the handle of a block device's connection.
use Rattle.std.specs.Prelude.{ℕ, List, Option, Some, None, Result, Ok, Err}
use Rattle.std.specs.declared.alloc.Global.{Global}
use Rattle.vhost_calls.specs.Calls.{Gives}
use Rattle.vhost_calls.specs.declared.values.VhostOffer.{VhostOffer}
use Rattle.vhost_backend.specs.BlockConnection.{Opens}
use Rattle.vhost_backend.specs.declared.block_connection.BlockConnection.{BlockConnection}
use Rattle.vhost_backend.specs.declared.block_connection.BlockDisk.{BlockDisk}

abbrev pub handle_of : Result BlockConnection ℕ → Result (Option BlockConnection) ℕ
handle_of (Ok c) = Ok (Some c)
handle_of (Err code) = Err code

-- a connection is opened, or it is refused and the handle stays
abbrev pub OpensAt : Global → VhostOffer → List ℕ → BlockDisk → Option BlockConnection → ℕ → Option BlockConnection → Type 0
OpensAt alloc offer config disk old code new =
    (r : Result BlockConnection ℕ) × Opens alloc offer config disk r × Gives (handle_of r) old code new

-- an open connection stays open, and this holds of it before and after
abbrev pub Stays : Option BlockConnection → Option BlockConnection → (BlockConnection → BlockConnection → Type 0) → Type 0
Stays (Some old) (Some new) P = P old new
Stays old new P = ⊥
