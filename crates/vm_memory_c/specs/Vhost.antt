-- What the exported calls do with the handle of a connection.
use Rattle.std.specs.Prelude.{ℕ, List, Option, Some, None, Result, Ok, Err}
use Rattle.vhost_user.specs.Connection.{Connection}
use Rattle.vhost_calls.specs.Calls.{Gives, Opens}
use Rattle.vhost_calls.specs.declared.values.VhostOffer.{VhostOffer}

abbrev pub handle_of : Result Connection ℕ → Result (Option Connection) ℕ
handle_of (Ok c) = Ok (Some c)
handle_of (Err code) = Err code

-- a connection is opened, or it is refused and the handle stays
abbrev pub OpensAt : VhostOffer → List ℕ → Option Connection → ℕ → Option Connection → Type 0
OpensAt offer config old code new =
    (r : Result Connection ℕ) × Opens offer config r × Gives (handle_of r) old code new

-- an open connection stays open, and this holds of it before and after
abbrev pub StaysOpen : Option Connection → Option Connection → (Connection → Connection → Type 0) → Type 0
StaysOpen (Some old) (Some new) P = P old new
StaysOpen old new P = ⊥
