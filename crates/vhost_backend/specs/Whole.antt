-- Calls of a back end as a whole, each of which is something that happens to its connection, or nothing.
use Rattle.std.specs.Prelude.{◌≡◌, List}
use Rattle.vhost_backend.specs.Backend.{BackendState}
use Rattle.vhost_backend.specs.Messages.{Happening, after}

-- what happens to a connection leads from one state to another
abbrev pub Leads : BackendState → BackendState → Type 0
Leads b b' = (xs : List Happening) × (b' ≡ after xs b)
