-- Bytes of the configuration that the device changes.
use Rattle.std.specs.Prelude.{ℕ, List, Result, Ok, Err}
use Rattle.vhost_message.specs.declared.refusal.Refusal.{Refusal}
use Rattle.vhost_user.specs.Connection.{Connection, with_changed_config}
use Rattle.vhost_backend.specs.Backend.{BackendState}

abbrev pub changed_by : BackendState → Result Connection Refusal → BackendState
changed_by b (Ok new) = record b { connection = new }
changed_by b (Err e) = b

-- if the configuration has them
abbrev pub config_changed : BackendState → ℕ → List ℕ → BackendState
config_changed b offset bytes = changed_by b (with_changed_config b.connection offset bytes)
