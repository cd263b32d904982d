-- What translates the addresses of rings in a turn.
use Rattle.std.specs.Prelude.{Bool, Option, Some, None}
use Rattle.std.specs.Borrow.{Bor}
use Rattle.vm_memory_base.specs.Table.{Table}
use Rattle.vhost_backend.specs.declared.block_queue.behind.Way.{Way}

pub record Sight : Type 0 where
  pub table : Table
  -- whether a mapping that it misses can be asked for
  pub can_ask : Bool

abbrev pub sight_of : Option (Bor Way) → Option Sight
sight_of None = None
sight_of (Some way) = Some (record { table = way.now.table.now; can_ask = way.now.can_ask })
