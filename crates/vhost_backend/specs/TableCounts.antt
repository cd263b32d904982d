-- How often the device's I/O table was changed.
use Rattle.std.specs.Prelude.{ℕ, ◌+◌, Option, Some, None}
use Rattle.vm_memory_base.specs.Table.{Table, evictions}
use Rattle.vhost_iotlb.specs.Kept.{event_of}
use Rattle.vhost_iotlb.specs.declared.kept.Change.{Change}
use Rattle.vhost_iotlb.specs.declared.kept.Change.TheVariants.{Map, Unmap}
use Rattle.vhost_backend.specs.PageList.{capped}
use Rattle.vhost_backend.specs.declared.table_counts.TableCounts.{TableCounts}

abbrev pub no_table_counts : TableCounts
no_table_counts = record { misses = 0; updates = 0; invalidations = 0; evictions = 0 }

-- a mapping was asked for
abbrev pub missed : TableCounts → TableCounts
missed t = record t { misses = capped (t.misses + 1) }

-- the table was changed, and evicted so many ranges
abbrev pub counted_by : TableCounts → Change → ℕ → TableCounts
counted_by t (Map iova to len permissions) evicted =
    record t { updates = capped (t.updates + 1); evictions = capped (t.evictions + evicted) }
counted_by t (Unmap iova len) evicted = record t { invalidations = capped (t.invalidations + 1) }

abbrev pub counted : TableCounts → Option Change → ℕ → TableCounts
counted t (Some change) evicted = counted_by t change evicted
counted t None evicted = t

-- so it is counted if it was done
abbrev pub counted_if : TableCounts → Option Change → Option ℕ → TableCounts
counted_if t change (Some evicted) = counted t change evicted
counted_if t change None = t

-- how many ranges a change has a table evict
abbrev pub evicted_for : Change → Table → ℕ
evicted_for (Map iova to len permissions) t = evictions (event_of (Map iova to len permissions)) t
evicted_for (Unmap iova len) t = 0

abbrev pub evicted_by : Option Change → Table → ℕ
evicted_by (Some change) t = evicted_for change t
evicted_by None t = 0
