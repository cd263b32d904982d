-- Stores to the region of a queue.
use Rattle.std.specs.Prelude.{ℕ, ◌+◌, nat_le, if◌then◌else◌, List, [], ◌∷◌, ◌++◌, length, take, drop}
use Rattle.std.specs.Int.{w16, w64, to_le_bytes}
use Rattle.vhost_inflight.specs.declared.store.Store.{Store}
use Rattle.vhost_inflight.specs.declared.store.Value.{Value}
use Rattle.vhost_inflight.specs.declared.store.Value.TheVariants.{Byte, Word, Quad}

-- the bytes of a number, the lowest first
abbrev pub value_bytes : Value → List ℕ
value_bytes (Byte n) = n ∷ []
value_bytes (Word n) = to_le_bytes w16 n
value_bytes (Quad n) = to_le_bytes w64 n

-- the byte behind a store
abbrev pub store_end : Store → ℕ
store_end s = s.offset + length (value_bytes s.value)

-- the bytes of a region after a store. One that does not lie in the region changes nothing
abbrev pub stored : List ℕ → Store → List ℕ
stored bytes s = if nat_le (store_end s) (length bytes)
    then take s.offset bytes ++ (value_bytes s.value ++ drop (store_end s) bytes) else bytes
