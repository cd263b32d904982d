-- Bytes in memory as sources and sinks, from a position on, and vectors as sinks.
use Rattle.std.specs.Prelude.{◌≡◌, ℕ, ◌-◌, ◌<◌, List, [], ◌++◌, length, take, drop, Option, Some, Result, IfOk, MatchResult}
use Rattle.vm_memory_base.specs.Transfer.{Answer, Next, giving, Sink, over_front}
use Rattle.vm_memory_base.specs.declared.io.VolatileMemoryError.{VolatileMemoryError}
use Rattle.vm_memory_base.specs.declared.io.VolatileMemoryError.TheVariants.{Memory}

-- a source that gives the bytes from a position on
abbrev pub giving_from : List ℕ → ℕ → Option (List Next)
giving_from bytes at = Some (giving (drop at bytes) [])

-- a sink that has room for as many bytes as there are from a position on
abbrev pub room_from : List ℕ → ℕ → Option Sink
room_from bytes at = Some (record { next = []; room = Some (length bytes - at) })

-- bytes with others over those from a position on
abbrev pub put_from : ℕ → List ℕ → List ℕ → List ℕ
put_from at others bytes = take at bytes ++ over_front others (drop at bytes)

-- bytes were given to a vector: it has all of them more. Or the allocation failed, and it has none more
abbrev pub HasAllOrNone : {T : Type 0} → List ℕ → List ℕ → Result T VolatileMemoryError → List ℕ → Type 0
HasAllOrNone old bytes answer new =
    MatchResult answer (λ all. new ≡ old ++ bytes) (λ e. (e ≡ Memory) × (0 < length bytes) × (new ≡ old))

-- one write to a vector
abbrev pub WritesWhole : List ℕ → List ℕ → Answer → List ℕ → Type 0
WritesWhole old bytes answer new = IfOk answer (λ count. count ≡ length bytes) × HasAllOrNone old bytes answer new
