-- Lists as bytes: numbers of eight bytes each, the lowest first.
use Rattle.std.specs.Prelude.{ℕ, Bool, true, false, List, [], ◌∷◌, ◌++◌, ◌==◌, ◌%◌, ◌/◌, nat_lt, if◌then◌else◌, length, map, Option, Some, None}
use Rattle.std.specs.Int.{w64, to_le_bytes, from_le_bytes}
use Rattle.std.specs.Simd.{first_chunks}
use Rattle.vm_memory_base.specs.declared.io.scripted.SinkStep.{SinkStep}
use Rattle.vm_memory_base.specs.declared.io.scripted.SinkStep.TheVariants as sinks
use Rattle.vm_memory_base.specs.declared.io.scripted.SourceStep.{SourceStep}
use Rattle.vm_memory_base.specs.declared.io.scripted.SourceStep.TheVariants as sources

-- two numbers
abbrev pub row_bytes : ℕ → ℕ → List ℕ
row_bytes a b = to_le_bytes w64 a ++ to_le_bytes w64 b

-- the numbers that bytes list, if they are whole
abbrev pub numbers_in : List ℕ → Option (List ℕ)
numbers_in bytes =
    if length bytes % 8 == 0 then Some (map (from_le_bytes w64) (first_chunks 8 (length bytes / 8) bytes)) else None

abbrev pub put_first : {X : Type 0} → Option X → Option (List X) → Option (List X)
put_first None rest = None
put_first (Some x) None = None
put_first (Some x) (Some xs) = Some (x ∷ xs)

-- a step of a source by what it does with bytes: it gives them, or leaves them there and is interrupted, or fails
abbrev pub source_at : ℕ → List ℕ → Option SourceStep
source_at number bytes =
    if number == 256 then Some (sources.Give bytes)
    else if number == 257 then Some (sources.Interrupted bytes)
    else if number == 258 then Some (sources.Fail bytes)
    else None

-- the steps of a source: of each its bytes, a number for each, and then what it does with them
abbrev pub sources_in : List ℕ → List ℕ → Option (List SourceStep)
sources_in bytes [] = if length bytes == 0 then Some [] else None
sources_in bytes (number ∷ numbers) =
    if nat_lt number 256 then sources_in (bytes ++ number ∷ []) numbers
    else put_first (source_at number bytes) (sources_in [] numbers)

-- a step of a sink that takes nothing: it is interrupted, or fails
abbrev pub sink_at : ℕ → Option SinkStep
sink_at number = if number == 1 then Some sinks.Interrupted else if number == 2 then Some sinks.Fail else None

-- the steps of a sink. After 0 stands how many bytes it takes at most
abbrev pub sinks_in : Bool → List ℕ → Option (List SinkStep)
sinks_in taking [] = if taking then None else Some []
sinks_in true (most ∷ numbers) = put_first (Some (sinks.Take most)) (sinks_in false numbers)
sinks_in false (number ∷ numbers) =
    if number == 0 then sinks_in true numbers else put_first (sink_at number) (sinks_in false numbers)
