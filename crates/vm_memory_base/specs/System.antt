-- What readers and writers of the system do as sources and sinks, as far as their calls say.
use Rattle.std.specs.Prelude.{◌≡◌, ℕ, List, Option, Result, Ok, Err, IfErr}
use Rattle.std.specs.IoError.{error_kind}
use Rattle.std.specs.Io.KnownBytes.{ReadConsumes, WriteAppends}
use Rattle.std.specs.declared.io.Error.{Error}
use Rattle.std.specs.declared.io.ErrorKind.{ErrorKind}
use Rattle.vm_memory_base.specs.Transfer.{Answer}
use Rattle.vm_memory_base.specs.declared.io.VolatileMemoryError.{VolatileMemoryError}
use Rattle.vm_memory_base.specs.declared.io.VolatileMemoryError.TheVariants.{IOError}

-- a result of the system, as sources and sinks report it: the count, or the kind of the error
abbrev pub told_as : Result ℕ Error → Answer
told_as (Ok count) = Ok count
told_as (Err e) = Err (IOError (error_kind e))

-- an error of I/O, of whatever kind: it is left open whether the system's is of the same
abbrev pub IsOfSystem : VolatileMemoryError → Type 0
IsOfSystem e = (kind : ErrorKind) × (e ≡ IOError kind)

-- one read of a reader: it gave as many bytes as were counted, or failed by an error of I/O
abbrev pub ReadsOnce : {S : Type 0} → (S → Option (List ℕ)) → S → List ℕ → Answer → List ℕ → S → Type 0
ReadsOnce remaining old buffer answer new after =
    ReadConsumes (remaining old) (remaining after) answer new × IfErr answer IsOfSystem

-- one write of a writer: it took as many bytes as were counted, or failed by an error of I/O
abbrev pub WritesOnce : {S : Type 0} → (S → Option (List ℕ)) → S → List ℕ → Answer → S → Type 0
WritesOnce contents old bytes answer after =
    WriteAppends (contents old) (contents after) answer bytes × IfErr answer IsOfSystem
