use Rattle.std.proofs.Common.{◌-◌, ◌≤◌, take}
use Rattle.std.specs.Io.KnownBytes.{Consumes}
use Rattle.vm_memory_base.proofs.bytes.ByteValued.read_exact_from.Given as goal

abbrev pub invariant-loop-done : goal.invariant-loop-done
invariant-loop-done g l =
    record {
      within : l.done ≤ l.size;
      read : Consumes (g.R.Read.remaining l.initial.reader) (g.R.Read.remaining l.reader)
          (take l.done (g.Self.ByteValued.bytes l.value));
    }

abbrev pub decreases-loop-done : goal.decreases-loop-done
decreases-loop-done g l = l.size - l.done
