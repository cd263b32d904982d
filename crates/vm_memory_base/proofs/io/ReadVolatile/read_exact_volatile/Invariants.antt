use Rattle.std.proofs.Common.{◌-◌, ◌≤◌, length, false}
use Rattle.vm_memory_base.specs.Transfer.{ReadsAfter}
use Rattle.vm_memory_base.specs.lemmas.Turns.{RestLeft}
use Rattle.vm_memory_base.proofs.io.ReadVolatile.read_exact_volatile.Given as goal

abbrev pub invariant-loop-done : goal.invariant-loop-done
invariant-loop-done g l =
    record {
      within : l.done ≤ length l.buf;
      rest : RestLeft (ReadsAfter g.Self.ReadVolatile.source g.Self.ReadVolatile.reads)
          (length l.initial.buf) (l.initial.self, l.initial.buf, false)
          l.done (l.self, l.buf, l.interrupted);
    }

abbrev pub decreases-loop-done : goal.decreases-loop-done
decreases-loop-done g l = l.all - l.done
