use Rattle.std.proofs.Common.{◌-◌, ◌≤◌, length, drop}
use Rattle.vm_memory_base.specs.Transfer.{Again, TakesOnce}
use Rattle.vm_memory_base.specs.lemmas.Turns.{RestLeft}
use Rattle.vm_memory_base.proofs.io.WriteVolatile.write_all_volatile.Given as goal

abbrev pub invariant-loop-done : goal.invariant-loop-done
invariant-loop-done g l =
    let w = g.Self.WriteVolatile in
    record {
      within : l.done ≤ length l.buf;
      rest : RestLeft (λ done. Again (TakesOnce w.sink w.taken w.may_want w.writes (drop done l.buf))) (length l.buf)
          l.initial.self l.done l.self;
    }

abbrev pub decreases-loop-done : goal.decreases-loop-done
decreases-loop-done g l = length l.buf - l.done
