use Rattle.std.proofs.Common.{◌-◌, ◌≤◌, take}
use Rattle.std.specs.Io.KnownBytes.{Appends}
use Rattle.vm_memory_base.proofs.bytes.ByteValued.write_all_to.Given as goal

abbrev pub invariant-loop-done : goal.invariant-loop-done
invariant-loop-done g l =
    record {
      within : l.done ≤ l.size;
      written : Appends (g.W.Write.contents l.initial.writer) (g.W.Write.contents l.writer)
          (take l.done (g.Self.ByteValued.bytes l.self));
    }

abbrev pub decreases-loop-done : goal.decreases-loop-done
decreases-loop-done g l = l.size - l.done
