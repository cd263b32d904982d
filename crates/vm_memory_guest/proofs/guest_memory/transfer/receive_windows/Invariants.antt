use Rattle.std.proofs.Common.{◌≡◌}
use Rattle.vm_memory_guest.specs.Host.{shape_of}
use Rattle.vm_memory_guest.specs.Transfer.{Fills, filling}
use Rattle.vm_memory_guest.proofs.OrderLemmas.{Moved}
use Rattle.vm_memory_guest.proofs.guest_memory.transfer.receive_windows.Given as goal

abbrev pub invariant-loop-item : goal.invariant-loop-item
invariant-loop-item g l =
    record {
      moved : Moved (Fills g.S.ReadVolatile.source g.S.ReadVolatile.reads g.S.ReadVolatile.known_left g.B.Bitmap.marks
          (filling l.until_full)) l.fn.walk l.item-iterator (l.initial.source, l.initial.host)
          (l.source, l.host) l.total;
      shape : shape_of l.host ≡ shape_of l.initial.host;
    }
