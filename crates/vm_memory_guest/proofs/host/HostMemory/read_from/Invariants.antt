use Rattle.std.proofs.Common.{◌≡◌}
use Rattle.vm_memory_base.specs.lemmas.Turns.{AgainLeft}
use Rattle.vm_memory_guest.specs.Host.{shape_of}
use Rattle.vm_memory_guest.specs.Transfer.{LendsWindow}
use Rattle.vm_memory_guest.proofs.host.HostMemory.read_from.Given as goal

abbrev pub invariant-loop-left : goal.invariant-loop-left
invariant-loop-left g l =
    record {
      shape : shape_of l.self ≡ shape_of l.initial.self;
      tries : AgainLeft (LendsWindow g.S.ReadVolatile.source g.S.ReadVolatile.reads g.B.Bitmap.marks l.window)
          (l.initial.source, l.initial.self) l.left
          (l.source, l.self);
    }

abbrev pub decreases-loop-left : goal.decreases-loop-left
decreases-loop-left g l = l.left
