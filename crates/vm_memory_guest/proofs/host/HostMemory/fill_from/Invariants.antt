use Rattle.std.proofs.Common.{◌≡◌, ◌-◌, ◌≤◌}
use Rattle.vm_memory_base.specs.Transfer.{Again}
use Rattle.vm_memory_base.specs.lemmas.Turns.{RestLeft}
use Rattle.vm_memory_guest.specs.Host.{shape_of}
use Rattle.vm_memory_guest.specs.Transfer.{LendsWindow}
use Rattle.vm_memory_guest.specs.Window.{part}
use Rattle.vm_memory_guest.proofs.host.HostMemory.fill_from.Given as goal

abbrev pub invariant-loop-filled : goal.invariant-loop-filled
invariant-loop-filled g l =
    record {
      shape : shape_of l.self ≡ shape_of l.initial.self;
      within : l.filled ≤ l.window.size;
      rest : RestLeft (λ filled. Again (LendsWindow g.S.ReadVolatile.source g.S.ReadVolatile.reads g.B.Bitmap.marks
          (part l.window filled (l.window.size - filled)))) l.window.size (l.initial.source, l.initial.self) l.filled
          (l.source, l.self);
    }

abbrev pub decreases-loop-filled : goal.decreases-loop-filled
decreases-loop-filled g l = l.window.size - l.filled
