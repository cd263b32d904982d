use Rattle.std.proofs.Common.{◌≡◌}
use Rattle.vm_memory_guest.specs.Host.{shape_of}
use Rattle.linux_loader.proofs.LoadLemmas.{Loaded}
use Rattle.linux_loader.proofs.plan.load_segments.Given as goal

abbrev pub invariant-loop-segment : goal.invariant-loop-segment
invariant-loop-segment g l =
    Loaded g.F.KernelImage.bytes g.F.ReadVolatile.source g.F.ReadVolatile.reads g.F.ReadVolatile.known_left
    g.B.Bitmap.marks (g.M.GuestMemory.memory l.mem) l.segments (l.initial.image, l.initial.host) l.segment-index
    (l.image, l.host)
    × (shape_of l.host ≡ shape_of l.initial.host)
